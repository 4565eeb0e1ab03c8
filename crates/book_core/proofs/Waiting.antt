-- What a message owes where it waits, from one destination to the next.
use Rattle.std.proofs.Common.{◌≡◌, ℕ, ◌+◌, ◌*◌, ◌<◌, ◌≤◌, ◌==◌, ◌&&◌, Bool, true, false, Option, None, Some, refl, sym, ◌∙◌, ap, arith, suc, zero, add-one}
use Rattle.std.specs.Prelude.{sum_by, if◌then◌else◌}
use Rattle.std.specs.Int.{bit_at}
use Rattle.std.specs.List.{range_with_len}
use Rattle.std.specs.Option.{option_map_or}
use Rattle.std.proofs.lemmas.List.Sums.{sum_by_push}
use Rattle.plan_text.specs.Entries.{PlanEntry}
use Rattle.dest_queue.specs.declared.SlotState.{SlotState}
use Rattle.dest_queue.specs.declared.SlotState.TheVariants.{Waiting, InFlight, Delivered, Failed}
use Rattle.dest_queue.specs.States.{is_waiting}
use Rattle.event_log.specs.Answers.{attempts_max, mask_where}
use Rattle.event_log.specs.Room.{slot_owed}
use Rattle.event_log.proofs.Masks.{mask_below, mask_below-more, mask_where-zero, range-push}
use Rattle.book_core.specs.inner.Sending.{owed_waiting}

-- whether the slot at d waits, and the mask names d
abbrev pub waits_by : ℕ → (ℕ → Option SlotState) → ℕ → Bool
waits_by among slots d = (bit_at among d == 1) && option_map_or is_waiting (slots d) false

-- what the slot at d owes if it waits, and the mask names d
abbrev pub owed_at : PlanEntry → ℕ → (ℕ → Option SlotState) → ℕ → ℕ
owed_at plan among slots d = option_map_or (λ state. if (bit_at among d == 1) && is_waiting state then slot_owed (attempts_max plan d) state else 0) (slots d) 0

-- what the slots below k owe where they wait
abbrev pub owed_below : ℕ → PlanEntry → ℕ → (ℕ → Option SlotState) → ℕ
owed_below k plan among slots = sum_by (owed_at plan among slots) (range_with_len 0 k)

-- one more slot adds what it owes
owed_below-more : (k : ℕ) (plan : PlanEntry) (among : ℕ) (slots : ℕ → Option SlotState) → owed_below (k + 1) plan among slots ≡ owed_below k plan among slots + owed_at plan among slots k
owed_below-more k plan among slots = ap (sum_by (owed_at plan among slots)) (range-push k) ∙ sum_by_push (owed_at plan among slots) (range_with_len 0 k) k

-- so far: the slots below d
pub record SoFar (plan : PlanEntry) (among : ℕ) (slots : ℕ → Option SlotState) (owed d : ℕ) : Type 0 where
  pub owed_is : owed ≡ owed_below d plan among slots
  pub few : owed ≤ d * 201

-- no slot at first
pub none-yet : (plan : PlanEntry) (among : ℕ) (slots : ℕ → Option SlotState) → SoFar plan among slots 0 0
none-yet plan among slots = record { owed_is = refl; few = omega arith }

-- a slot that waits owes at most 201
pub owed-small : (named : Bool) (max : ℕ) (state : SlotState) → max ≤ 100 → (named && is_waiting state) ≡ true → slot_owed max state ≤ 201
owed-small false max state few waits = absurd (cc)
owed-small true max (Waiting attempts due) few waits = omega arith
owed-small true max (InFlight attempt) few waits = absurd (cc)
owed-small true max Delivered few waits = omega arith
owed-small true max (Failed cause) few waits = omega arith

module _ (plan : PlanEntry) (among : ℕ) (slots : ℕ → Option SlotState) (owed d : ℕ) (so_far : SoFar plan among slots owed d) (owed' : ℕ) where
  -- one more slot
  more : (own : ℕ) → own ≡ owed_at plan among slots d → own ≤ 201 → owed' ≡ owed + own → SoFar plan among slots owed' (d + 1)
  more own own_is small owed_is = record {
    owed_is = omega (arith, owed_below-more d plan among slots, so_far.owed_is);
    few = omega (arith, so_far.few);
  }

  -- the next slot waits, and is named
  pub one-waits : (state : SlotState) (own : ℕ) → slots d ≡ Some state → ((bit_at among d == 1) && is_waiting state) ≡ true → own ≡ slot_owed (attempts_max plan d) state → attempts_max plan d ≤ 100
      → owed' ≡ owed + own → SoFar plan among slots owed' (d + 1)
  one-waits state own is waits own_is few owed_is =
      more own (rw (is, waits) own_is) (omega (arith, owed-small (bit_at among d == 1) (attempts_max plan d) state few waits)) owed_is

  -- the next slot doesn't wait, or isn't named
  pub one-settled : (state : SlotState) → slots d ≡ Some state → ((bit_at among d == 1) && is_waiting state) ≡ false → owed' ≡ owed → SoFar plan among slots owed' (d + 1)
  one-settled state is waits owed_is = more 0 (rw (is, waits) refl) (omega arith) (omega arith)

  -- there is no next slot
  pub none-there : slots d ≡ None → owed' ≡ owed → SoFar plan among slots owed' (d + 1)
  none-there is owed_is = more 0 (rw is refl) (omega arith) (omega arith)

-- all slots are passed: what they owe
pub all-owed : (plan : PlanEntry) (among : ℕ) (slots : ℕ → Option SlotState) (owed d : ℕ) → SoFar plan among slots owed d → d ≡ 32 → owed ≡ owed_waiting plan among slots
all-owed plan among slots owed d so_far all = so_far.owed_is ∙ ap (λ k. owed_below k plan among slots) all

-- a slot that owes nothing doesn't wait, or isn't named
owes-nothing : (named : Bool) (max : ℕ) (slot : Option SlotState) → option_map_or (λ state. if named && is_waiting state then slot_owed max state else 0) slot 0 ≡ 0 → (named && option_map_or is_waiting slot false) ≡ false
owes-nothing false max slot none = refl
owes-nothing true max None none = refl
owes-nothing true max (Some (Waiting attempts due)) none = absurd (omega arith)
owes-nothing true max (Some (InFlight attempt)) none = refl
owes-nothing true max (Some Delivered) none = refl
owes-nothing true max (Some (Failed cause)) none = refl

-- a slot that doesn't wait, or isn't named, owes nothing
waits-not : (named : Bool) (max : ℕ) (slot : Option SlotState) → (named && option_map_or is_waiting slot false) ≡ false → option_map_or (λ state. if named && is_waiting state then slot_owed max state else 0) slot 0 ≡ 0
waits-not named max None idle = refl
waits-not false max (Some state) idle = refl
waits-not true max (Some (Waiting attempts due)) idle = absurd cc
waits-not true max (Some (InFlight attempt)) idle = refl
waits-not true max (Some Delivered) idle = refl
waits-not true max (Some (Failed cause)) idle = refl

-- where nothing is owed, nothing waits
nowhere-below : (k : ℕ) (plan : PlanEntry) (among : ℕ) (slots : ℕ → Option SlotState) → owed_below k plan among slots ≡ 0 → mask_below k (waits_by among slots) ≡ 0
nowhere-below zero plan among slots none = refl
nowhere-below (suc k) plan among slots none =
    let both : owed_below k plan among slots + owed_at plan among slots k ≡ 0 = sym (owed_below-more k plan among slots) ∙ (ap (λ n. owed_below n plan among slots) (add-one k) ∙ none) in
    let rest = nowhere-below k plan among slots (omega arith) in
    let here : waits_by among slots k ≡ false = owes-nothing (bit_at among k == 1) (attempts_max plan k) (slots k) (omega arith) in
    ap (λ n. mask_below n (waits_by among slots)) (sym (add-one k)) ∙ (mask_below-more k (waits_by among slots) ∙ rw (rest, here) refl)

-- where nothing waits, nothing is owed
nothing-below : (k : ℕ) (plan : PlanEntry) (among : ℕ) (slots : ℕ → Option SlotState) → ((d : ℕ) → d < k → waits_by among slots d ≡ false) → owed_below k plan among slots ≡ 0
nothing-below zero plan among slots none = refl
nothing-below (suc k) plan among slots none =
    let rest = nothing-below k plan among slots (λ d below. none d (omega arith)) in
    let here = waits-not (bit_at among k == 1) (attempts_max plan k) (slots k) (none k (omega arith)) in
    ap (λ n. owed_below n plan among slots) (sym (add-one k)) ∙ (owed_below-more k plan among slots ∙ rw (rest, here) refl)

-- where a message owes nothing, it waits at none of the destinations
pub waits-nowhere : (plan : PlanEntry) (among : ℕ) (slots : ℕ → Option SlotState) → owed_waiting plan among slots ≡ 0 → mask_where (waits_by among slots) ≡ 0
unfolding mask_where
waits-nowhere plan among slots none = nowhere-below 32 plan among slots none

-- where it waits at none of them, it owes nothing
pub owes-none : (plan : PlanEntry) (among : ℕ) (slots : ℕ → Option SlotState) → mask_where (waits_by among slots) ≡ 0 → owed_waiting plan among slots ≡ 0
owes-none plan among slots none = nothing-below 32 plan among slots (mask_where-zero (waits_by among slots) none)
