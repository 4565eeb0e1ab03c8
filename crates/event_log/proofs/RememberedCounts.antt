-- What is counted of the messages of an opening is what is counted of what it remembers.
use Rattle.std.proofs.Common.{◌≡◌, ◌≢◌, ℕ, ◌+◌, ◌<◌, inl, inr, Bool, true, false, cond, ◌==◌, nat_lt, List, [], ◌∷◌, map, Option, None, Some, refl, ◌∙◌, ap, subst, arith}
use Rattle.std.specs.Prelude.{count_by, find, option_and_then}
use Rattle.std.specs.List.{AllByRecursion, cons_option, filter_map, range_with_len}
use Rattle.std.specs.Option.{option_map, option_map_or}
use Rattle.std.proofs.lemmas.Bool.Decides.{eqb_tells, nat_tests}
use Rattle.std.proofs.lemmas.List.Elements.{recursion_from_All}
use Rattle.std.proofs.lemmas.List.Sums.{sum_by-cons}
use Rattle.plan_text.specs.Entries.{PlanEntry}
use Rattle.judge_core.specs.declared.delivery.Delivery.{Delivery}
use Rattle.judge_core.specs.Delivering.{destinations_of}
use Rattle.dest_queue.specs.declared.SlotState.{SlotState}
use Rattle.dest_queue.specs.declared.SlotState.TheVariants.{Waiting}
use Rattle.dest_queue.specs.declared.slots.Slot.{Slot}
use Rattle.dest_queue.specs.Slots.{state_at}
use Rattle.event_log.specs.declared.entry.Told.{Told}
use Rattle.event_log.specs.declared.entry.Told.TheVariants as told
use Rattle.event_log.specs.Answers.{is_kept}
use Rattle.event_log.specs.Counting.{slot_count}
use Rattle.event_log.specs.Folding.{folded, pruned}
use Rattle.event_log.specs.History.{History, Snapshot, Remembered, begun, is_numbered, accepted_of, names, number_told, plan_in_force, slot}
use Rattle.event_log.specs.inner.History.{number_of}
use Rattle.event_log.specs.inner.Legal.{IsMemory, IsSound}
use Rattle.event_log.proofs.FoldedAlike.{count-none}
use Rattle.event_log.proofs.Memories.{folded-memories}
use Rattle.event_log.proofs.MemoryNumbers.{Climbing, climbing}
use Rattle.event_log.proofs.OneMore.{count-changed, count-range}
use Rattle.event_log.proofs.Recalling.{is_of}

-- how many remembered messages have a slot at the destination that is so
abbrev pub remembered_count : List Remembered → ℕ → (SlotState → Bool) → ℕ
remembered_count rs d so = count_by (λ r. option_map_or so (state_at d r.slots) false) rs

-- ---- the slot of a remembered message

-- slots that stand once at each destination of some deliveries
slot-memory : (d : ℕ) (slots : List Slot) (ds : List Delivery) → map (λ s. s.destination) slots ≡ destinations_of ds
    → cond (names d ds) (Some (option_map_or (λ s. s) (state_at d slots) (Waiting 0 0))) None ≡ state_at d slots
slot-memory d [] [] same = refl
slot-memory d [] (x ∷ ds) same = absurd cc
slot-memory d (s ∷ slots) [] same = absurd cc
slot-memory d (s ∷ slots) (x ∷ ds) same =
    let head : s.destination ≡ x.destination = cc in
    let tail : map (λ s. s.destination) slots ≡ destinations_of ds = cc in
    elim (eqb_tells x.destination d) [
      | inl w ↦ let own : (s.destination == d) ≡ true = ap (λ (y : ℕ). y == d) head ∙ w.0 in rw (own, w.0) refl
      | inr w ↦ let other : (s.destination == d) ≡ false = ap (λ (y : ℕ). y == d) head ∙ w.0 in rw (other, w.0) (slot-memory d slots ds tail)
    ]

-- what is remembered of message n at d
abbrev remembered_slot : List Remembered → ℕ → ℕ → Option SlotState
remembered_slot rs d n = option_and_then (λ r. state_at d r.slots) (find (is_of n) rs)

-- where an arrival has a slot for each of its deliveries
abbrev HasSlots : Remembered → Type 0
HasSlots r = map (λ s. s.destination) r.slots ≡ destinations_of r.deliveries

found-memory : (plan : PlanEntry) (n : ℕ) (rs : List Remembered) (r : Remembered)
    → AllByRecursion (IsMemory plan) rs → find (is_of n) rs ≡ Some r → HasSlots r
found-memory plan n [] r all found = absurd cc
found-memory plan n (x ∷ rs) r all found = by (is_of n x) found (λ e. found-memory plan n rs r all.1 e)
  where
    by : (b : Bool) → cond b (Some x) (find (is_of n) rs) ≡ Some r → (find (is_of n) rs ≡ Some r → HasSlots r) → HasSlots r
    by true is rest = let same : x ≡ r = cc in subst HasSlots same all.0.slots
    by false is rest = rest is

slot-remembered : (o : Snapshot) (plan : PlanEntry) → AllByRecursion (IsMemory plan) o.remembered → (n d : ℕ) → n < o.messages
    → slot (begun o) n d ≡ remembered_slot o.remembered d n
slot-remembered o plan all n d below =
    let earlier : nat_lt n o.messages ≡ true = grind (arith, nat_tests) in
    rw earlier (by (find (is_of n) o.remembered) refl)
  where
    by : (q : Option Remembered) → find (is_of n) o.remembered ≡ q
        → cond (names d (option_map_or (λ m. m.deliveries) (option_map accepted_of q) []))
        (Some (option_map_or (λ r. option_map_or (λ s. s) (state_at d r.slots) (Waiting 0 0)) q (Waiting 0 0))) None
        ≡ option_and_then (λ r. state_at d r.slots) q
    by None found = refl
    by (Some r) found = slot-memory d r.slots r.deliveries (found-memory plan n o.remembered r all found)

-- ---- counts

numbered-by : (n : ℕ) (t : Told) → is_numbered n t ≡ option_map_or (λ k. k == n) (number_told t) false
numbered-by n (told.Accepted k) = refl
numbered-by n told.Filtered = refl
numbered-by n (told.Refused cause) = refl
numbered-by n (told.Repeat place) = refl

-- one that has no number isn't that of any message
unnumbered : (n : ℕ) (r : Remembered) → number_of r ≡ None → is_of n r ≡ false
unnumbered n r none = numbered-by n r.told ∙ ap (λ o. option_map_or (λ k. k == n) o false) none

numbered-else : (n k : ℕ) (r : Remembered) → number_of r ≡ Some k → n ≢ k → is_of n r ≡ false
numbered-else n k r is apart =
    let other : (k == n) ≡ false = grind (arith, nat_tests) in
    numbered-by n r.told ∙ (ap (λ o. option_map_or (λ k. k == n) o false) is ∙ other)

numbered-own : (k : ℕ) (r : Remembered) → number_of r ≡ Some k → is_of k r ≡ true
numbered-own k r is =
    let own : (k == k) ≡ true = grind (arith, nat_tests) in
    numbered-by k r.told ∙ (ap (λ o. option_map_or (λ j. j == k) o false) is ∙ own)

-- and it has no slot
no-slots : (plan : PlanEntry) (r : Remembered) → IsMemory plan r → number_of r ≡ None → r.slots ≡ []
no-slots plan r memory none = empty r.slots (memory.slots ∙ ap destinations_of (memory.nowhere (filtered r.told none memory.kept)))
  where
    empty : (slots : List Slot) → map (λ s. s.destination) slots ≡ [] → slots ≡ []
    empty [] same = refl
    empty (s ∷ slots) same = absurd cc

    filtered : (t : Told) → number_told t ≡ None → is_kept t ≡ true → t ≡ told.Filtered
    filtered (told.Accepted k) is kept = absurd cc
    filtered told.Filtered is kept = refl
    filtered (told.Refused cause) is kept = absurd cc
    filtered (told.Repeat place) is kept = absurd cc

-- no message has a number below those that are left
none-lower : (n low high : ℕ) (rs : List Remembered) → n < low → Climbing low high (filter_map number_of rs) → find (is_of n) rs ≡ None
none-lower n low high [] less climb = refl
none-lower n low high (r ∷ rs) less climb = by (number_of r) refl climb (λ from below c. none-lower n from high rs below c)
  where
    by : (o : Option ℕ) → number_of r ≡ o → Climbing low high (cons_option o (filter_map number_of rs))
        → ((from : ℕ) → n < from → Climbing from high (filter_map number_of rs) → find (is_of n) rs ≡ None) → find (is_of n) (r ∷ rs) ≡ None
    by None is climb rest = rw (unnumbered n r is) (rest low less climb)
    by (Some k) is climb rest = let first = climb.0 in rw (numbered-else n k r is (λ e. absurd (omega arith))) (rest (k + 1) (omega arith) climb.2)

module _ (plan : PlanEntry) (d : ℕ) (so : SlotState → Bool) where
  -- whether what is remembered of a message at d is so
  abbrev so_at : Option SlotState → Bool
  so_at o = option_map_or so o false

  count-numbers : (low high : ℕ) (rs : List Remembered) → AllByRecursion (IsMemory plan) rs → Climbing low high (filter_map number_of rs)
      → count_by (λ n. so_at (remembered_slot rs d n)) (range_with_len 0 high) ≡ remembered_count rs d so
  count-numbers low high [] all climb = count-none (range_with_len 0 high)
  count-numbers low high (r ∷ rs) all climb = by (number_of r) refl climb (λ from c. count-numbers from high rs all.1 c)
    where
      more : remembered_count (r ∷ rs) d so ≡ cond (so_at (state_at d r.slots)) 1 0 + remembered_count rs d so
      more = sum_by-cons (λ r. cond (so_at (state_at d r.slots)) 1 0) r rs

      by : (o : Option ℕ) → number_of r ≡ o → Climbing low high (cons_option o (filter_map number_of rs))
          → ((from : ℕ) → Climbing from high (filter_map number_of rs)
          → count_by (λ n. so_at (remembered_slot rs d n)) (range_with_len 0 high) ≡ remembered_count rs d so)
          → count_by (λ n. so_at (remembered_slot (r ∷ rs) d n)) (range_with_len 0 high) ≡ remembered_count (r ∷ rs) d so
      by None is climb later =
          let same = count-range (λ n. so_at (remembered_slot (r ∷ rs) d n)) (λ n. so_at (remembered_slot rs d n)) 0 high
          (λ n least below. ap (λ b. so_at (option_and_then (λ r. state_at d r.slots) (cond b (Some r) (find (is_of n) rs)))) (unnumbered n r is)) in
          let rest = later low climb in
          let none : ◌≡◌ {A = ℕ} (cond (so_at (state_at d r.slots)) 1 0) 0
          = ap (λ slots. cond {A = ℕ} (so_at (state_at d slots)) 1 0) (no-slots plan r all.0 is) in
          omega (arith, same, rest, none, more)
      by (Some k) is climb later =
          let changed = count-changed (λ n. so_at (remembered_slot rs d n)) (λ n. so_at (remembered_slot (r ∷ rs) d n)) k
          (λ n apart.
          ap (λ b. so_at (option_and_then (λ r. state_at d r.slots) (cond b (Some r) (find (is_of n) rs)))) (numbered-else n k r is apart))
          0 high (omega arith) (let below = climb.1 in omega arith) in
          let rest = later (k + 1) climb.2 in
          let here : ◌≡◌ {A = ℕ} (cond (so_at (remembered_slot (r ∷ rs) d k)) 1 0) (cond (so_at (state_at d r.slots)) 1 0)
          = ap (λ b. cond {A = ℕ} (so_at (option_and_then (λ r. state_at d r.slots) (cond b (Some r) (find (is_of k) rs)))) 1 0)
          (numbered-own k r is) in
          let none : ◌≡◌ {A = ℕ} (cond (so_at (remembered_slot rs d k)) 1 0) 0
          = ap (λ o. cond {A = ℕ} (so_at (option_and_then (λ r. state_at d r.slots) o)) 1 0) (none-lower k (k + 1) high rs (omega arith) climb.2) in
          omega (arith, changed, rest, here, none, more)

  -- as many messages of an opening have a slot that is so as it remembers
  pub count-remembered : (o : Snapshot) → AllByRecursion (IsMemory plan) o.remembered → Climbing 0 o.messages (filter_map number_of o.remembered)
      → slot_count (begun o) d so ≡ remembered_count o.remembered d so
  count-remembered o all climb =
      let many : o.messages + 0 ≡ o.messages = omega arith in
      ap (λ k. count_by (λ n. so_at (slot (begun o) n d)) (range_with_len 0 k)) many
      ∙ (count-range (λ n. so_at (slot (begun o) n d)) (λ n. so_at (remembered_slot o.remembered d n)) 0 o.messages
      (λ n least below. ap so_at (slot-remembered o plan all n d (omega arith)))
      ∙ count-numbers 0 o.messages o.remembered all climb)

module _ (h : History) (sound : IsSound h) (bound : ℕ) where
  -- so it is with those that a pruning leaves
  pub pruned-count : (d : ℕ) (so : SlotState → Bool) → slot_count (pruned bound h) d so ≡ remembered_count (folded bound h).remembered d so
  pruned-count d so =
      count-remembered (plan_in_force h) d so (folded bound h)
      (recursion_from_All (IsMemory (plan_in_force h)) (folded bound h).remembered (folded-memories h sound bound)) (climbing h sound bound)
