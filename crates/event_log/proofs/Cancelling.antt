-- A cancellation that may be booked next.
use Rattle.std.proofs.Common.{◌≡◌, ◌≢◌, ℕ, ◌+◌, ◌^◌, ◌<◌, ◌≤◌, Bool, true, false, cond, ◌==◌, ◌&&◌, inl, inr, List, [], ◌∷◌, ◌++◌, length, Option, None, Some, Result, Ok, Err, refl, sym, ◌∙◌, ap, subst, arith, length-append}
use Rattle.std.specs.Prelude.{IfSome, is_some, sum_by, if◌then◌else◌}
use Rattle.std.specs.Int.{bit_at}
use Rattle.std.specs.List.{range_with_len}
use Rattle.std.specs.Option.{option_map, option_map_or}
use Rattle.std.proofs.lemmas.Bool.{cases_lt, cases_eq}
use Rattle.std.proofs.lemmas.Bool.Decides.{nat_tests}
use Rattle.std.proofs.lemmas.List.Sums.{sum_by-cons}
use Rattle.plan_text.specs.Entries.{IsPlan}
use Rattle.judge_core.specs.inner.Delivering.{AreDeliveries}
use Rattle.dest_queue.specs.declared.SlotState.{SlotState}
use Rattle.dest_queue.specs.declared.SlotState.TheVariants.{Waiting, InFlight, Delivered, Failed}
use Rattle.dest_queue.specs.declared.FailCause.TheVariants.{Cancelled}
use Rattle.dest_queue.specs.States.{is_waiting}
use Rattle.event_log.specs.declared.entry.Entry.TheVariants.{Cancel}
use Rattle.event_log.specs.declared.refusal.CancelRefusal.{CancelRefusal}
use Rattle.event_log.specs.declared.refusal.CancelRefusal.TheVariants.{NoSuchMessage, NothingWaiting}
use Rattle.event_log.specs.History.{History, accepted, deliveries, followed_by, message_at, message_count, names, plan_in_force, slot, state}
use Rattle.event_log.specs.Answers.{attempts_max, cancel_answer, mask_where, waits_among}
use Rattle.event_log.specs.Room.{is_in_flight, message_total, owed, slot_owed, total}
use Rattle.event_log.specs.inner.Room.{in_flight}
use Rattle.event_log.specs.inner.Legal.{IsSound, IsWithin}
use Rattle.event_log.proofs.Following.{accepted-kept, known-kept, legal-followed_by, message_count-same, deliveries-same, plan-kept, slot-same, state-followed_by}
use Rattle.event_log.proofs.Masks.{mask_where-bits, mask_where-beyond}
use Rattle.event_log.proofs.Reading.{message-exists, slot-outside}
use Rattle.event_log.proofs.Steps.{CancelStep, waiting_owed}
use Rattle.event_log.proofs.Totals.{sum-alike, total-changed}
use Rattle.event_log.proofs.Touching.{state-picked}

-- ---- one slot

-- the state in which a cancellation leaves a slot, by whether it is among the destinations
abbrev pub cancelled_state : Bool → SlotState → SlotState
cancelled_state named s = cond (named && is_waiting s) (Failed Cancelled) s

-- what a slot owes if it waits and is among them
abbrev pub owed_waiting : Bool → ℕ → SlotState → ℕ
owed_waiting named max s = cond (named && is_waiting s) (slot_owed max s) 0

-- a slot owes what it owes afterwards, and what it owed if it waited
owed-cancelled : (named : Bool) (max : ℕ) (o : Option SlotState) → option_map_or (slot_owed max) o 0 ≡ option_map_or (slot_owed max) (option_map (cancelled_state named) o) 0 + option_map_or (owed_waiting named max) o 0
owed-cancelled named max None = refl
owed-cancelled false max (Some s) = omega arith
owed-cancelled true max (Some (Waiting attempts due)) = omega arith
owed-cancelled true max (Some (InFlight attempt)) = omega arith
owed-cancelled true max (Some Delivered) = refl
owed-cancelled true max (Some (Failed cause)) = refl

-- 1 for an attempt under way
abbrev pub flight : SlotState → ℕ
flight s = if is_in_flight s then 1 else 0

-- an attempt under way goes on
flight-cancelled : (named : Bool) (o : Option SlotState) → option_map_or flight (option_map (cancelled_state named) o) 0 ≡ option_map_or flight o 0
flight-cancelled named None = refl
flight-cancelled false (Some s) = refl
flight-cancelled true (Some (Waiting attempts due)) = refl
flight-cancelled true (Some (InFlight attempt)) = refl
flight-cancelled true (Some Delivered) = refl
flight-cancelled true (Some (Failed cause)) = refl

-- no attempt is added
within-cancelled : (named : Bool) (max : ℕ) (o : Option SlotState) → IfSome o (IsWithin max) → IfSome (option_map (cancelled_state named) o) (IsWithin max)
within-cancelled named max None within = tt
within-cancelled false max (Some s) within = within
within-cancelled true max (Some (Waiting attempts due)) within = tt
within-cancelled true max (Some (InFlight attempt)) within = within
within-cancelled true max (Some Delivered) within = tt
within-cancelled true max (Some (Failed cause)) within = tt

-- a slot that owes nothing by waiting doesn't wait, or isn't among them
idle-slot : (named : Bool) (max : ℕ) (o : Option SlotState) → option_map_or (owed_waiting named max) o 0 ≡ 0 → (named && option_map_or is_waiting o false) ≡ false
idle-slot false max o none = refl
idle-slot true max None none = refl
idle-slot true max (Some (Waiting attempts due)) none = absurd (omega arith)
idle-slot true max (Some (InFlight attempt)) none = refl
idle-slot true max (Some Delivered) none = refl
idle-slot true max (Some (Failed cause)) none = refl

-- a slot whose state fails where it waits
slot-cancelled : (named there : Bool) (s : SlotState) → cond there (Some (cond (named && option_map_or is_waiting (cond there (Some s) None) false) (Failed Cancelled) s)) None ≡ option_map (cancelled_state named) (cond there (Some s) None)
slot-cancelled named true s = refl
slot-cancelled named false s = refl

-- ---- sums

-- a sum of terms that are sums
sum-split : (f g k : ℕ → ℕ) → ((d : ℕ) → f d ≡ g d + k d) → (ds : List ℕ) → sum_by f ds ≡ sum_by g ds + sum_by k ds
sum-split f g k split [] = refl
sum-split f g k split (d ∷ ds) =
    let here = split d in
    let rest = sum-split f g k split ds in omega (arith, sum_by-cons f d ds, sum_by-cons g d ds, sum_by-cons k d ds)

-- where nothing is owed, no bit is set
sum-idle : (g : ℕ → ℕ) (test : ℕ → Bool) → ((d : ℕ) → g d ≡ 0 → test d ≡ false) → (ds : List ℕ) → sum_by g ds ≡ 0 → sum_by (λ d. if test d then 2 ^ d else 0) ds ≡ 0
sum-idle g test idle [] none = refl
sum-idle g test idle (d ∷ ds) none =
    let here : g d ≡ 0 = omega (arith, sum_by-cons g d ds) in
    let rest : sum_by (λ d. if test d then 2 ^ d else 0) ds ≡ 0 = sum-idle g test idle ds (omega (arith, sum_by-cons g d ds)) in
    let clear : (if test d then 2 ^ d else 0) ≡ 0 = rw (idle d here) refl in
    omega (arith, sum_by-cons (λ d. if test d then 2 ^ d else 0) d ds)

-- a mask that isn't empty names a slot that owes something
waiting-owed : (g : ℕ → ℕ) (test : ℕ → Bool) → ((d : ℕ) → g d ≡ 0 → test d ≡ false) → mask_where test ≢ 0 → 1 ≤ sum_by g (range_with_len 0 32)
unfolding mask_where
waiting-owed g test idle some = elim (cases_eq (sum_by g (range_with_len 0 32)) 0)
    [ inl none ↦ absurd (some (sum-idle g test idle (range_with_len 0 32) none)) | inr owes ↦ omega arith ]

-- ---- the cancellation

-- a cancellation is answered with a mask where the message exists and waits somewhere
answered : (inside none : Bool) (waiting mask : ℕ) → ◌≡◌ {A = Result ℕ CancelRefusal} (if inside then (if none then Err NothingWaiting else Ok waiting) else Err NoSuchMessage) (Ok mask)
    → (inside ≡ true) × (none ≡ false) × (mask ≡ waiting)
answered true true waiting mask is = absurd cc
answered true false waiting mask is = (refl, refl, cc)
answered false none waiting mask is = absurd cc

-- no number is another
and-apart : (n m : ℕ) (b : Bool) → m ≢ n → ((n == m) && b) ≡ false
and-apart n m b apart = let differs : (n == m) ≡ false = grind (arith, nat_tests) in rw differs refl

-- each number is itself
and-same : (n : ℕ) (b : Bool) → ((n == n) && b) ≡ b
and-same n b = let same : (n == n) ≡ true = grind (arith, nat_tests) in rw same refl

-- what is left when the slots that waited owe nothing any more
left-owed : (new old before after waiting : ℕ) → new + before ≡ old + after → before ≡ after + waiting → new + waiting ≡ old
left-owed new old before after waiting changed split = omega arith

-- nothing is taken away where a sum over slots stays
left-flight : (new old before after : ℕ) → new + before ≡ old + after → after ≡ before → new ≡ old
left-flight new old before after changed same = omega arith

-- there is room for an entry that takes away what is owed by at least one
room-left : (count more bound new old waiting : ℕ) → more ≡ count + 1 → new + waiting ≡ old → 1 ≤ waiting → count + old ≤ bound → more + new ≤ bound
room-left count more bound new old waiting longer left owes room = omega arith

module _ (h : History) (sound : IsSound h) (n among mask : ℕ) (is : cancel_answer h n among ≡ Ok mask) where
  -- the parts of the answer
  parts : (is_some (message_at h n) ≡ true) × ((mask_where (waits_among h n among) == 0) ≡ false) × (mask ≡ mask_where (waits_among h n among))
  parts = answered (is_some (message_at h n)) (mask_where (waits_among h n among) == 0) (mask_where (waits_among h n among)) mask is

  -- the message exists
  exists : n < message_count h
  exists = message-exists h n parts.0

  -- it waits somewhere
  some-wait : mask_where (waits_among h n among) ≢ 0
  some-wait = let t = parts.1 in grind (arith, nat_tests)

  -- no message waits past the last destination
  waits-beyond : (d : ℕ) → 32 ≤ d → waits_among h n among d ≡ false
  waits-beyond d beyond = ap (λ o. (bit_at among d == 1) && option_map_or is_waiting o false) (slot-outside h sound n d beyond) ∙ never (bit_at among d == 1)
    where
      never : (b : Bool) → (b && false) ≡ false
      never true = refl
      never false = refl

  -- the mask is of the slots that wait and are among the destinations
  bits : (d : ℕ) → (bit_at mask d == 1) ≡ waits_among h n among d
  bits d = ap (λ m. bit_at m d == 1) parts.2 ∙ elim (cases_lt d 32)
      [ inl below ↦ mask_where-bits (waits_among h n among) d below | inr beyond ↦ mask_where-beyond (waits_among h n among) d beyond ∙ sym (waits-beyond d beyond) ]

  -- the plan in force stays
  plan : plan_in_force (followed_by h (Cancel n among mask)) ≡ plan_in_force h
  plan = plan-kept h (Cancel n among mask) refl

  -- no message comes or goes
  same-messages : accepted (followed_by h (Cancel n among mask)) ≡ accepted h
  same-messages = accepted-kept h (Cancel n among mask) refl

  -- the state that each slot is left in
  state-after : (m d : ℕ) → state (followed_by h (Cancel n among mask)) m d ≡ cond ((n == m) && (bit_at mask d == 1)) (Failed Cancelled) (state h m d)
  state-after m d = state-followed_by h (Cancel n among mask) m d ∙ state-picked ((n == m) && (bit_at mask d == 1)) (Failed Cancelled) (state h m d)

  -- the slots of other messages stay
  slot-other : (m : ℕ) → m ≢ n → (d : ℕ) → slot (followed_by h (Cancel n among mask)) m d ≡ slot h m d
  slot-other m apart d =
      slot-same h (followed_by h (Cancel n among mask)) refl same-messages m d
      ∙ ap (λ s. cond (names d (deliveries h m)) (Some s) None) (state-after m d ∙ ap (λ b. cond b (Failed Cancelled) (state h m d)) (and-apart n m (bit_at mask d == 1) apart))

  -- those of the message that are among the destinations fail where they wait
  slot-own : (d : ℕ) → slot (followed_by h (Cancel n among mask)) n d ≡ option_map (cancelled_state (bit_at among d == 1)) (slot h n d)
  slot-own d =
      slot-same h (followed_by h (Cancel n among mask)) refl same-messages n d
      ∙ ap (λ s. cond (names d (deliveries h n)) (Some s) None) (state-after n d ∙ ap (λ b. cond b (Failed Cancelled) (state h n d)) (and-same n (bit_at mask d == 1) ∙ bits d))
      ∙ slot-cancelled (bit_at among d == 1) (names d (deliveries h n)) (state h n d)

  -- what the slots that waited owed is no more owed
  owed-after : owed (followed_by h (Cancel n among mask)) + waiting_owed h n among ≡ owed h
  owed-after =
      let weight : ℕ → SlotState → ℕ = λ d. slot_owed (attempts_max (plan_in_force h) d) in
      ap (λ p. total (λ d. slot_owed (attempts_max p d)) (followed_by h (Cancel n among mask)) + waiting_owed h n among) plan
      ∙ left-owed (total weight (followed_by h (Cancel n among mask))) (owed h) (message_total weight (slot h n)) (message_total weight (slot (followed_by h (Cancel n among mask)) n)) (waiting_owed h n among)
      (total-changed weight h (followed_by h (Cancel n among mask)) n (message_count-same h (followed_by h (Cancel n among mask)) refl same-messages) exists slot-other)
      (sum-split (λ d. option_map_or (weight d) (slot h n d) 0) (λ d. option_map_or (weight d) (slot (followed_by h (Cancel n among mask)) n d) 0)
      (λ d. option_map_or (owed_waiting (bit_at among d == 1) (attempts_max (plan_in_force h) d)) (slot h n d) 0)
      (λ d. rw (slot-own d) (owed-cancelled (bit_at among d == 1) (attempts_max (plan_in_force h) d) (slot h n d))) (range_with_len 0 32))

  -- attempts under way go on
  flight-after : in_flight (followed_by h (Cancel n among mask)) ≡ in_flight h
  flight-after =
      let weight : ℕ → SlotState → ℕ = λ d. flight in
      left-flight (in_flight (followed_by h (Cancel n among mask))) (in_flight h) (message_total weight (slot h n)) (message_total weight (slot (followed_by h (Cancel n among mask)) n))
      (total-changed weight h (followed_by h (Cancel n among mask)) n (message_count-same h (followed_by h (Cancel n among mask)) refl same-messages) exists slot-other)
      (sum-alike (λ d. option_map_or flight (slot h n d) 0) (λ d. option_map_or flight (slot (followed_by h (Cancel n among mask)) n d) 0) 0 32
      (λ d low below. ap (λ o. option_map_or flight o 0) (slot-own d) ∙ flight-cancelled (bit_at among d == 1) (slot h n d)))

  -- a slot that waits owes something
  owes : 1 ≤ waiting_owed h n among
  owes = waiting-owed (λ d. option_map_or (owed_waiting (bit_at among d == 1) (attempts_max (plan_in_force h) d)) (slot h n d) 0) (waits_among h n among) (λ d. idle-slot (bit_at among d == 1) (attempts_max (plan_in_force h) d) (slot h n d)) some-wait

  -- no slot has more attempts than before
  within-after : (m d : ℕ) → IfSome (slot (followed_by h (Cancel n among mask)) m d) (IsWithin (attempts_max (plan_in_force h) d))
  within-after m d = elim (cases_eq m n) [
    | inl same ↦
        subst (λ k. IfSome (slot (followed_by h (Cancel n among mask)) k d) (IsWithin (attempts_max (plan_in_force h) d))) (sym same)
        (subst (λ o. IfSome o (IsWithin (attempts_max (plan_in_force h) d))) (sym (slot-own d)) (within-cancelled (bit_at among d == 1) (attempts_max (plan_in_force h) d) (slot h n d) (sound.attempts n d)))
    | inr apart ↦ subst (λ o. IfSome o (IsWithin (attempts_max (plan_in_force h) d))) (sym (slot-other m apart d)) (sound.attempts m d)
  ]

  -- messages to come wait for their first attempt
  to_come-after : (m d : ℕ) → message_count (followed_by h (Cancel n among mask)) ≤ m → state (followed_by h (Cancel n among mask)) m d ≡ Waiting 0 0
  to_come-after m d beyond =
      let past : message_count h ≤ m = subst (λ k. k ≤ m) (message_count-same h (followed_by h (Cancel n among mask)) refl same-messages) beyond in
      let inside = exists in
      let apart : m ≢ n = λ same. omega arith in
      state-after m d ∙ ap (λ b. cond b (Failed Cancelled) (state h m d)) (and-apart n m (bit_at mask d == 1) apart) ∙ sound.to_come m d past

  -- the history stays sound
  sound-after : IsSound (followed_by h (Cancel n among mask))
  sound-after = record {
    opening = sound.opening;
    plan = subst IsPlan (sym plan) sound.plan;
    legal = legal-followed_by h (Cancel n among mask) sound.legal (record { possible = tt; replied = is });
    deliveries = λ m. subst AreDeliveries (sym (deliveries-same h (followed_by h (Cancel n among mask)) refl same-messages m)) (sound.deliveries m);
    attempts = λ m d. subst (λ p. IfSome (slot (followed_by h (Cancel n among mask)) m d) (IsWithin (attempts_max p d))) (sym plan) (within-after m d);
    to_come = to_come-after;
    room = room-left (length h.entries) (length (h.entries ++ Cancel n among mask ∷ [])) h.opening.events_max (owed (followed_by h (Cancel n among mask))) (owed h) (waiting_owed h n among)
        (length-append h.entries (Cancel n among mask ∷ [])) owed-after owes sound.room;
  }

-- a cancellation that may be booked next
pub cancel-step : (h : History) → IsSound h → (n among mask : ℕ) → cancel_answer h n among ≡ Ok mask → CancelStep h n among mask
cancel-step h sound n among mask is = record {
  exists = exists h sound n among mask is;
  mask_is = (parts h sound n among mask is).2;
  bits = bits h sound n among mask is;
  sound = sound-after h sound n among mask is;
  nothing = record { accepted = same-messages h sound n among mask is; known = λ key. known-kept h (Cancel n among mask) key refl };
  state = state-after h sound n among mask is;
  owed = owed-after h sound n among mask is;
  in_flight = flight-after h sound n among mask is;
}

-- a slot that is cancelled owed something
pub cancel-owes : (h : History) → IsSound h → (n among mask : ℕ) → cancel_answer h n among ≡ Ok mask → 1 ≤ waiting_owed h n among
cancel-owes h sound n among mask is = owes h sound n among mask is
