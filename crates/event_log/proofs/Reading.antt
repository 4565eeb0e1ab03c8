-- What single slots and queues say.
use Rattle.std.proofs.Common.{◌≡◌, ℕ, ◌+◌, ◌-◌, ◌<◌, ◌≤◌, ◌⊎◌, inl, inr, Bool, true, false, cond, List, [], ◌∷◌, Option, None, Some, refl, ap, arith, nat_lt, suc, zero}
use Rattle.std.specs.Prelude.{slice_get, filter, is_some}
use Rattle.std.specs.List.{AllByRecursion, range_with_len}
use Rattle.std.specs.List.Sorted.{IsStrictlyIncreasing}
use Rattle.std.specs.Option.{option_map_or}
use Rattle.std.proofs.lemmas.Bool.Decides.{eqb_tells, nat_tests}
use Rattle.std.proofs.lemmas.List.Elements.{recursion_from_All}
use Rattle.std.proofs.lemmas.List.FromFn.{length-range_with_len, get_or-range_with_len}
use Rattle.std.proofs.lemmas.List.Kept.{IsStrictlyIncreasing-filter}
use Rattle.std.proofs.lemmas.Option.{cond_some, slice_get_past}
use Rattle.plan_text.specs.Entries.{PlanEntry}
use Rattle.judge_core.specs.declared.delivery.Delivery.{Delivery}
use Rattle.dest_queue.specs.declared.SlotState.{SlotState}
use Rattle.dest_queue.specs.States.{is_live}
use Rattle.event_log.specs.History.{History, accepted, deliveries, is_queued, message_at, message_count, names, numbers, queue, slot, state}
use Rattle.event_log.specs.inner.History.{snapshot_after}
use Rattle.event_log.specs.Answers.{known}
use Rattle.event_log.specs.Room.{owed, total}
use Rattle.event_log.specs.inner.Room.{in_flight}
use Rattle.event_log.specs.inner.Legal.{IsSound}

-- one number is below another, or it is not
below-or-not : (a b : ℕ) → (a < b) ⊎ (b ≤ a)
below-or-not zero zero = inr (omega arith)
below-or-not zero (suc b) = inl (omega arith)
below-or-not (suc a) zero = inr (omega arith)
below-or-not (suc a) (suc b) = elim (below-or-not a b) [ inl w ↦ inl (omega arith) | inr w ↦ inr (omega arith) ]

-- there is no message to come
pub message-beyond : (h : History) (n : ℕ) → message_count h ≤ n → message_at h n ≡ None
message-beyond h n beyond =
    let since : nat_lt n h.opening.messages ≡ false = grind (arith, nat_tests) in
    rw since (slice_get_past (accepted h) (n - h.opening.messages) (omega arith))

-- it has no slot
pub slot-beyond : (h : History) (n d : ℕ) → message_count h ≤ n → slot h n d ≡ None
slot-beyond h n d beyond = rw (message-beyond h n beyond) refl

-- a message that there is came before
pub message-exists : (h : History) (n : ℕ) → is_some (message_at h n) ≡ true → n < message_count h
message-exists h n is = elim (below-or-not n (message_count h)) [ inl w ↦ w | inr w ↦ let none : is_some (message_at h n) ≡ false = ap is_some (message-beyond h n w) in absurd cc ]

-- a slot that there is: the message names the destination, and that is its state
pub slot-state : (h : History) (n d : ℕ) (s : SlotState) → slot h n d ≡ Some s → (names d (deliveries h n) ≡ true) × (state h n d ≡ s)
slot-state h n d s is = cond_some (names d (deliveries h n)) (state h n d) s is

-- where there is a slot, there is the message
pub slot-exists : (h : History) (n d : ℕ) (s : SlotState) → slot h n d ≡ Some s → n < message_count h
slot-exists h n d s is = elim (below-or-not n (message_count h)) [ inl w ↦ w | inr w ↦ let none = slot-beyond h n d w in absurd cc ]

-- deliveries to destinations below 32 name none from 32 on
names-none : (d : ℕ) → 32 ≤ d → (ds : List Delivery) → AllByRecursion (λ x. x.destination < 32) ds → names d ds ≡ false
names-none d outside [] within = refl
names-none d outside (x ∷ ds) within =
    let first = within.0 in elim (eqb_tells x.destination d) [ inl w ↦ let same = w.1 in absurd (omega arith) | inr w ↦ rw (w.0) (names-none d outside ds within.1) ]

-- no message has a slot past the 32 destinations
pub slot-outside : (h : History) → IsSound h → (n d : ℕ) → 32 ≤ d → slot h n d ≡ None
slot-outside h sound n d outside =
    let none = names-none d outside (deliveries h n) (recursion_from_All (λ x. x.destination < 32) (deliveries h n) (sound.deliveries n).within) in
    ap (λ b. cond b (Some (state h n d)) None) none

-- where there is a slot, its destination is one of the 32
pub slot-inside : (h : History) → IsSound h → (n d : ℕ) (s : SlotState) → slot h n d ≡ Some s → d < 32
slot-inside h sound n d s is = elim (below-or-not d 32) [ inl w ↦ w | inr w ↦ let none = slot-outside h sound n d w in absurd cc ]

-- a filter that nothing passes
filter-none : (p : ℕ → Bool) → ((n : ℕ) → p n ≡ false) → (ns : List ℕ) → filter p ns ≡ []
filter-none p none [] = refl
filter-none p none (n ∷ ns) = rw (none n) (filter-none p none ns)

-- what comes through a filter first passes it
first-passes : (p : ℕ → Bool) (ns : List ℕ) (n : ℕ) → slice_get (filter p ns) 0 ≡ Some n → p n ≡ true
first-passes p [] n is = absurd cc
first-passes p (m ∷ ns) n is = elim (p m) as (λ b. p m ≡ b → slice_get (cond b (m ∷ filter p ns) (filter p ns)) 0 ≡ Some n → p n ≡ true) [
  | true ↦ λ passes first. let same : m ≡ n = cc in rw (← same) passes
  | false ↦ λ fails first. first-passes p ns n first
] refl is

-- nothing goes past the 32 destinations
pub queue-outside : (h : History) → IsSound h → (d : ℕ) → 32 ≤ d → queue h d ≡ []
queue-outside h sound d outside = filter-none (is_queued h d) (λ n. ap (λ o. option_map_or is_live o false) (slot-outside h sound n d outside)) (numbers h)

-- a message that is queued has a slot, which waits or is in flight
pub queued-lives : (h : History) (d n : ℕ) → is_queued h d n ≡ true → (s : SlotState) × (slot h n d ≡ Some s) × (is_live s ≡ true)
queued-lives h d n queued = by (slot h n d) queued
  where
    by : (o : Option SlotState) → option_map_or is_live o false ≡ true → (s : SlotState) × (o ≡ Some s) × (is_live s ≡ true)
    by None live = absurd cc
    by (Some s) live = (s, refl, live)

-- the front of a queue has a slot, which waits or is in flight
pub front-lives : (h : History) (d n : ℕ) → slice_get (queue h d) 0 ≡ Some n → (s : SlotState) × (slot h n d ≡ Some s) × (is_live s ≡ true)
front-lives h d n front = queued-lives h d n (first-passes (is_queued h d) (numbers h) n front)

-- the front of a queue is a message that came
pub front-exists : (h : History) (d n : ℕ) → slice_get (queue h d) 0 ≡ Some n → n < message_count h
front-exists h d n front = let lives = front-lives h d n front in slot-exists h n d lives.0 lives.1

-- numbers in a row rise
range-rises : (a k : ℕ) → IsStrictlyIncreasing (range_with_len a k)
range-rises a k i inside =
    let within : i + 1 < k = omega (arith, length-range_with_len a k) in
    let here = get_or-range_with_len a k i 0 (omega arith) in
    let next = get_or-range_with_len a k (i + 1) 0 within in
    omega (arith, here, next)

-- a queue is in order of acceptance
pub queue-rises : (h : History) (d : ℕ) → IsStrictlyIncreasing (queue h d)
queue-rises h d = IsStrictlyIncreasing-filter (is_queued h d) (numbers h) (range-rises 0 (message_count h))

-- nothing is owed at first
pub opened-owed : (plan : PlanEntry) (events_max : ℕ) → owed (snapshot_after plan events_max) ≡ 0
unfolding total
opened-owed plan events_max = refl

-- nothing is under way at first
pub opened-in_flight : (plan : PlanEntry) (events_max : ℕ) → in_flight (snapshot_after plan events_max) ≡ 0
unfolding total
opened-in_flight plan events_max = refl

-- no key is known at first
pub opened-known : (plan : PlanEntry) (events_max : ℕ) (key : List ℕ) → known (snapshot_after plan events_max) key ≡ None
opened-known plan events_max key = refl
