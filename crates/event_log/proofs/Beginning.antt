-- Histories of which nothing is booked since their opening.
use Rattle.std.proofs.Common.{◌≡◌, ℕ, ◌+◌, ◌^◌, ◌-◌, ◌<◌, ◌≤◌, inl, inr, Bool, true, false, cond, ◌==◌, ◌||◌, nat_lt, List, [], ◌∷◌, Option, None, Some, refl, sym, ◌∙◌, ap, subst, arith, lit<, lit≤}
use Rattle.std.specs.Prelude.{All, IfSome, find, map, slice_get}
use Rattle.std.specs.List.{cons_option, filter_map, list_any}
use Rattle.std.specs.Option.{option_map, option_map_or}
use Rattle.std.proofs.lemmas.Bool.Decides.{eqb_tells, nat_tests}
use Rattle.std.proofs.lemmas.List.{get_or-replicate}
use Rattle.std.proofs.lemmas.List.Elements.{All-head, All-nil, All-replicate, All-tail}
use Rattle.plan_text.specs.Entries.{PlanEntry, IsPlan}
use Rattle.judge_core.specs.declared.delivery.Delivery.{Delivery}
use Rattle.judge_core.specs.Delivering.{destinations_of}
use Rattle.judge_core.specs.inner.Delivering.{AreDeliveries}
use Rattle.dest_queue.specs.declared.SlotState.{SlotState}
use Rattle.dest_queue.specs.declared.SlotState.TheVariants.{Waiting}
use Rattle.dest_queue.specs.declared.slots.Slot.{Slot}
use Rattle.dest_queue.specs.Slots.{state_at}
use Rattle.stat_count.specs.Statistics.{destination_at, no_arrivals, no_slots}
use Rattle.stat_count.specs.inner.Statistics.{empty, slots_of}
use Rattle.event_log.specs.declared.entry.Told.{Told}
use Rattle.event_log.specs.declared.entry.Told.TheVariants as told
use Rattle.event_log.specs.History.{Snapshot, Remembered, begun, deliveries, first_state, is_numbered, message_at, accepted_of, names, number_told, remembered_as, slot}
use Rattle.event_log.specs.inner.History.{blank, number_of, snapshot_after}
use Rattle.event_log.specs.Answers.{attempts_max}
use Rattle.event_log.specs.inner.Legal.{AreForgotten, IsGoodOpening, IsMemory, IsSound, IsWithin}
use Rattle.event_log.proofs.Reading.{opened-owed}

-- no delivery at all
pub no-deliveries : AreDeliveries []
no-deliveries = record { within = All-nil (λ x. x.destination < 32); once = λ i j d before inside. absurd (omega arith); plain = λ k d inside. absurd (omega arith) }

-- what is found among items is as each of them is
pub find-all : {A : Type 0} (P : A → Type 0) (p : A → Bool) (xs : List A) (x : A) → All P xs → find p xs ≡ Some x → P x
find-all P p [] x all is = absurd cc
find-all P p (y ∷ xs) x all is = elim (p y) as (λ b. cond b (Some y) (find p xs) ≡ Some x → P x) [
  | true ↦ λ found. let same : y ≡ x = cc in subst P same (All-head P y xs all)
  | false ↦ λ later. find-all P p xs x (All-tail P y xs all) later
] is

-- and it passes
pub find-passes : {A : Type 0} (p : A → Bool) (xs : List A) (x : A) → find p xs ≡ Some x → p x ≡ true
find-passes p [] x is = absurd cc
find-passes p (y ∷ xs) x is = elim (p y) as (λ b. p y ≡ b → cond b (Some y) (find p xs) ≡ Some x → p x ≡ true) [
  | true ↦ λ passes found. let same : y ≡ x = cc in subst (λ z. p z ≡ true) same passes
  | false ↦ λ fails later. find-passes p xs x later
] refl is

-- an arrival with a number was told it
told-numbered : (n : ℕ) (t : Told) → is_numbered n t ≡ true → number_told t ≡ Some n
told-numbered n (told.Accepted number) is = let same : number ≡ n = grind (arith, nat_tests) in ap (λ k. Some k) same
told-numbered n told.Filtered is = absurd cc
told-numbered n (told.Refused cause) is = absurd cc
told-numbered n (told.Repeat place) is = absurd cc

-- what holds of the numbers that are remembered holds of each
number-all : (P : ℕ → Type 0) (rs : List Remembered) (n : ℕ) (r : Remembered) → All P (filter_map number_of rs) → find (λ r. is_numbered n r.told) rs ≡ Some r → P n
number-all P [] n r all is = absurd cc
number-all P (x ∷ rs) n r all is = elim (is_numbered n x.told) as (λ b. is_numbered n x.told ≡ b → cond b (Some x) (find (λ r. is_numbered n r.told) rs) ≡ Some r → P n) [
  | true ↦ λ here found. All-head P n (filter_map number_of rs) (rw (told-numbered n x.told here) at all)
  | false ↦ λ no later. number-all P rs n r (rest (number_of x) all) later
] refl is
  where
    rest : (o : Option ℕ) → All P (cons_option o (filter_map number_of rs)) → All P (filter_map number_of rs)
    rest None all = all
    rest (Some k) all = All-tail P k (filter_map number_of rs) all

-- a message to come is not remembered
pub remembered-beyond : (o : Snapshot) → IsGoodOpening o → (n : ℕ) → o.messages ≤ n → remembered_as o n ≡ None
remembered-beyond o good n beyond = by (remembered_as o n) refl
  where
    by : (found : Option Remembered) → remembered_as o n ≡ found → found ≡ None
    by None is = refl
    by (Some r) is = let below = number-all (λ k. k < o.messages) o.remembered n r good.numbers_within is in absurd (omega arith)

-- deliveries name a destination where it is one of theirs
names-among : (d : ℕ) (ds : List Delivery) → names d ds ≡ list_any (λ e. e == d) (destinations_of ds)
names-among d [] = refl
names-among d (x ∷ ds) = elim (x.destination == d) as (λ b. (b || names d ds) ≡ (b || list_any (λ e. e == d) (destinations_of ds))) [ true ↦ refl | false ↦ names-among d ds ]

-- slots that stand at a destination have a state there, which is as each is
state-there : (P : Slot → Type 0) (slots : List Slot) (d : ℕ) → All P slots → list_any (λ e. e == d) (map (λ s. s.destination) slots) ≡ true
    → (s : Slot) × (state_at d slots ≡ Some s.state) × (s.destination ≡ d) × P s
state-there P [] d all here = absurd cc
state-there P (x ∷ slots) d all here = elim (eqb_tells x.destination d) [
  | inl w ↦ (x, rw w.0 refl, w.1, All-head P x slots all)
  | inr w ↦ let later = state-there P slots d (All-tail P x slots all) (rw w.0 at here) in (later.0, rw w.0 later.1, later.2, later.3)
]

-- the message that is remembered at an opening, if there is one
message-begun : (o : Snapshot) (n : ℕ) → message_at (begun o) n ≡ cond (nat_lt n o.messages) (option_map accepted_of (remembered_as o n)) None
message-begun o n = elim (nat_lt n o.messages) as (λ b. cond b (option_map accepted_of (remembered_as o n)) (slice_get [] (n - o.messages)) ≡ cond b (option_map accepted_of (remembered_as o n)) None) [ true ↦ refl | false ↦ refl ]

-- what each remembered message has, each message of a history of which nothing is booked since has
each-begun : (P : List Delivery → Type 0) (o : Snapshot) → IsGoodOpening o → ((r : Remembered) → IsMemory o.plan r → P r.deliveries) → P [] → (n : ℕ) → P (deliveries (begun o) n)
each-begun P o good each none n = subst (λ m. P (option_map_or (λ m. m.deliveries) m [])) (sym (message-begun o n)) (by (nat_lt n o.messages) (remembered_as o n) refl)
  where
    by : (b : Bool) (found : Option Remembered) → remembered_as o n ≡ found → P (option_map_or (λ m. m.deliveries) (cond b (option_map accepted_of found) None) [])
    by false found is = none
    by true None is = none
    by true (Some r) is = each r (find-all (IsMemory o.plan) (λ r. is_numbered n r.told) o.remembered r good.memories is)

-- each slot that is remembered is within the attempts of the plan
slot-begun : (o : Snapshot) → IsGoodOpening o → (n d : ℕ) → IfSome (slot (begun o) n d) (IsWithin (attempts_max o.plan d))
slot-begun o good n d =
    subst (λ m. IfSome (cond (names d (option_map_or (λ m. m.deliveries) m [])) (Some (first_state o n d)) None) (IsWithin (attempts_max o.plan d))) (sym (message-begun o n))
    (by (nat_lt n o.messages) (remembered_as o n) refl)
  where
    stands : (r : Remembered) → IsMemory o.plan r → names d r.deliveries ≡ true → IsWithin (attempts_max o.plan d) (option_map_or (λ s. s) (state_at d r.slots) (Waiting 0 0))
    stands r memory named =
        let among : list_any (λ e. e == d) (map (λ s. s.destination) r.slots) ≡ true = ap (list_any (λ e. e == d)) memory.slots ∙ (sym (names-among d r.deliveries) ∙ named) in
        let there = state-there (λ s. IsWithin (attempts_max o.plan s.destination) s.state) r.slots d memory.attempts among in
        subst (λ (f : Option SlotState). IsWithin (attempts_max o.plan d) (option_map_or (λ s. s) f (Waiting 0 0))) (sym there.1)
        (subst (λ k. IsWithin (attempts_max o.plan k) (there.0).state) there.2 there.3)

    one : (r : Remembered) → IsMemory o.plan r → (b : Bool) → names d r.deliveries ≡ b → IfSome (cond b (Some (option_map_or (λ s. s) (state_at d r.slots) (Waiting 0 0))) None) (IsWithin (attempts_max o.plan d))
    one r memory true named = stands r memory named
    one r memory false named = tt

    by : (b : Bool) (found : Option Remembered) → remembered_as o n ≡ found
        → IfSome (cond (names d (option_map_or (λ m. m.deliveries) (cond b (option_map accepted_of found) None) []))
        (Some (option_map_or (λ r. option_map_or (λ s. s) (state_at d r.slots) (Waiting 0 0)) found (Waiting 0 0))) None) (IsWithin (attempts_max o.plan d))
    by false found is = tt
    by true None is = tt
    by true (Some r) is = one r (find-all (IsMemory o.plan) (λ r. is_numbered n r.told) o.remembered r good.memories is) (names d r.deliveries) refl

-- a history of which nothing is booked since a good opening is sound
pub begun-sound : (o : Snapshot) → IsGoodOpening o → IsSound (begun o)
begun-sound o good = record {
  opening = good;
  plan = good.plan;
  legal = record { follows = λ place e got. absurd (nothing (nat_lt place o.places) (place - o.places) e got) };
  deliveries = each-begun AreDeliveries o good (λ r memory. memory.deliveries) no-deliveries;
  attempts = slot-begun o good;
  to_come = λ n d beyond. ap (λ f. option_map_or (λ r. option_map_or (λ s. s) (state_at d r.slots) (Waiting 0 0)) f (Waiting 0 0)) (remembered-beyond o good n (omega arith));
  room = omega (arith, good.room);
}
  where
    nothing : {A : Type 0} (b : Bool) (k : ℕ) (e : A) → cond b None (slice_get [] k) ≡ Some e → ⊥
    nothing true k e got = cc
    nothing false k e got = cc

-- where nothing was booked before, nothing is forgotten
none-forgotten : AreForgotten 0 0 empty
none-forgotten = record {
  statistics = record {
    all_channels = refl;
    all_destinations = refl;
    received_is_sum = All-replicate (λ counts. counts.received ≡ counts.filtered + counts.accepted + counts.refused) 64 no_arrivals refl;
    were_taken = All-replicate (λ counts. counts.inflight + counts.delivered ≤ counts.attempts) 32 no_slots (lit≤ tt);
    slots_fit = All-replicate (λ counts. slots_of counts < 2 ^ 64) 32 no_slots (lit< tt);
  };
  received = All-replicate (λ c. c.received + c.repeats ≤ 0) 64 no_arrivals (lit≤ tt);
  settled = All-replicate (λ d. (d.waiting ≡ 0) × (d.inflight ≡ 0)) 32 no_slots (refl, refl);
  named = All-replicate (λ d. d.delivered + d.failed ≤ 0) 32 no_slots (lit≤ tt);
  taken = All-replicate (λ d. d.attempts ≤ 0) 32 no_slots (lit≤ tt);
}

-- the opening of a new book is good
pub blank-good : (plan : PlanEntry) (events_max : ℕ) → IsPlan plan → IsGoodOpening (blank plan events_max)
blank-good plan events_max good = record {
  plan = good;
  memories = All-nil (IsMemory plan);
  places = λ i inside. absurd (omega arith);
  places_within = All-nil (λ r. r.place < 0);
  numbers = λ i inside. absurd (omega arith);
  numbers_within = All-nil (λ n. n < 0);
  in_turn = λ n m less below there. absurd (omega arith);
  keys = λ i j d before inside. absurd (omega arith);
  forgotten = none-forgotten;
  were_taken = λ d below. let none : destination_at d empty ≡ no_slots = get_or-replicate 32 d no_slots no_slots below in omega (arith, ap (λ c. c.delivered) none, ap (λ c. c.attempts) none);
  messages_few = omega arith;
  places_few = omega arith;
  prunings_few = omega arith;
  room = rw (opened-owed plan events_max) (omega arith);
}

-- a history of which nothing is booked is sound
pub opened-sound : (plan : PlanEntry) (events_max : ℕ) → IsPlan plan → IsSound (snapshot_after plan events_max)
opened-sound plan events_max good = begun-sound (blank plan events_max) (blank-good plan events_max good)
