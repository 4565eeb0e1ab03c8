-- What giving back keeps.
use Rattle.std.proofs.Common.{◌≡◌, ℕ, ◌+◌, ◌-◌, ◌<◌, ◌≤◌, Bool, true, false, cond, List, [], ◌∷◌, length, map, Option, None, Some, refl, sym, ◌∙◌, ap, subst, arith}
use Rattle.std.specs.Prelude.{All, AllPairs, IfSome, find, count_by, is_some, nat_lt, slice_get, sum_by}
use Rattle.std.specs.List.{AllByRecursion, cons_option, filter_map, range_with_len}
use Rattle.std.specs.List.Sorted.{IsStrictlyIncreasing}
use Rattle.std.specs.Option.{option_map, option_map_or, is_none}
use Rattle.std.specs.Str.{bytes_eq}
use Rattle.std.proofs.lemmas.List.{get_or-map, length-map}
use Rattle.std.proofs.lemmas.List.Elements.{All-from_recursion, recursion_from_All}
use Rattle.std.proofs.lemmas.List.Sums.{sum_by-cons}
use Rattle.plan_text.specs.Entries.{PlanEntry}
use Rattle.judge_core.specs.Judging.{key_of}
use Rattle.dest_queue.specs.declared.SlotState.{SlotState}
use Rattle.dest_queue.specs.declared.SlotState.TheVariants.{Waiting, InFlight, Delivered, Failed}
use Rattle.dest_queue.specs.declared.slots.Slot.{Slot}
use Rattle.dest_queue.specs.Slots.{is_at, state_at}
use Rattle.dest_queue.specs.States.{is_waiting}
use Rattle.event_log.specs.Answers.{attempts_max, has_key}
use Rattle.event_log.specs.Counting.{destination_before, destination_counts, is_delivered, is_failed, slot_count}
use Rattle.event_log.specs.History.{Remembered, Snapshot, accepted_of, begun, first_state, is_numbered, message_at, names, numbers, remembered_as, slot, deliveries}
use Rattle.event_log.specs.Room.{is_in_flight, message_total, owed, slot_owed, total}
use Rattle.event_log.specs.inner.History.{forgotten_messages, number_of}
use Rattle.event_log.specs.inner.Legal.{AreForgotten, IsGoodOpening, IsMemory, IsWithin}
use Rattle.event_log.specs.inner.Room.{in_flight}
use Rattle.event_log.proofs.Beginning.{begun-sound, find-all}
use Rattle.event_log.proofs.Following.{funext}
use Rattle.event_log.proofs.FoldedAlike.{count-none}
use Rattle.event_log.proofs.Recalling.{find-map}
use Rattle.opening_maps.specs.inner.GivenBack.{AreStarted, IsStarted, arrival_given_back, counts_given_back, given_back, slot_given_back, state_given_back}
use Rattle.opening_maps.specs.inner.Openings.{with_bound}

-- ---- states

none-in-flight : (s : SlotState) → is_in_flight (state_given_back s) ≡ false
none-in-flight (Waiting attempts due) = refl
none-in-flight (InFlight attempt) = refl
none-in-flight Delivered = refl
none-in-flight (Failed cause) = refl

pub others-stay : (s : SlotState) → is_in_flight s ≡ false → state_given_back s ≡ s
others-stay (Waiting attempts due) not = refl
others-stay (InFlight attempt) not = absurd cc
others-stay Delivered not = refl
others-stay (Failed cause) not = refl

delivered-stays : (s : SlotState) → is_delivered (state_given_back s) ≡ is_delivered s
delivered-stays (Waiting attempts due) = refl
delivered-stays (InFlight attempt) = refl
delivered-stays Delivered = refl
delivered-stays (Failed cause) = refl

failed-stays : (s : SlotState) → is_failed (state_given_back s) ≡ is_failed s
failed-stays (Waiting attempts due) = refl
failed-stays (InFlight attempt) = refl
failed-stays Delivered = refl
failed-stays (Failed cause) = refl

-- one that waits then waited, or was in flight
waits-or-flew : (s : SlotState) → cond (is_waiting (state_given_back s)) 1 0 ≡ cond (is_waiting s) 1 0 + cond (is_in_flight s) 1 0
waits-or-flew (Waiting attempts due) = refl
waits-or-flew (InFlight attempt) = refl
waits-or-flew Delivered = refl
waits-or-flew (Failed cause) = refl

-- one that was given back owes one entry more
owes-more : (max : ℕ) (s : SlotState) → IsWithin max s → IsStarted s → slot_owed max (state_given_back s) ≡ slot_owed max s + cond (is_in_flight s) 1 0
owes-more max (Waiting attempts due) within started = omega arith
owes-more max (InFlight attempt) within started = omega arith
owes-more max Delivered within started = refl
owes-more max (Failed cause) within started = refl

within-back : (max : ℕ) (s : SlotState) → IsStarted s → IsWithin max s → IsWithin max (state_given_back s)
within-back max (Waiting attempts due) started within = within
within-back max (InFlight attempt) started within = omega arith
within-back max Delivered started within = within
within-back max (Failed cause) started within = within

-- ---- no slot is in flight

slots-rest : (slots : List Slot) → AllByRecursion (λ s. is_in_flight s.state ≡ false) (map slot_given_back slots)
slots-rest [] = tt
slots-rest (s ∷ slots) = (none-in-flight s.state, slots-rest slots)

pub all-rest : (o : Snapshot) → All (λ r. All (λ s. is_in_flight s.state ≡ false) r.slots) (given_back o).remembered
all-rest o = All-from_recursion (λ (r : Remembered). All (λ s. is_in_flight s.state ≡ false) r.slots) (map arrival_given_back o.remembered) (each o.remembered)
  where
    each : (rs : List Remembered) → AllByRecursion (λ r. All (λ s. is_in_flight s.state ≡ false) r.slots) (map arrival_given_back rs)
    each [] = tt
    each (r ∷ rs) = (All-from_recursion (λ (s : Slot). is_in_flight s.state ≡ false) (map slot_given_back r.slots) (slots-rest r.slots), each rs)

-- ---- messages

remembered-back : (o : Snapshot) (n : ℕ) → remembered_as (given_back o) n ≡ option_map arrival_given_back (remembered_as o n)
remembered-back o n = find-map (λ r. is_numbered n r.told) arrival_given_back (λ r. refl) o.remembered

same-message : (m : Option Remembered) → option_map accepted_of (option_map arrival_given_back m) ≡ option_map accepted_of m
same-message None = refl
same-message (Some r) = refl

pub messages-stay : (o : Snapshot) (n : ℕ) → message_at (begun (given_back o)) n ≡ message_at (begun o) n
messages-stay o n =
    ap (λ m. cond (nat_lt n o.messages) (option_map accepted_of m) (slice_get [] (n - o.messages))) (remembered-back o n)
    ∙ ap (λ m. cond (nat_lt n o.messages) m (slice_get [] (n - o.messages))) (same-message (remembered_as o n))

-- ---- slots

state-back : (d : ℕ) (slots : List Slot) → state_at d (map slot_given_back slots) ≡ option_map state_given_back (state_at d slots)
state-back d [] = refl
state-back d (s ∷ slots) = by (is_at d s) (state-back d slots)
  where
    by : (b : Bool) → state_at d (map slot_given_back slots) ≡ option_map state_given_back (state_at d slots)
        → option_map (λ (x : Slot). x.state) (cond b (Some (slot_given_back s)) (find (is_at d) (map slot_given_back slots)))
        ≡ option_map state_given_back (option_map (λ (x : Slot). x.state) (cond b (Some s) (find (is_at d) slots)))
    by true rest = refl
    by false rest = rest

first-back : (o : Snapshot) (n d : ℕ) → first_state (given_back o) n d ≡ state_given_back (first_state o n d)
first-back o n d =
    ap (λ m. option_map_or (λ r. option_map_or (λ s. s) (state_at d r.slots) (Waiting 0 0)) m (Waiting 0 0)) (remembered-back o n) ∙ by (remembered_as o n)
  where
    inner : (s : Option SlotState) → option_map_or (λ s. s) (option_map state_given_back s) (Waiting 0 0) ≡ state_given_back (option_map_or (λ s. s) s (Waiting 0 0))
    inner None = refl
    inner (Some s) = refl

    by : (m : Option Remembered) → option_map_or (λ r. option_map_or (λ s. s) (state_at d r.slots) (Waiting 0 0)) (option_map arrival_given_back m) (Waiting 0 0)
        ≡ state_given_back (option_map_or (λ r. option_map_or (λ s. s) (state_at d r.slots) (Waiting 0 0)) m (Waiting 0 0))
    by None = refl
    by (Some r) = ap (λ s. option_map_or (λ s. s) s (Waiting 0 0)) (state-back d r.slots) ∙ inner (state_at d r.slots)

pub slots-back : (o : Snapshot) (n d : ℕ) → slot (begun (given_back o)) n d ≡ option_map state_given_back (slot (begun o) n d)
slots-back o n d =
    (λ i. cond (names d (option_map_or (λ m. m.deliveries) (messages-stay o n i) [])) (Some (first-back o n d i)) None) ∙ by (names d (deliveries (begun o) n))
  where
    by : (b : Bool) → cond b (Some (state_given_back (first_state o n d))) None ≡ option_map state_given_back (cond b (Some (first_state o n d)) None)
    by true = refl
    by false = refl

-- ---- counts

counted-as : (so su : SlotState → Bool) → ((s : SlotState) → so (state_given_back s) ≡ su s) → (o : Snapshot) (d : ℕ) → slot_count (begun (given_back o)) d so ≡ slot_count (begun o) d su
counted-as so su same o d =
    ap (λ p. count_by p (numbers (begun o)))
    (funext (λ n. option_map_or so (slot (begun (given_back o)) n d) false) (λ n. option_map_or su (slot (begun o) n d) false)
    (λ n. ap (λ s. option_map_or so s false) (slots-back o n d) ∙ by (slot (begun o) n d)))
  where
    by : (s : Option SlotState) → option_map_or so (option_map state_given_back s) false ≡ option_map_or su s false
    by None = refl
    by (Some s) = same s

no-count : (o : Snapshot) (d : ℕ) → slot_count (begun o) d (λ s. false) ≡ 0
no-count o d =
    ap (λ p. count_by p (numbers (begun o))) (funext (λ n. option_map_or (λ (s : SlotState). false) (slot (begun o) n d) false) (λ n. false) (λ n. by (slot (begun o) n d)))
    ∙ count-none (numbers (begun o))
  where
    by : (s : Option SlotState) → option_map_or (λ (s : SlotState). false) s false ≡ false
    by None = refl
    by (Some s) = refl

none-counted : (o : Snapshot) (d : ℕ) → slot_count (begun (given_back o)) d is_in_flight ≡ 0
none-counted o d = counted-as is_in_flight (λ s. false) none-in-flight o d ∙ no-count o d

-- a sum of sums
sum-both : (f g h : ℕ → ℕ) → ((n : ℕ) → f n ≡ g n + h n) → (ns : List ℕ) → sum_by f ns ≡ sum_by g ns + sum_by h ns
sum-both f g h each [] = refl
sum-both f g h each (n ∷ ns) =
    let here = each n in
    let rest = sum-both f g h each ns in
    omega (arith, sum_by-cons f n ns, sum_by-cons g n ns, sum_by-cons h n ns)

waiting-back : (o : Snapshot) (d : ℕ) → slot_count (begun (given_back o)) d is_waiting ≡ slot_count (begun o) d is_waiting + slot_count (begun o) d is_in_flight
waiting-back o d =
    sum-both (λ n. cond (option_map_or is_waiting (slot (begun (given_back o)) n d) false) 1 0) (λ n. cond (option_map_or is_waiting (slot (begun o) n d) false) 1 0)
    (λ n. cond (option_map_or is_in_flight (slot (begun o) n d) false) 1 0)
    (λ n. ap (λ s. cond (option_map_or is_waiting s false) 1 0) (slots-back o n d) ∙ by (slot (begun o) n d)) (numbers (begun o))
  where
    by : (s : Option SlotState) → cond (option_map_or is_waiting (option_map state_given_back s) false) 1 0
        ≡ cond (option_map_or is_waiting s false) 1 0 + cond (option_map_or is_in_flight s false) 1 0
    by None = refl
    by (Some s) = waits-or-flew s

pub destinations-back : (o : Snapshot) (d : ℕ) → destination_counts (begun (given_back o)) d ≡ counts_given_back (destination_counts (begun o) d)
destinations-back o d =
    let waits = waiting-back o d in
    let none = none-counted o d in
    let had = counted-as is_delivered is_delivered delivered-stays o d in
    let failed = counted-as is_failed is_failed failed-stays o d in
    λ i. record {
      waiting = waits i;
      inflight = none i;
      delivered = (destination_before (begun o) d).delivered + had i;
      failed = (destination_before (begun o) d).failed + failed i;
      attempts = (destination_counts (begun o) d).attempts;
    }

-- ---- what is owed

first-started : (o : Snapshot) → AreStarted o → (n d : ℕ) → IsStarted (first_state o n d)
first-started o started n d = by (remembered_as o n) refl
  where
    at : (slots : List Slot) → All (λ s. IsStarted s.state) slots → (found : Option Slot) → find (is_at d) slots ≡ found
        → IsStarted (option_map_or (λ s. s) (option_map (λ (x : Slot). x.state) found) (Waiting 0 0))
    at slots all None is = tt
    at slots all (Some s) is = find-all (λ s. IsStarted s.state) (is_at d) slots s all is

    by : (found : Option Remembered) → remembered_as o n ≡ found
        → IsStarted (option_map_or (λ r. option_map_or (λ s. s) (state_at d r.slots) (Waiting 0 0)) found (Waiting 0 0))
    by None is = tt
    by (Some r) is = at r.slots (find-all (λ r. All (λ s. IsStarted s.state) r.slots) (λ r. is_numbered n r.told) o.remembered r started is) (find (is_at d) r.slots) refl

slot-started : (o : Snapshot) → AreStarted o → (n d : ℕ) → IfSome (slot (begun o) n d) IsStarted
slot-started o started n d = by (names d (deliveries (begun o) n))
  where
    by : (b : Bool) → IfSome (cond b (Some (first_state o n d)) None) IsStarted
    by true = first-started o started n d
    by false = tt

abbrev flies : SlotState → ℕ
flies s = cond (is_in_flight s) 1 0

abbrev owes : PlanEntry → ℕ → SlotState → ℕ
owes plan d = slot_owed (attempts_max plan d)

pub owed-back : (o : Snapshot) → IsGoodOpening o → AreStarted o → owed (begun (given_back o)) ≡ owed (begun o) + in_flight (begun o)
unfolding total
owed-back o good started =
    sum-both (λ n. message_total (owes o.plan) (slot (begun (given_back o)) n)) (λ n. message_total (owes o.plan) (slot (begun o) n)) (λ n. message_total (λ d s. flies s) (slot (begun o) n))
    (λ n. sum-both (λ d. option_map_or (owes o.plan d) (slot (begun (given_back o)) n d) 0) (λ d. option_map_or (owes o.plan d) (slot (begun o) n d) 0)
    (λ d. option_map_or flies (slot (begun o) n d) 0)
    (λ d. ap (λ s. option_map_or (owes o.plan d) s 0) (slots-back o n d)
    ∙ by d (slot (begun o) n d) ((begun-sound o good).attempts n d) (slot-started o started n d)) (range_with_len 0 32)) (numbers (begun o))
  where
    by : (d : ℕ) (s : Option SlotState) → IfSome s (IsWithin (attempts_max o.plan d)) → IfSome s IsStarted
        → option_map_or (owes o.plan d) (option_map state_given_back s) 0 ≡ option_map_or (owes o.plan d) s 0 + option_map_or flies s 0
    by d None within is = refl
    by d (Some s) within is = owes-more (attempts_max o.plan d) s within is

-- ---- lists

places-stay : (rs : List Remembered) → map (λ (r : Remembered). r.place) (map arrival_given_back rs) ≡ map (λ (r : Remembered). r.place) rs
places-stay [] = refl
places-stay (r ∷ rs) = ap (λ ks. r.place ∷ ks) (places-stay rs)

-- the indices of what is given back increase
pub places_rise : (rs back : List Remembered) → back ≡ map arrival_given_back rs → IsStrictlyIncreasing (map (λ (r : Remembered). r.place) rs)
    → IsStrictlyIncreasing (map (λ (r : Remembered). r.place) back)
places_rise rs back is rise = subst IsStrictlyIncreasing (sym (ap (map (λ (r : Remembered). r.place)) is ∙ places-stay rs)) rise

numbers-stay : (rs : List Remembered) → filter_map number_of (map arrival_given_back rs) ≡ filter_map number_of rs
numbers-stay [] = refl
numbers-stay (r ∷ rs) = ap (cons_option (number_of r)) (numbers-stay rs)

destinations-stay : (slots : List Slot) → map (λ (s : Slot). s.destination) (map slot_given_back slots) ≡ map (λ (s : Slot). s.destination) slots
destinations-stay [] = refl
destinations-stay (s ∷ slots) = ap (λ ds. s.destination ∷ ds) (destinations-stay slots)

places-within : (high : ℕ) (rs : List Remembered) → AllByRecursion (λ r. r.place < high) rs → AllByRecursion (λ r. r.place < high) (map arrival_given_back rs)
places-within high [] all = tt
places-within high (r ∷ rs) all = (all.0, places-within high rs all.1)

abbrev own_key : Remembered → List ℕ
own_key r = key_of r.channel r.raw

apart-back : (rs : List Remembered) → AllPairs (λ r s. has_key (key_of r.channel r.raw) s ≡ false) rs
    → AllPairs (λ r s. has_key (key_of r.channel r.raw) s ≡ false) (map arrival_given_back rs)
apart-back rs apart i j d before inside =
    let many = length-map rs arrival_given_back in
    let later : j < length rs = omega arith in
    let earlier : i < length rs = omega arith in
    (λ t. bytes_eq (own_key (get_or-map arrival_given_back rs i d d earlier t)) (own_key (get_or-map arrival_given_back rs j d d later t))) ∙ apart i j d before later

-- ---- memories

attempts-back : (plan : PlanEntry) (slots : List Slot) → AllByRecursion (λ s. IsStarted s.state) slots
    → AllByRecursion (λ s. IsWithin (attempts_max plan s.destination) s.state) slots
    → AllByRecursion (λ s. IsWithin (attempts_max plan s.destination) s.state) (map slot_given_back slots)
attempts-back plan [] started within = tt
attempts-back plan (s ∷ slots) started within = (within-back (attempts_max plan s.destination) s.state started.0 within.0, attempts-back plan slots started.1 within.1)

memory-back : (plan : PlanEntry) (r : Remembered) → All (λ s. IsStarted s.state) r.slots → IsMemory plan r → IsMemory plan (arrival_given_back r)
memory-back plan r started m = record {
  fits = m.fits;
  kept = m.kept;
  nowhere = m.nowhere;
  deliveries = m.deliveries;
  slots = destinations-stay r.slots ∙ m.slots;
  attempts = All-from_recursion (λ s. IsWithin (attempts_max plan s.destination) s.state) (map slot_given_back r.slots)
      (attempts-back plan r.slots (recursion_from_All (λ s. IsStarted s.state) r.slots started)
      (recursion_from_All (λ s. IsWithin (attempts_max plan s.destination) s.state) r.slots m.attempts));
}

memories-back : (plan : PlanEntry) (rs : List Remembered) → AllByRecursion (λ r. All (λ s. IsStarted s.state) r.slots) rs → AllByRecursion (IsMemory plan) rs
    → AllByRecursion (IsMemory plan) (map arrival_given_back rs)
memories-back plan [] started all = tt
memories-back plan (r ∷ rs) started all = (memory-back plan r started.0 all.0, memories-back plan rs started.1 all.1)

-- ---- an opening

forgotten-stays : (o : Snapshot) → forgotten_messages (begun (given_back o)) ≡ forgotten_messages (begun o)
forgotten-stays o =
    ap (λ p. count_by p (numbers (begun o)))
    (funext (λ n. is_none (message_at (begun (given_back o)) n)) (λ n. is_none (message_at (begun o) n)) (λ n. ap is_none (messages-stay o n)))

pub good-back : (o : Snapshot) (bound : ℕ) → IsGoodOpening o → AreStarted o → owed (begun (given_back o)) ≤ bound → IsGoodOpening (with_bound bound (given_back o))
unfolding total
good-back o bound g started fits = record {
  plan = g.plan;
  memories = All-from_recursion (IsMemory o.plan) (map arrival_given_back o.remembered)
      (memories-back o.plan o.remembered (recursion_from_All (λ r. All (λ s. IsStarted s.state) r.slots) o.remembered started)
      (recursion_from_All (IsMemory o.plan) o.remembered g.memories));
  places = subst IsStrictlyIncreasing (sym (places-stay o.remembered)) g.places;
  places_within = All-from_recursion (λ r. r.place < o.places) (map arrival_given_back o.remembered)
      (places-within o.places o.remembered (recursion_from_All (λ r. r.place < o.places) o.remembered g.places_within));
  numbers = subst IsStrictlyIncreasing (sym (numbers-stay o.remembered)) g.numbers;
  numbers_within = subst (All (λ n. n < o.messages)) (sym (numbers-stay o.remembered)) g.numbers_within;
  in_turn = λ n m le lt is. ap is_some (messages-stay o m) ∙ g.in_turn n m le lt (sym (ap is_some (messages-stay o n)) ∙ is);
  keys = apart-back o.remembered g.keys;
  forgotten = subst (λ k. AreForgotten o.places k o.forgotten) (sym (forgotten-stays o)) g.forgotten;
  were_taken = λ d below.
      (let none = none-counted o d in
      let same = counted-as is_delivered is_delivered delivered-stays o d in
      let was = g.were_taken d below in
      omega arith);
  messages_few = g.messages_few;
  places_few = g.places_few;
  prunings_few = g.prunings_few;
  room = fits;
}
