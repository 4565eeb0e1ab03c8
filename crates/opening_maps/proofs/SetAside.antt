-- An opening whose counters are set aside is as good as before.
use Rattle.std.proofs.Common.{◌≡◌, ℕ, replicate, ◌+◌, ◌-◌, ◌^◌, ◌<◌, ◌≤◌, true, false, cond, List, [], ◌∷◌, length, map, Option, None, Some, refl, sym, ◌∙◌, ap, subst, arith, min, lit<}
use Rattle.std.specs.Prelude.{nat_lt}
use Rattle.std.specs.List.{AllByRecursion, filter_map, list_all}
use Rattle.std.specs.Option.{option_map_or}
use Rattle.std.proofs.lemmas.Bool.{and_from}
use Rattle.std.proofs.lemmas.Bool.Decides.{nat_tests}
use Rattle.std.proofs.lemmas.List.{get_or-map, get_or-replicate, length-map, length-replicate}
use Rattle.std.proofs.lemmas.List.Elements.{All-from_recursion, All-replicate, recursion_from_All}
use Rattle.std.proofs.lemmas.List.Sums.{sum_by-cons}
use Rattle.dest_queue.specs.declared.SlotState.{SlotState}
use Rattle.dest_queue.specs.declared.SlotState.TheVariants.{Waiting, InFlight, Delivered, Failed}
use Rattle.dest_queue.specs.Slots.{state_at}
use Rattle.dest_queue.specs.States.{is_waiting}
use Rattle.stat_count.specs.declared.DestinationCounts.{DestinationCounts}
use Rattle.stat_count.specs.Statistics.{channel_at, destination_at, no_arrivals, no_slots}
use Rattle.stat_count.specs.inner.Statistics.{IsStatistics, are_statistics, can_be, slots_of}
use Rattle.event_log.specs.Counting.{channel_counts, destination_counts, is_delivered, is_failed, slot_count}
use Rattle.event_log.specs.History.{Remembered, Snapshot, begun}
use Rattle.event_log.specs.Room.{is_in_flight, owed, total}
use Rattle.event_log.specs.inner.History.{forgotten_messages, number_of}
use Rattle.event_log.specs.inner.Legal.{AreForgotten, IsGoodOpening, IsMemory}
use Rattle.event_log.proofs.RememberedCounts.{count-remembered, remembered_count}
use Rattle.opening_maps.specs.inner.SetAside.{channels_added, counts_aside, counts_left, destination_aside, destination_left, destinations_added, uncounted}
use Rattle.opening_maps.specs.inner.Rebased.{most_received}
use Rattle.opening_maps.proofs.Rising.{climbs}
use Rattle.opening_maps.proofs.Sums.{most-least}

-- ---- lists

pub all-made : {A B : Type 0} (f : A → B) (P : B → Type 0) → ((x : A) → P (f x)) → (xs : List A) → AllByRecursion P (map f xs)
all-made f P each [] = tt
all-made f P each (x ∷ xs) = (each x, all-made f P each xs)

all-from : {A B : Type 0} (f : A → B) (Q : A → Type 0) (P : B → Type 0) → ((x : A) → Q x → P (f x)) → (xs : List A) → AllByRecursion Q xs → AllByRecursion P (map f xs)
all-from f Q P each [] all = tt
all-from f Q P each (x ∷ xs) all = (each x all.0, all-from f Q P each xs all.1)

-- ---- what stays are counters

left-can : (n : ℕ) (c : DestinationCounts) → can_be (destination_left n c) ≡ true
left-can n c =
    let taken : nat_lt 0 (min c.attempts n + 1) ≡ true = grind (arith, nat_tests) in
    and_from _ _ taken refl

all-left-can : (n : ℕ) (xs : List DestinationCounts) → list_all can_be (map (destination_left n) xs) ≡ true
all-left-can n [] = refl
all-left-can n (c ∷ xs) = and_from _ _ (left-can n c) (all-left-can n xs)

left-statistics : (n : ℕ) (destinations : List DestinationCounts) → length destinations ≡ 32
    → are_statistics (record { channels = replicate 64 no_arrivals; destinations = map (destination_left n) destinations }) ≡ true
left-statistics n destinations all =
    let many : length (map (destination_left n) destinations) ≡ 32 = length-map destinations (destination_left n) ∙ all in
    rw (many, all-left-can n destinations) refl

-- so they are never refused
pub never-refused : (n : ℕ) (destinations left : List DestinationCounts) → length destinations ≡ 32 → left ≡ map (destination_left n) destinations
    → are_statistics (record { channels = replicate 64 no_arrivals; destinations = left }) ≡ false → ⊥
never-refused n destinations left all is refused =
    let fine : are_statistics (record { channels = replicate 64 no_arrivals; destinations = left }) ≡ true
    = ap (λ (ds : List DestinationCounts). are_statistics (record { channels = replicate 64 no_arrivals; destinations = ds })) is ∙ left-statistics n destinations all in
    let both : true ≡ false = sym fine ∙ refused in
    absurd cc

-- ---- what is counted

pub owed-stays : (o : Snapshot) → owed (begun (uncounted o)) ≡ owed (begun o)
unfolding total
owed-stays o = refl

module _ (o : Snapshot) (good : IsGoodOpening o) where
  abbrev n : ℕ
  n = length o.remembered

  inside : (d : ℕ) → d < 32 → d < length o.forgotten.destinations
  inside d below = let all = good.forgotten.statistics.all_destinations in omega arith

  left-at : (d : ℕ) → d < 32 → destination_at d (counts_left o) ≡ destination_left n (destination_at d o.forgotten)
  left-at d below = get_or-map (destination_left n) o.forgotten.destinations d no_slots no_slots (inside d below)

  aside-at : (d : ℕ) → d < 32 → destination_at d (counts_aside o) ≡ destination_aside n (destination_at d o.forgotten)
  aside-at d below = get_or-map (destination_aside n) o.forgotten.destinations d no_slots no_slots (inside d below)

  pub destinations-add : (d : ℕ) → d < 32 → destination_counts (begun o) d ≡ destinations_added (destination_counts (begun (uncounted o)) d) (destination_at d (counts_aside o))
  destinations-add d below =
      let waits = none-more (slot_count (begun o) d is_waiting) in
      let flies = none-more (slot_count (begun o) d is_in_flight) in
      let had = swapped (destination_at d o.forgotten).delivered (slot_count (begun o) d is_delivered) in
      let failed = swapped (destination_at d o.forgotten).failed (slot_count (begun o) d is_failed) in
      let tried = parted (destination_at d o.forgotten).attempts n in
      (λ i. record { waiting = waits i; inflight = flies i; delivered = had i; failed = failed i; attempts = tried i })
      ∙ sym (λ i. destinations_added (record {
        waiting = slot_count (begun o) d is_waiting;
        inflight = slot_count (begun o) d is_in_flight;
        delivered = (left-at d below i).delivered + slot_count (begun o) d is_delivered;
        failed = (left-at d below i).failed + slot_count (begun o) d is_failed;
        attempts = (left-at d below i).attempts + 0;
      }) (aside-at d below i))
    where
      none-more : (a : ℕ) → a ≡ a + 0
      none-more a = omega arith

      swapped : (a b : ℕ) → a + b ≡ (0 + b) + a
      swapped a b = omega arith

      parted : (a k : ℕ) → a + 0 ≡ (min a k + 0) + (a - k)
      parted a k = omega arith

  pub channels-add : (c : ℕ) → c < 64 → channel_counts (begun o) c ≡ channels_added (channel_counts (begun (uncounted o)) c) (channel_at c (counts_aside o))
  channels-add c below =
      let left : channel_at c (counts_left o) ≡ no_arrivals = get_or-replicate 64 c no_arrivals no_arrivals below in
      let received = swapped (channel_at c o.forgotten).received in
      let filtered = swapped (channel_at c o.forgotten).filtered in
      let accepted = swapped (channel_at c o.forgotten).accepted in
      let refused = swapped (channel_at c o.forgotten).refused in
      let repeats = swapped (channel_at c o.forgotten).repeats in
      (λ i. record { received = received i; filtered = filtered i; accepted = accepted i; refused = refused i; repeats = repeats i })
      ∙ sym (λ i. channels_added (record {
        received = (left i).received + 0;
        filtered = (left i).filtered + 0;
        accepted = (left i).accepted + 0;
        refused = (left i).refused + 0;
        repeats = (left i).repeats + 0;
      }) (channel_at c o.forgotten))
    where
      swapped : (a : ℕ) → a + 0 ≡ (0 + 0) + a
      swapped a = omega arith

  -- no more messages were taken that are remembered than are remembered
  taken-few : (d : ℕ) → slot_count (begun o) d is_in_flight + slot_count (begun o) d is_delivered ≤ n
  taken-few d =
      let all = recursion_from_All (IsMemory o.plan) o.remembered good.memories in
      let climb = climbs o.messages (filter_map number_of o.remembered) good.numbers (recursion_from_All (λ k. k < o.messages) (filter_map number_of o.remembered) good.numbers_within) in
      let fly = count-remembered o.plan d is_in_flight o all climb in
      let had = count-remembered o.plan d is_delivered o all climb in
      let few = each o.remembered in
      omega arith
    where
      once : (s : Option SlotState) → cond (option_map_or is_in_flight s false) 1 0 + cond (option_map_or is_delivered s false) 1 0 ≤ 1
      once None = omega arith
      once (Some (Waiting attempts due)) = omega arith
      once (Some (InFlight attempt)) = omega arith
      once (Some Delivered) = omega arith
      once (Some (Failed cause)) = omega arith

      each : (rs : List Remembered) → remembered_count rs d is_in_flight + remembered_count rs d is_delivered ≤ length rs
      each [] = omega arith
      each (r ∷ rs) =
          let here = once (state_at d r.slots) in
          let rest = each rs in
          omega (
            arith,
            sum_by-cons (λ (r : Remembered). cond (option_map_or is_in_flight (state_at d r.slots) false) 1 0) r rs,
            sum_by-cons (λ (r : Remembered). cond (option_map_or is_delivered (state_at d r.slots) false) 1 0) r rs,
          )

  pub none-received : most_received (counts_left o) ≤ 0
  none-received =
      most-least (λ c. c.received + c.repeats) 0 0 (counts_left o).channels (omega arith)
      (recursion_from_All (λ c. c.received + c.repeats ≤ 0) (counts_left o).channels (All-replicate (λ c. c.received + c.repeats ≤ 0) 64 no_arrivals (omega arith)))

  left-good : IsStatistics (counts_left o)
  left-good = record {
    all_channels = length-replicate 64 no_arrivals;
    all_destinations = length-map o.forgotten.destinations (destination_left n) ∙ good.forgotten.statistics.all_destinations;
    received_is_sum = All-replicate (λ c. c.received ≡ c.filtered + c.accepted + c.refused) 64 no_arrivals refl;
    were_taken = All-from_recursion (λ d. d.inflight + d.delivered ≤ d.attempts) (counts_left o).destinations
        (all-made (destination_left n) (λ d. d.inflight + d.delivered ≤ d.attempts) (λ d. omega arith) o.forgotten.destinations);
    slots_fit = All-from_recursion (λ d. slots_of d < 2 ^ 64) (counts_left o).destinations
        (all-made (destination_left n) (λ d. slots_of d < 2 ^ 64) (λ d. lit< tt) o.forgotten.destinations);
  }

  forgotten-left : AreForgotten o.places (forgotten_messages (begun o)) (counts_left o)
  forgotten-left = record {
    statistics = left-good;
    received = All-replicate (λ c. c.received + c.repeats ≤ o.places) 64 no_arrivals (omega arith);
    settled = All-from_recursion (λ d. (d.waiting ≡ 0) × (d.inflight ≡ 0)) (counts_left o).destinations
        (all-made (destination_left n) (λ d. (d.waiting ≡ 0) × (d.inflight ≡ 0)) (λ d. (refl, refl)) o.forgotten.destinations);
    named = All-from_recursion (λ d. d.delivered + d.failed ≤ forgotten_messages (begun o)) (counts_left o).destinations
        (all-made (destination_left n) (λ d. d.delivered + d.failed ≤ forgotten_messages (begun o)) (λ d. omega arith) o.forgotten.destinations);
    taken = All-from_recursion (λ d. d.attempts ≤ o.places) (counts_left o).destinations
        (all-from (destination_left n) (λ d. d.attempts ≤ o.places) (λ d. d.attempts ≤ o.places) (λ d within. omega arith) o.forgotten.destinations
        (recursion_from_All (λ d. d.attempts ≤ o.places) o.forgotten.destinations good.forgotten.taken));
  }

  pub good-uncounted : IsGoodOpening (uncounted o)
  good-uncounted = record {
    plan = good.plan;
    memories = good.memories;
    places = good.places;
    places_within = good.places_within;
    numbers = good.numbers;
    numbers_within = good.numbers_within;
    in_turn = good.in_turn;
    keys = good.keys;
    forgotten = forgotten-left;
    were_taken = λ d below.
        (let was = good.were_taken d below in
        let few = taken-few d in
        let left = left-at d below in
        let had = ap (λ (c : DestinationCounts). c.delivered) left in
        let tried = ap (λ (c : DestinationCounts). c.attempts) left in
        omega arith);
    messages_few = good.messages_few;
    places_few = good.places_few;
    prunings_few = good.prunings_few;
    room = subst (λ k. k ≤ o.events_max) (sym (owed-stays o)) good.room;
  }
