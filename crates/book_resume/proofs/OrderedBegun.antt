-- An opening that is in order, and whose messages are apart, is one that a book can go on from, and no other is.
use Rattle.std.proofs.Common.{◌≡◌, ℕ, ◌+◌, ◌-◌, ◌*◌, ◌<◌, ◌≤◌, ◌^◌, ◌==◌, ◌&&◌, Bool, true, false, List, length, map, refl, sym, ◌∙◌, ap, subst, arith}
use Rattle.std.specs.Prelude.{All, nat_le}
use Rattle.std.specs.List.{filter_map, list_all, range_with_len}
use Rattle.std.specs.List.Sorted.{IsStrictlyIncreasing}
use Rattle.std.proofs.lemmas.Bool.Decides.{nat_tests}
use Rattle.std.proofs.lemmas.List.Elements.{All-from_recursion, All-weaker}
use Rattle.std.proofs.lemmas.List.FromFn.{get_or-map-range_with_len, length-map-range_with_len}
use Rattle.std.proofs.lemmas.List.Sums.{AllPass-from_list_all, list_all-from_AllPass}
use Rattle.plan_text.specs.Entries.{IsPlan, PlanEntry}
use Rattle.stat_count.specs.declared.ChannelCounts.{ChannelCounts}
use Rattle.stat_count.specs.declared.DestinationCounts.{DestinationCounts}
use Rattle.stat_count.specs.Statistics.{destination_at, no_slots}
use Rattle.stat_count.specs.inner.Statistics.{IsStatistics, is_sum, slots_of}
use Rattle.event_log.specs.Counting.{destination_counts}
use Rattle.event_log.specs.History.{Remembered, Snapshot, begun}
use Rattle.event_log.specs.inner.History.{forgotten_messages, number_of}
use Rattle.event_log.specs.inner.Legal.{AreForgotten, IsMemory}
use Rattle.event_log.specs.Room.{owed}
use Rattle.event_log.proofs.MemoryNumbers.{Climbing, climbing-within}
use Rattle.book_resume.specs.inner.Resuming.{IsMessage, IsResumable}
use Rattle.book_resume.specs.inner.Counters.{counted_with, was_taken, with_remembered}
use Rattle.book_resume.specs.inner.Keys.{AreApart}
use Rattle.book_resume.specs.inner.Order.{IsInOrder, IsOrdered, channel_fits, destination_fits}
use Rattle.book_core.proofs.Slots.{all-at, slots-places}
use Rattle.book_resume.specs.inner.Owing.{remembered_owed}
use Rattle.book_resume.proofs.Climbing.{numbers-climb, places-few}
use Rattle.book_resume.proofs.CountsBegun.{destination-begun}
use Rattle.book_resume.proofs.LastNumbers.{climbing-rises, forgotten-begun, last-climb, last-turn, turn-last}
use Rattle.book_resume.proofs.OwedBegun.{owed-begun}

-- ---- what the tests of counters say

record Fits (places gone : ℕ) (d : DestinationCounts) : Type 0 where
  pub waiting : d.waiting ≡ 0
  pub inflight : d.inflight ≡ 0
  pub named : d.delivered + d.failed ≤ gone
  pub taken : d.delivered ≤ d.attempts
  pub begun : d.attempts ≤ places

left-of : (a b : Bool) → (a && b) ≡ true → a ≡ true
left-of true b is = refl
left-of false b is = absurd cc

right-of : (a b : Bool) → (a && b) ≡ true → b ≡ true
right-of true b is = is
right-of false b is = absurd cc

fits-said : (places gone : ℕ) (d : DestinationCounts) → destination_fits places gone d ≡ true → Fits places gone d
fits-said places gone d is =
    let named : Bool = nat_le (d.delivered + d.failed) gone in
    let taken : Bool = nat_le d.delivered d.attempts in
    let few : Bool = nat_le d.attempts places in
    let none : Bool = (d.waiting == 0) && (d.inflight == 0) in
    let four = left-of (none && named && taken) few is in
    let five = right-of (none && named && taken) few is in
    let three = left-of (none && named) taken four in
    let begun = right-of (none && named) taken four in
    let two = left-of none named three in
    let sent = right-of none named three in
    let waits = left-of (d.waiting == 0) (d.inflight == 0) two in
    let flies = right-of (d.waiting == 0) (d.inflight == 0) two in record {
      waiting = grind (arith, nat_tests);
      inflight = grind (arith, nat_tests);
      named = grind (arith, nat_tests);
      taken = grind (arith, nat_tests);
      begun = grind (arith, nat_tests);
    }

fits-tested : (places gone : ℕ) (d : DestinationCounts) → Fits places gone d → destination_fits places gone d ≡ true
fits-tested places gone d fits =
    let waiting = fits.waiting in
    let inflight = fits.inflight in
    let named = fits.named in
    let taken = fits.taken in
    let attempts = fits.begun in
    let one : (d.waiting == 0) ≡ true = grind (arith, nat_tests) in
    let two : (d.inflight == 0) ≡ true = grind (arith, nat_tests) in
    let three : nat_le (d.delivered + d.failed) gone ≡ true = grind (arith, nat_tests) in
    let four : nat_le d.delivered d.attempts ≡ true = grind (arith, nat_tests) in
    let five : nat_le d.attempts places ≡ true = grind (arith, nat_tests) in
    rw (one, two, three, four, five) refl

channel-sum : (places : ℕ) (c : ChannelCounts) → channel_fits places c ≡ true → c.received ≡ c.filtered + c.accepted + c.refused
channel-sum places c is = let sum = left-of (is_sum c) (nat_le (c.received + c.repeats) places) is in grind (arith, nat_tests)

channel-few : (places : ℕ) (c : ChannelCounts) → channel_fits places c ≡ true → c.received + c.repeats ≤ places
channel-few places c is = let few = right-of (is_sum c) (nat_le (c.received + c.repeats) places) is in grind (arith, nat_tests)

-- ---- from the tests

module _ (o : Snapshot) (ordered : IsOrdered o) where
  abbrev gone : ℕ
  gone = o.messages - length (filter_map number_of o.remembered)

  pub climb-ordered : Climbing 0 o.messages (filter_map number_of o.remembered)
  climb-ordered = last-climb o.messages (filter_map number_of o.remembered) ordered.numbers

  pub memories-ordered : All (IsMemory o.plan) o.remembered
  memories-ordered = All-weaker (IsInOrder o.plan o.places) (IsMemory o.plan) (λ r is. is.memory) o.remembered ordered.arrivals

  fitted : All (Fits o.places gone) o.forgotten.destinations
  fitted k d inside = fits-said o.places gone _ (AllPass-from_list_all (destination_fits o.places gone) o.forgotten.destinations ordered.destinations k d inside)

  pub settled-ordered : All (λ d. (d.waiting ≡ 0) × (d.inflight ≡ 0)) o.forgotten.destinations
  settled-ordered = All-weaker (Fits o.places gone) (λ d. (d.waiting ≡ 0) × (d.inflight ≡ 0)) (λ d fits. (fits.waiting, fits.inflight)) o.forgotten.destinations fitted

  channel-said : All (λ c. channel_fits o.places c ≡ true) o.forgotten.channels
  channel-said = AllPass-from_list_all (channel_fits o.places) o.forgotten.channels ordered.channels

  forgotten-ordered : length o.forgotten.channels ≡ 64 → length o.forgotten.destinations ≡ 32 → AreForgotten o.places (forgotten_messages (begun o)) o.forgotten
  forgotten-ordered channels destinations =
      let bounds = ordered.bounds in
      let few : forgotten_messages (begun o) ≡ gone = let sum = forgotten-begun o climb-ordered in omega arith in
      let most : gone ≤ 1000000000 = omega (arith, bounds.messages_few, bounds.places_few, bounds.prunings_few) in record {
        statistics = record {
          all_channels = channels;
          all_destinations = destinations;
          received_is_sum = λ k c inside. channel-sum o.places _ (channel-said k c inside);
          were_taken = All-weaker (Fits o.places gone) (λ d. d.inflight + d.delivered ≤ d.attempts)
              (λ d fits. let none = fits.inflight in let taken = fits.taken in omega arith) o.forgotten.destinations fitted;
          slots_fit = All-weaker (Fits o.places gone) (λ d. slots_of d < 2 ^ 64)
              (λ d fits. let waiting = fits.waiting in let inflight = fits.inflight in let named = fits.named in omega (arith, most)) o.forgotten.destinations fitted;
        };
        received = λ k c inside. channel-few o.places _ (channel-said k c inside);
        settled = settled-ordered;
        named = All-weaker (Fits o.places gone) (λ d. d.delivered + d.failed ≤ forgotten_messages (begun o)) (λ d fits. let named = fits.named in omega (arith, few)) o.forgotten.destinations fitted;
        taken = All-weaker (Fits o.places gone) (λ d. d.attempts ≤ o.places) (λ d fits. fits.begun) o.forgotten.destinations fitted;
      }

  -- what the parts of a book need
  pub channels-ordered : All (λ r. r.channel < 64) o.remembered
  channels-ordered = All-weaker (IsInOrder o.plan o.places) (λ r. r.channel < 64) (λ r is. is.channel) o.remembered ordered.arrivals

  pub rise-ordered : IsStrictlyIncreasing (filter_map number_of o.remembered)
  rise-ordered = climbing-rises 0 o.messages (filter_map number_of o.remembered) climb-ordered

  pub within-ordered : All (λ n. n < o.messages) (filter_map number_of o.remembered)
  within-ordered =
      All-from_recursion (λ n. n < o.messages) (filter_map number_of o.remembered)
      (climbing-within 0 o.messages (filter_map number_of o.remembered) climb-ordered)

  -- the numbers are below the bound of all indices
  pub below-ordered : All (λ n. n < 1001000000) (filter_map number_of o.remembered)
  below-ordered =
      let bounds = ordered.bounds in
      All-weaker (λ n. n < o.messages) (λ n. n < 1001000000)
      (λ n below. omega (arith, bounds.messages_few, bounds.places_few, bounds.prunings_few)) (filter_map number_of o.remembered) within-ordered

  pub few-ordered : IsStrictlyIncreasing (map (λ r. r.place) o.remembered) → length o.remembered ≤ 1001000000
  few-ordered rise =
      let bounds = ordered.bounds in
      let few = places-few o rise (All-weaker (IsInOrder o.plan o.places) (λ r. r.place < o.places) (λ r is. is.place) o.remembered ordered.arrivals) in
      omega (arith, bounds.places_few, bounds.prunings_few)

  pub before-ordered : (d : ℕ) → slots_of (destination_at d o.forgotten) ≤ 2 * 1001000000
  before-ordered d =
      let bounds = ordered.bounds in
      let none = all-at (λ c. (c.waiting ≡ 0) × (c.inflight ≡ 0)) o.forgotten.destinations no_slots settled-ordered (refl, refl) d in
      let waits = none.0 in
      let flies = none.1 in
      let named = all-at (λ c. c.delivered + c.failed ≤ gone) o.forgotten.destinations no_slots
      (All-weaker (Fits o.places gone) (λ c. c.delivered + c.failed ≤ gone) (λ c fits. fits.named) o.forgotten.destinations fitted) (omega arith) d in
      omega (arith, bounds.messages_few, bounds.places_few, bounds.prunings_few)

  pub owed-ordered : remembered_owed o.plan o.remembered ≡ owed (begun o)
  owed-ordered = sym (owed-begun o memories-ordered climb-ordered)

  pub owed-counted : (n : ℕ) (plan : PlanEntry) (rs : List Remembered) → n ≡ remembered_owed plan rs → plan ≡ o.plan → rs ≡ o.remembered → n ≡ owed (begun o)
  owed-counted n plan rs sum plan-is rs-are =
      sum ∙ (ap (λ (p : PlanEntry). remembered_owed p rs) plan-is ∙ (ap (remembered_owed o.plan) rs-are ∙ owed-ordered))

  taken-ordered : list_all was_taken (counted_with o).destinations ≡ true → (d : ℕ) → d < 32
      → (destination_counts (begun o) d).inflight + (destination_counts (begun o) d).delivered ≤ (destination_counts (begun o) d).attempts
  taken-ordered taken d below =
      let f : ℕ → DestinationCounts = λ d. with_remembered o.remembered d (destination_at d o.forgotten) in
      let many : d < length (map f (range_with_len 0 32)) = omega (arith, length-map-range_with_len f 0 32) in
      let at : was_taken (f d) ≡ true
      = ap was_taken (sym (get_or-map-range_with_len f 0 32 d d no_slots below (omega arith)))
      ∙ AllPass-from_list_all was_taken (map f (range_with_len 0 32)) taken d no_slots many in
      subst (λ (c : DestinationCounts). c.inflight + c.delivered ≤ c.attempts)
      (destination-begun o memories-ordered climb-ordered settled-ordered d) (grind (arith, nat_tests))

  -- it is one that a book can go on from
  pub ordered-resumable : IsPlan o.plan → IsStrictlyIncreasing (map (λ r. r.place) o.remembered) → length o.forgotten.channels ≡ 64
      → length o.forgotten.destinations ≡ 32 → All (λ r. IsMessage r.raw) o.remembered → AreApart o.remembered
      → list_all was_taken (counted_with o).destinations ≡ true → IsResumable o
  ordered-resumable plan rise channels destinations messages apart taken =
      let climb = climb-ordered in record {
        good = record {
          plan = plan;
          memories = memories-ordered;
          places = rise;
          places_within = All-weaker (IsInOrder o.plan o.places) (λ r. r.place < o.places) (λ r is. is.place) o.remembered ordered.arrivals;
          numbers = rise-ordered;
          numbers_within = within-ordered;
          in_turn = last-turn o ordered.numbers;
          keys = apart;
          forgotten = forgotten-ordered channels destinations;
          were_taken = taken-ordered taken;
          messages_few = ordered.bounds.messages_few;
          places_few = ordered.bounds.places_few;
          prunings_few = ordered.bounds.prunings_few;
          room = rw (owed-begun o memories-ordered climb) ordered.room;
        };
        at_rest = λ k r inside.
            let is = ordered.arrivals k r inside in record { channel = is.channel; message = messages k r inside; settled = is.settled };
        events_few = ordered.bounds.events_few;
      }

-- ---- and back

module _ (o : Snapshot) (may : IsResumable o) where
  pub resumable-ordered : IsOrdered o
  resumable-ordered =
      let good = may.good in
      let climb = numbers-climb o good in
      let last = turn-last o climb good.in_turn in
      let few = last.few in
      let gone : ℕ = o.messages - length (filter_map number_of o.remembered) in
      let same : forgotten_messages (begun o) ≡ gone = let sum = forgotten-begun o climb in omega arith in record {
        bounds = record { events_few = may.events_few; messages_few = good.messages_few; places_few = good.places_few; prunings_few = good.prunings_few };
        arrivals = λ k r inside.
            let rest = may.at_rest k r inside in record {
              memory = good.memories k r inside;
              channel = rest.channel;
              place = good.places_within k r inside;
              settled = rest.settled;
            };
        numbers = last;
        channels = list_all-from_AllPass (channel_fits o.places) o.forgotten.channels (λ k c inside.
            let sum = good.forgotten.statistics.received_is_sum k c inside in
            let within = good.forgotten.received k c inside in
            grind (arith, nat_tests));
        destinations = list_all-from_AllPass (destination_fits o.places gone) o.forgotten.destinations (λ k d inside.
            let none = good.forgotten.settled k d inside in
            let taken = good.forgotten.statistics.were_taken k d inside in
            let named = good.forgotten.named k d inside in
            fits-tested o.places gone _ (record {
              waiting = none.0;
              inflight = none.1;
              named = omega (arith, same);
              taken = omega arith;
              begun = good.forgotten.taken k d inside;
            }));
        room = rw (owed-begun o good.memories climb) at good.room;
      }

  -- and its counters are those of statistics
  pub resumable-statistics : IsStatistics (counted_with o)
  resumable-statistics =
      let good = may.good in
      let f : ℕ → DestinationCounts = λ d. with_remembered o.remembered d (destination_at d o.forgotten) in
      let many : length (map f (range_with_len 0 32)) ≡ 32 = length-map-range_with_len f 0 32 in
      let same : (d : ℕ) → f d ≡ destination_counts (begun o) d = destination-begun o good.memories (numbers-climb o good) good.forgotten.settled in
      let few : o.places ≤ 1000000000 = omega (arith, good.places_few, good.prunings_few) in record {
        all_channels = good.forgotten.statistics.all_channels;
        all_destinations = many;
        received_is_sum = good.forgotten.statistics.received_is_sum;
        were_taken = λ k c inside.
            let below : k < 32 = omega (arith, many) in
            subst (λ (d : DestinationCounts). d.inflight + d.delivered ≤ d.attempts)
            (sym (get_or-map-range_with_len f 0 32 k k c below (omega arith) ∙ same k)) (good.were_taken k below);
        slots_fit = λ k c inside.
            let below : k < 32 = omega (arith, many) in
            let slots = slots-places (begun o) good k in
            subst (λ (d : DestinationCounts). slots_of d < 2 ^ 64)
            (sym (get_or-map-range_with_len f 0 32 k k c below (omega arith) ∙ same k)) (omega (arith, slots, few));
      }
