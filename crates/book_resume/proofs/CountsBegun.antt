-- The statistics of a history that goes on from an opening: what was forgotten, with the slots that are remembered.
use Rattle.std.proofs.Common.{◌≡◌, ℕ, Bool, length, refl, ◌∙◌, arith}
use Rattle.std.specs.Prelude.{All}
use Rattle.std.specs.List.{filter_map}
use Rattle.std.proofs.lemmas.List.Elements.{recursion_from_All}
use Rattle.std.proofs.lemmas.List.FromFn.{get_or-map-range_with_len, length-map-range_with_len}
use Rattle.dest_queue.specs.declared.SlotState.{SlotState}
use Rattle.dest_queue.specs.States.{is_waiting}
use Rattle.stat_count.specs.Statistics.{channel_at, destination_at, no_slots}
use Rattle.event_log.specs.Counting.{channel_counts, destination_counts, is_delivered, is_failed, slot_count}
use Rattle.event_log.specs.History.{Snapshot, begun}
use Rattle.event_log.specs.inner.History.{number_of}
use Rattle.event_log.specs.inner.Legal.{IsMemory}
use Rattle.event_log.specs.Room.{is_in_flight}
use Rattle.event_log.proofs.MemoryNumbers.{Climbing}
use Rattle.event_log.proofs.RememberedCounts.{count-remembered}
use Rattle.book_core.specs.inner.Counting.{AreCounted}
use Rattle.book_core.specs.inner.Pruning.{remembered_count}
use Rattle.book_core.proofs.Counted.{channels-equal, counts-equal}
use Rattle.book_core.proofs.Slots.{all-at}
use Rattle.book_resume.specs.inner.Counters.{counted_with, with_remembered}

module _ (o : Snapshot) (memories : All (IsMemory o.plan) o.remembered) (climb : Climbing 0 o.messages (filter_map number_of o.remembered))
    (settled : All (λ c. (c.waiting ≡ 0) × (c.inflight ≡ 0)) o.forgotten.destinations) where
  -- as many messages have a slot that is so as are remembered with one
  counted-slots : (d : ℕ) (so : SlotState → Bool) → slot_count (begun o) d so ≡ remembered_count o.remembered d so
  counted-slots d so =
      count-remembered o.plan d so o (recursion_from_All (IsMemory o.plan) o.remembered memories) climb

  pub destination-begun : (d : ℕ) → with_remembered o.remembered d (destination_at d o.forgotten) ≡ destination_counts (begun o) d
  destination-begun d =
      let none = all-at (λ c. (c.waiting ≡ 0) × (c.inflight ≡ 0)) o.forgotten.destinations no_slots settled (refl, refl) d in
      let waits = none.0 in
      let flies = none.1 in
      let waiting = counted-slots d is_waiting in
      let inflight = counted-slots d is_in_flight in
      let delivered = counted-slots d is_delivered in
      let failed = counted-slots d is_failed in
      counts-equal (with_remembered o.remembered d (destination_at d o.forgotten)) (destination_counts (begun o) d)
      (omega arith) (omega arith) (omega arith) (omega arith) (omega arith)

  pub counts-begun : length o.forgotten.channels ≡ 64 → AreCounted (begun o) (counted_with o)
  counts-begun all = record {
    all_channels = all;
    all_destinations = length-map-range_with_len (λ d. with_remembered o.remembered d (destination_at d o.forgotten)) 0 32;
    channel = λ c below. channels-equal (channel_at c o.forgotten) (channel_counts (begun o) c) (omega arith) (omega arith) (omega arith) (omega arith) (omega arith);
    destination = λ d below.
        get_or-map-range_with_len (λ d. with_remembered o.remembered d (destination_at d o.forgotten)) 0 32 d d no_slots below (omega arith)
        ∙ destination-begun d;
  }
