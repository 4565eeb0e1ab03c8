-- The counters of a destination, with what is remembered.
use Rattle.std.specs.Prelude.{◌+◌, ℕ, Bool, nat_le, List, map}
use Rattle.std.specs.List.{range_with_len}
use Rattle.dest_queue.specs.declared.SlotState.{SlotState}
use Rattle.dest_queue.specs.declared.SlotState.TheVariants.{Waiting, InFlight, Delivered, Failed}
use Rattle.dest_queue.specs.States.{is_waiting}
use Rattle.stat_count.specs.declared.DestinationCounts.{DestinationCounts}
use Rattle.stat_count.specs.Statistics.{Statistics, destination_at}
use Rattle.event_log.specs.Counting.{is_delivered, is_failed}
use Rattle.event_log.specs.History.{Remembered, Snapshot}
use Rattle.event_log.specs.Room.{is_in_flight}
use Rattle.book_core.specs.inner.Pruning.{remembered_count}

-- the counters of a destination with one more slot in this state
abbrev pub with_slot : SlotState → DestinationCounts → DestinationCounts
with_slot (Waiting attempts due) counts = record counts { waiting = counts.waiting + 1 }
with_slot (InFlight attempt) counts = record counts { inflight = counts.inflight + 1 }
with_slot Delivered counts = record counts { delivered = counts.delivered + 1 }
with_slot (Failed cause) counts = record counts { failed = counts.failed + 1 }

-- the counters of a destination with the slots that these arrivals have there; the attempts stay
abbrev pub with_remembered : List Remembered → ℕ → DestinationCounts → DestinationCounts
with_remembered arrivals d counts = record {
  waiting = counts.waiting + remembered_count arrivals d is_waiting;
  inflight = counts.inflight + remembered_count arrivals d is_in_flight;
  delivered = counts.delivered + remembered_count arrivals d is_delivered;
  failed = counts.failed + remembered_count arrivals d is_failed;
  attempts = counts.attempts;
}

-- the statistics of what was forgotten, with the slots that an opening remembers
abbrev pub counted_with : Snapshot → Statistics
counted_with opening = record {
  channels = opening.forgotten.channels;
  destinations = map (λ d. with_remembered opening.remembered d (destination_at d opening.forgotten)) (range_with_len 0 32);
}

-- whether each message in flight to a destination or delivered was taken
abbrev pub was_taken : DestinationCounts → Bool
was_taken counts = nat_le (counts.inflight + counts.delivered) counts.attempts
