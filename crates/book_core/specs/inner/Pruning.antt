-- What a pruning looks for, and what it leaves.
use Rattle.std.specs.Prelude.{◌≡◌, ◌<◌, ℕ, ◌-◌, Bool, false, not, nat_lt, if◌then◌else◌, List, length, filter, count_by, Option, None, Some}
use Rattle.std.specs.Option.{option_map_or}
use Rattle.dest_queue.specs.declared.SlotState.{SlotState}
use Rattle.dest_queue.specs.declared.SlotState.TheVariants.{Waiting, InFlight, Delivered, Failed}
use Rattle.dest_queue.specs.Slots.{state_at}
use Rattle.dest_queue.specs.States.{is_waiting}
use Rattle.stat_count.specs.declared.DestinationCounts.{DestinationCounts}
use Rattle.stat_count.specs.Statistics.{Statistics, destination_at}
use Rattle.stat_count.specs.inner.Statistics.{one_less_delivered, one_less_failed, one_less_inflight, one_less_waiting}
use Rattle.event_log.specs.Counting.{is_delivered, is_failed}
use Rattle.event_log.specs.History.{Remembered}
use Rattle.event_log.specs.Room.{is_in_flight}

-- the lesser of two numbers, or the one that there is
abbrev pub lesser : Option ℕ → Option ℕ → Option ℕ
lesser None b = b
lesser (Some first) None = Some first
lesser (Some first) (Some second) = if nat_lt second first then Some second else Some first

-- the arrivals whose index is this one or a later one
abbrev pub since : ℕ → List Remembered → List Remembered
since floor arrivals = filter (λ r. not (nat_lt r.place floor)) arrivals

-- the counters of a destination without one slot in this state
abbrev pub left_out : SlotState → DestinationCounts → DestinationCounts
left_out (Waiting attempts due) counts = one_less_waiting counts
left_out (InFlight attempt) counts = one_less_inflight counts
left_out Delivered counts = one_less_delivered counts
left_out (Failed cause) counts = one_less_failed counts

-- how many of these arrivals have a slot at the destination that is so
abbrev pub remembered_count : List Remembered → ℕ → (SlotState → Bool) → ℕ
remembered_count arrivals d so = count_by (λ r. option_map_or so (state_at d r.slots) false) arrivals

-- the counters of a destination without the slots that these arrivals have there; the attempts stay
abbrev pub unremembered : List Remembered → ℕ → DestinationCounts → DestinationCounts
unremembered arrivals d counts = record {
  waiting = counts.waiting - remembered_count arrivals d is_waiting;
  inflight = counts.inflight - remembered_count arrivals d is_in_flight;
  delivered = counts.delivered - remembered_count arrivals d is_delivered;
  failed = counts.failed - remembered_count arrivals d is_failed;
  attempts = counts.attempts;
}

-- a tally without these arrivals; the channels stay
pub record LeavesOut (arrivals : List Remembered) (old new : Statistics) : Type 0 where
  pub channels : new.channels ≡ old.channels
  pub all_destinations : length new.destinations ≡ length old.destinations
  pub destinations : (d : ℕ) → d < 32 → destination_at d new ≡ unremembered arrivals d (destination_at d old)
