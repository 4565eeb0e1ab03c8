-- The statistics of a history.
use Rattle.std.specs.Prelude.{◌+◌, ℕ, Bool, true, false, not, ◌&&◌, ◌==◌, map, count_by}
use Rattle.std.specs.List.{range_with_len}
use Rattle.std.specs.Option.{option_map_or}
use Rattle.dest_queue.specs.declared.SlotState.{SlotState}
use Rattle.dest_queue.specs.declared.SlotState.TheVariants.{Waiting, InFlight, Delivered, Failed}
use Rattle.dest_queue.specs.States.{is_waiting}
use Rattle.stat_count.specs.declared.ChannelCounts.{ChannelCounts}
use Rattle.stat_count.specs.declared.DestinationCounts.{DestinationCounts}
use Rattle.stat_count.specs.Statistics.{Statistics, channel_at, destination_at}
use Rattle.event_log.specs.declared.entry.Told.{Told}
use Rattle.event_log.specs.declared.entry.Told.TheVariants as told
use Rattle.event_log.specs.declared.entry.Entry.{Entry}
use Rattle.event_log.specs.declared.entry.Entry.TheVariants.{Arrival, Take, Settle, Cancel, Deploy}
use Rattle.event_log.specs.History.{History, numbers, slot}
use Rattle.event_log.specs.Room.{is_in_flight}

abbrev pub is_accepted : Told → Bool
is_accepted (told.Accepted number) = true
is_accepted told.Filtered = false
is_accepted (told.Refused cause) = false
is_accepted (told.Repeat place) = false

abbrev pub is_filtered : Told → Bool
is_filtered (told.Accepted number) = false
is_filtered told.Filtered = true
is_filtered (told.Refused cause) = false
is_filtered (told.Repeat place) = false

abbrev pub is_refused : Told → Bool
is_refused (told.Accepted number) = false
is_refused told.Filtered = false
is_refused (told.Refused cause) = true
is_refused (told.Repeat place) = false

abbrev pub is_repeat : Told → Bool
is_repeat (told.Accepted number) = false
is_repeat told.Filtered = false
is_repeat (told.Refused cause) = false
is_repeat (told.Repeat place) = true

-- whether an entry is an arrival on the channel with such an answer
abbrev pub is_told : ℕ → (Told → Bool) → Entry → Bool
is_told c so (Arrival conn channel raw told) = (channel == c) && so told
is_told c so (Take ticket now) = false
is_told c so (Settle outcome ticket now state) = false
is_told c so (Cancel number among mask) = false
is_told c so (Deploy plan) = false

-- how many arrivals on the channel since the opening have such an answer
abbrev pub told_count : History → ℕ → (Told → Bool) → ℕ
told_count h c so = count_by (is_told c so) h.entries

-- what was counted at the opening of a channel
abbrev pub channel_before : History → ℕ → ChannelCounts
channel_before h c = channel_at c h.opening.forgotten

-- what became of the messages of a channel; a repeat was received before
abbrev pub channel_counts : History → ℕ → ChannelCounts
channel_counts h c = record {
  received = (channel_before h c).received + told_count h c (λ told. not (is_repeat told));
  filtered = (channel_before h c).filtered + told_count h c is_filtered;
  accepted = (channel_before h c).accepted + told_count h c is_accepted;
  refused = (channel_before h c).refused + told_count h c is_refused;
  repeats = (channel_before h c).repeats + told_count h c is_repeat;
}

abbrev pub is_delivered : SlotState → Bool
is_delivered (Waiting attempts due) = false
is_delivered (InFlight attempt) = false
is_delivered Delivered = true
is_delivered (Failed cause) = false

abbrev pub is_failed : SlotState → Bool
is_failed (Waiting attempts due) = false
is_failed (InFlight attempt) = false
is_failed Delivered = false
is_failed (Failed cause) = true

-- how many messages have a slot at the destination that is so
abbrev pub slot_count : History → ℕ → (SlotState → Bool) → ℕ
slot_count h d so = count_by (λ n. option_map_or so (slot h n d) false) (numbers h)

-- whether an entry is a take at the destination
abbrev pub is_take_at : ℕ → Entry → Bool
is_take_at d (Arrival conn channel raw told) = false
is_take_at d (Take ticket now) = ticket.destination == d
is_take_at d (Settle outcome ticket now state) = false
is_take_at d (Cancel number among mask) = false
is_take_at d (Deploy plan) = false

-- what was counted at the opening of a destination: the forgotten messages that it has and that failed there, and the attempts that were begun
abbrev pub destination_before : History → ℕ → DestinationCounts
destination_before h d = destination_at d h.opening.forgotten

-- the counters of the messages of a destination
abbrev pub destination_counts : History → ℕ → DestinationCounts
destination_counts h d = record {
  waiting = slot_count h d is_waiting;
  inflight = slot_count h d is_in_flight;
  delivered = (destination_before h d).delivered + slot_count h d is_delivered;
  failed = (destination_before h d).failed + slot_count h d is_failed;
  attempts = (destination_before h d).attempts + count_by (is_take_at d) h.entries;
}

-- the statistics of a history, for 64 channels and 32 destinations
abbrev pub counted : History → Statistics
counted h = record { channels = map (channel_counts h) (range_with_len 0 64); destinations = map (destination_counts h) (range_with_len 0 32) }
