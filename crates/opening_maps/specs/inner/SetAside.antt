-- What an opening counts of forgotten messages is set aside, so that its numbers may be lowered to those that it remembers.
use Rattle.std.specs.Prelude.{ℕ, ◌+◌, ◌-◌, min, length, map, replicate}
use Rattle.stat_count.specs.declared.ChannelCounts.{ChannelCounts}
use Rattle.stat_count.specs.declared.DestinationCounts.{DestinationCounts}
use Rattle.stat_count.specs.Statistics.{Statistics, no_arrivals, no_slots}
use Rattle.event_log.specs.History.{Snapshot}

-- the counters of a destination that stay where that many arrivals are remembered: an attempt for each, which may have been taken
abbrev pub destination_left : ℕ → DestinationCounts → DestinationCounts
destination_left arrivals c = record no_slots { attempts = min c.attempts arrivals }

-- those that are set aside
abbrev pub destination_aside : ℕ → DestinationCounts → DestinationCounts
destination_aside arrivals c = record no_slots { delivered = c.delivered; failed = c.failed; attempts = c.attempts - arrivals }

-- the counters that stay: none of a channel
abbrev pub counts_left : Snapshot → Statistics
counts_left o = record {
  channels = replicate 64 no_arrivals;
  destinations = map (destination_left (length o.remembered)) o.forgotten.destinations;
}

-- those that are set aside: all of each channel
abbrev pub counts_aside : Snapshot → Statistics
counts_aside o = record {
  channels = o.forgotten.channels;
  destinations = map (destination_aside (length o.remembered)) o.forgotten.destinations;
}

-- an opening whose counters are set aside
abbrev pub uncounted : Snapshot → Snapshot
uncounted o = record o { forgotten = counts_left o }

-- the sum of two channels' counters, and of two destinations'
abbrev pub channels_added : ChannelCounts → ChannelCounts → ChannelCounts
channels_added a b = record {
  received = a.received + b.received;
  filtered = a.filtered + b.filtered;
  accepted = a.accepted + b.accepted;
  refused = a.refused + b.refused;
  repeats = a.repeats + b.repeats;
}

abbrev pub destinations_added : DestinationCounts → DestinationCounts → DestinationCounts
destinations_added a b = record {
  waiting = a.waiting + b.waiting;
  inflight = a.inflight + b.inflight;
  delivered = a.delivered + b.delivered;
  failed = a.failed + b.failed;
  attempts = a.attempts + b.attempts;
}
