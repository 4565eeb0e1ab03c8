-- The statistics of a book: counters for each channel and each destination, and what an event does to them.
use Rattle.std.specs.Prelude.{ℕ, ◌-◌, List, slice_index_or}
use Rattle.stat_count.specs.declared.ChannelCounts.{ChannelCounts}
use Rattle.stat_count.specs.declared.DestinationCounts.{DestinationCounts}

-- the counters by channel and by destination
pub record Statistics : Type 0 where
  pub channels : List ChannelCounts
  pub destinations : List DestinationCounts

-- a channel of which nothing was received
abbrev pub no_arrivals : ChannelCounts
no_arrivals = record { received = 0; filtered = 0; accepted = 0; refused = 0; repeats = 0 }

-- a destination that no message named
abbrev pub no_slots : DestinationCounts
no_slots = record { waiting = 0; inflight = 0; delivered = 0; failed = 0; attempts = 0 }

-- the counters of a channel
abbrev pub channel_at : ℕ → Statistics → ChannelCounts
channel_at channel statistics = slice_index_or statistics.channels channel no_arrivals

-- the counters of a destination
abbrev pub destination_at : ℕ → Statistics → DestinationCounts
destination_at d statistics = slice_index_or statistics.destinations d no_slots
