-- What proofs use beside the page Statistics.
use Rattle.std.specs.Prelude.{ℕ, Bool, ◌+◌, ◌-◌, ◌≡◌, ◌==◌, ◌&&◌, ◌<◌, ◌≤◌, ◌^◌, length, nat_lt, All, slice_set, replicate}
use Rattle.std.specs.List.{list_all}
use Rattle.stat_count.specs.declared.ChannelCounts.{ChannelCounts}
use Rattle.stat_count.specs.declared.DestinationCounts.{DestinationCounts}
use Rattle.stat_count.specs.Statistics.{Statistics, no_arrivals, no_slots, channel_at, destination_at}

-- the statistics, one channel's counters changed and no other
abbrev pub on_channel : ℕ → (ChannelCounts → ChannelCounts) → Statistics → Statistics
on_channel channel change statistics = record statistics { channels = slice_set statistics.channels channel (change (channel_at channel statistics)) }

-- the statistics, one destination's counters changed and no other
abbrev pub on_destination : ℕ → (DestinationCounts → DestinationCounts) → Statistics → Statistics
on_destination d change statistics = record statistics { destinations = slice_set statistics.destinations d (change (destination_at d statistics)) }

-- a message was received, and filtered
abbrev pub filtered_one : ChannelCounts → ChannelCounts
filtered_one counts = record counts { received = counts.received + 1; filtered = counts.filtered + 1 }

-- a message was received, and accepted
abbrev pub accepted_one : ChannelCounts → ChannelCounts
accepted_one counts = record counts { received = counts.received + 1; accepted = counts.accepted + 1 }

-- a message was received, and refused
abbrev pub refused_one : ChannelCounts → ChannelCounts
refused_one counts = record counts { received = counts.received + 1; refused = counts.refused + 1 }

-- a message was repeated
abbrev pub repeated_one : ChannelCounts → ChannelCounts
repeated_one counts = record counts { repeats = counts.repeats + 1 }

-- how many messages named the destination
abbrev pub slots_of : DestinationCounts → ℕ
slots_of counts = counts.waiting + counts.inflight + counts.delivered + counts.failed

-- a message that names the destination begins to wait
abbrev pub waits_one : DestinationCounts → DestinationCounts
waits_one counts = record counts { waiting = counts.waiting + 1 }

-- one that waits is taken
abbrev pub taken_one : DestinationCounts → DestinationCounts
taken_one counts = record counts { waiting = counts.waiting - 1; inflight = counts.inflight + 1; attempts = counts.attempts + 1 }

-- one in flight is delivered
abbrev pub delivered_one : DestinationCounts → DestinationCounts
delivered_one counts = record counts { inflight = counts.inflight - 1; delivered = counts.delivered + 1 }

-- one in flight fails
abbrev pub failed_one : DestinationCounts → DestinationCounts
failed_one counts = record counts { inflight = counts.inflight - 1; failed = counts.failed + 1 }

-- one in flight waits again
abbrev pub again_one : DestinationCounts → DestinationCounts
again_one counts = record counts { inflight = counts.inflight - 1; waiting = counts.waiting + 1 }

-- one that waits is cancelled
abbrev pub cancelled_one : DestinationCounts → DestinationCounts
cancelled_one counts = record counts { waiting = counts.waiting - 1; failed = counts.failed + 1 }

-- one that waits is left out
abbrev pub one_less_waiting : DestinationCounts → DestinationCounts
one_less_waiting counts = record counts { waiting = counts.waiting - 1 }

-- one in flight is left out
abbrev pub one_less_inflight : DestinationCounts → DestinationCounts
one_less_inflight counts = record counts { inflight = counts.inflight - 1 }

-- one that the destination has is left out
abbrev pub one_less_delivered : DestinationCounts → DestinationCounts
one_less_delivered counts = record counts { delivered = counts.delivered - 1 }

-- one that failed is left out
abbrev pub one_less_failed : DestinationCounts → DestinationCounts
one_less_failed counts = record counts { failed = counts.failed - 1 }

-- the statistics of a book in which nothing has happened
abbrev pub empty : Statistics
empty = record { channels = replicate 64 no_arrivals; destinations = replicate 32 no_slots }

-- what the statistics of a book always are: each received message was filtered, accepted or refused; each one in flight or
-- delivered was taken; and all that named a destination can be counted
pub record IsStatistics (statistics : Statistics) : Type 0 where
  pub all_channels : length statistics.channels ≡ 64
  pub all_destinations : length statistics.destinations ≡ 32
  pub received_is_sum : All (λ counts. counts.received ≡ counts.filtered + counts.accepted + counts.refused) statistics.channels
  pub were_taken : All (λ counts. counts.inflight + counts.delivered ≤ counts.attempts) statistics.destinations
  pub slots_fit : All (λ counts. slots_of counts < 2 ^ 64) statistics.destinations

-- each message received on a channel was filtered, accepted or refused
abbrev pub is_sum : ChannelCounts → Bool
is_sum counts = counts.received == counts.filtered + counts.accepted + counts.refused

-- each message in flight to a destination or delivered was taken, and all that named it can be counted
abbrev pub can_be : DestinationCounts → Bool
can_be counts = nat_lt (counts.inflight + counts.delivered) (counts.attempts + 1) && nat_lt (slots_of counts) (2 ^ 64)

-- whether they are what the statistics of a book always are
abbrev pub are_statistics : Statistics → Bool
are_statistics statistics = (length statistics.channels == 64) && (length statistics.destinations == 32)
    && list_all is_sum statistics.channels && list_all can_be statistics.destinations
