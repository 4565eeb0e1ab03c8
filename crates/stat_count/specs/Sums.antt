-- Sums over all channels and all destinations.
use Rattle.std.specs.Prelude.{ℕ, ◌+◌, ◌-◌, sum_by}
use Rattle.stat_count.specs.declared.ChannelCounts.{ChannelCounts}
use Rattle.stat_count.specs.declared.DestinationCounts.{DestinationCounts}
use Rattle.stat_count.specs.Statistics.{Statistics}

-- the messages received, repeats among them
abbrev pub arrivals : Statistics → ℕ
arrivals statistics = sum_by (λ (counts : ChannelCounts). counts.received + counts.repeats) statistics.channels

-- the attempts that were begun
abbrev pub takes : Statistics → ℕ
takes statistics = sum_by (λ (counts : DestinationCounts). counts.attempts) statistics.destinations

-- the attempts that were settled
abbrev pub settlements : Statistics → ℕ
settlements statistics = sum_by (λ (counts : DestinationCounts). counts.attempts - counts.inflight) statistics.destinations
