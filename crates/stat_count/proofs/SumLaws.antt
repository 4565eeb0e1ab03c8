-- What an event does to the sums.
use Rattle.std.proofs.Common.{◌≡◌, ℕ, ◌+◌, ◌-◌, ◌<◌, length, get_or, set, arith, sum_by, List}
use Rattle.std.proofs.lemmas.List.Sums.{sum_by-set}
use Rattle.stat_count.specs.declared.ChannelCounts.{ChannelCounts}
use Rattle.stat_count.specs.declared.DestinationCounts.{DestinationCounts}
use Rattle.stat_count.specs.Statistics.{Statistics, no_arrivals, no_slots, channel_at, destination_at}
use Rattle.stat_count.specs.inner.Statistics.{on_channel, on_destination}
use Rattle.stat_count.specs.Sums.{arrivals, takes, settlements}

-- a change at one place adds to the sum what it adds there
sum_more : {X : Type 0} (f : X → ℕ) (xs : List X) (i n : ℕ) (y d : X) → i < length xs → f y ≡ f (get_or xs i d) + n → sum_by f (set xs i y) ≡ sum_by f xs + n
sum_more f xs i n y d inside more = let sums = sum_by-set f xs i y d inside in omega arith

pub arrivals-more : (statistics : Statistics) (channel n : ℕ) (change : ChannelCounts → ChannelCounts) → channel < length statistics.channels
    → (change (channel_at channel statistics)).received + (change (channel_at channel statistics)).repeats ≡ (channel_at channel statistics).received + (channel_at channel statistics).repeats + n
    → arrivals (on_channel channel change statistics) ≡ arrivals statistics + n
arrivals-more statistics channel n change inside more = sum_more (λ counts. counts.received + counts.repeats) statistics.channels channel n (change (channel_at channel statistics)) no_arrivals inside more

pub takes-more : (statistics : Statistics) (d n : ℕ) (change : DestinationCounts → DestinationCounts) → d < length statistics.destinations
    → (change (destination_at d statistics)).attempts ≡ (destination_at d statistics).attempts + n → takes (on_destination d change statistics) ≡ takes statistics + n
takes-more statistics d n change inside more = sum_more (λ counts. counts.attempts) statistics.destinations d n (change (destination_at d statistics)) no_slots inside more

pub settlements-more : (statistics : Statistics) (d n : ℕ) (change : DestinationCounts → DestinationCounts) → d < length statistics.destinations
    → (change (destination_at d statistics)).attempts - (change (destination_at d statistics)).inflight ≡ (destination_at d statistics).attempts - (destination_at d statistics).inflight + n
    → settlements (on_destination d change statistics) ≡ settlements statistics + n
settlements-more statistics d n change inside more = sum_more (λ counts. counts.attempts - counts.inflight) statistics.destinations d n (change (destination_at d statistics)) no_slots inside more
