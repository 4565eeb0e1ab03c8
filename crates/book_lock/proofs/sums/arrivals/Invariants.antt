use Rattle.std.proofs.Common.{◌≡◌, ◌≤◌, ◌*◌, ◌+◌, take}
use Rattle.std.specs.Prelude.{sum_by}
use Rattle.stat_count.specs.declared.ChannelCounts.{ChannelCounts}
use Rattle.book_lock.proofs.sums.arrivals.Given as goal

abbrev pub invariant-loop-channel : goal.invariant-loop-channel
invariant-loop-channel l = (l.sum ≡ sum_by (λ (counts : ChannelCounts). counts.received + counts.repeats) (take l.channel l.counts.channels)) × (l.sum ≤ l.channel * 36893488147419103232)
