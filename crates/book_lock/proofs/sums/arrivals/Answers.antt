use Rattle.std.proofs.Common.{◌∙◌, ap, arith, ◌+◌}
use Rattle.std.specs.Prelude.{sum_by}
use Rattle.std.proofs.lemmas.List.{take_all}
use Rattle.stat_count.specs.declared.ChannelCounts.{ChannelCounts}
use Rattle.book_lock.proofs.sums.arrivals.Goals as goal

pub returns : goal.returns
returns c = c.loop-channel.invariant.0 ∙ ap (sum_by (λ (counts : ChannelCounts). counts.received + counts.repeats)) (take_all c.loop-channel.channel c.args.counts.now.channels (omega (arith, c.requires, c.loop-channel-test.false)))
