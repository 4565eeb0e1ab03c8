use Rattle.std.proofs.Common.{◌∙◌, ap, arith}
use Rattle.std.specs.Prelude.{sum_by}
use Rattle.std.proofs.lemmas.List.{take_all}
use Rattle.stat_count.specs.declared.DestinationCounts.{DestinationCounts}
use Rattle.book_lock.proofs.sums.takes.Goals as goal

pub returns : goal.returns
returns c = c.loop-d.invariant.0 ∙ ap (sum_by (λ (counts : DestinationCounts). counts.attempts)) (take_all c.loop-d.d c.args.counts.now.destinations (omega (arith, c.requires, c.loop-d-test.false)))
