use Rattle.std.proofs.Common.{take}
use Rattle.book_core.specs.inner.Pruning.{LeavesOut}
use Rattle.book_core.proofs.pruning.unremembered.Given as goal

abbrev pub invariant-loop-arrival : goal.invariant-loop-arrival
invariant-loop-arrival l = LeavesOut (take l.arrival-index l.remembered) l.counts l.left
