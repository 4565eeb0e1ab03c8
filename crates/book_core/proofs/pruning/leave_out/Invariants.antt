use Rattle.book_core.proofs.LeftOut.{SoFar}
use Rattle.book_core.proofs.pruning.leave_out.Given as goal

abbrev pub invariant-loop-d : goal.invariant-loop-d
invariant-loop-d l = SoFar l.arrival l.initial.counts l.d l.counts
