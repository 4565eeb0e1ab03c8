use Rattle.record_list.proofs.Closing.{Closed}
use Rattle.record_list.proofs.links.Links.join_all.Given as goal

abbrev pub invariant-loop-d : goal.invariant-loop-d
invariant-loop-d g l = Closed l.d l.fn.self l.self
