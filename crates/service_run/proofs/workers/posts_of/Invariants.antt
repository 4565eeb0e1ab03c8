use Rattle.std.proofs.Common.{All}
use Rattle.std.specs.Vec.Iter.{into_iter_items}
use Rattle.delivery_worker.specs.Sent.{IsUnused}
use Rattle.service_run.proofs.workers.posts_of.Given as goal

abbrev pub invariant-loop-destination : goal.invariant-loop-destination
invariant-loop-destination g l = All (λ s. IsUnused s.seat) (into_iter_items l.stations)
