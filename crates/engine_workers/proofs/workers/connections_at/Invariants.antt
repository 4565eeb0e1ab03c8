use Rattle.std.proofs.Common.{All}
use Rattle.std.specs.Vec.Iter.{into_iter_items}
use Rattle.delivery_worker.specs.Sent.{IsUnused}
use Rattle.engine_workers.proofs.workers.connections_at.Given as goal

abbrev pub invariant-loop-k : goal.invariant-loop-k
invariant-loop-k g l = All (λ d. IsUnused d.seat) (into_iter_items l.desks)
