use Rattle.delivery_worker.proofs.Unused.{unused_desks}
use Rattle.engine_workers.proofs.workers.connections_at.Goals as goal

pub loop-k-preserved : goal.loop-k-preserved
loop-k-preserved g c = unused_desks _ _ _ _ c.next.ensures.items c.in-Some.is c.loop-k.invariant
