use Rattle.delivery_worker.proofs.Unused.{unused_station, unused_stations}
use Rattle.service_run.proofs.workers.posts_of.Goals as goal

pub new-requires : goal.new-requires
new-requires g c = unused_station _ _ _ _ c.next.ensures.items c.in-Some.is c.loop-destination.invariant

pub loop-destination-preserved : goal.loop-destination-preserved
loop-destination-preserved g c = unused_stations _ _ _ _ c.next.ensures.items c.in-Some.is c.loop-destination.invariant
