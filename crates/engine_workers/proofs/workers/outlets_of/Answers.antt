use Rattle.delivery_worker.proofs.Unused.{unused_station, unused_stations}
use Rattle.engine_workers.proofs.Parts.{first_from}
use Rattle.engine_workers.proofs.workers.outlets_of.Goals as goal

pub new-requires-clause-unused : goal.new-requires-clause-unused
new-requires-clause-unused g c = unused_station _ _ _ _ c.next.ensures.items c.in-Some.is c.loop-destination.invariant.unused

pub new-requires-clause-leads : goal.new-requires-clause-leads
new-requires-clause-leads g c = (first_from _ _ _ _ _ _ c.next-in-loop-destination.ensures.items c.in-Some-next.is c.loop-destination.invariant.in_order).0

pub loop-destination-preserved : goal.loop-destination-preserved
loop-destination-preserved g c = record {
  unused = unused_stations _ _ _ _ c.next.ensures.items c.in-Some.is c.loop-destination.invariant.unused;
  in_order = (first_from _ _ _ _ _ _ c.next-in-loop-destination.ensures.items c.in-Some-next.is c.loop-destination.invariant.in_order).1;
}
