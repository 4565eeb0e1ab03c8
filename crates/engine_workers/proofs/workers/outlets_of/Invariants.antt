use Rattle.std.proofs.Common.{All}
use Rattle.std.specs.Vec.Iter.{into_iter_items}
use Rattle.delivery_worker.specs.Sent.{IsUnused}
use Rattle.engine_workers.specs.inner.Order.{AreFrom}
use Rattle.engine_workers.proofs.workers.outlets_of.Given as goal

abbrev pub invariant-loop-destination : goal.invariant-loop-destination
invariant-loop-destination g l =
    record {
      unused : All (λ s. IsUnused s.seat) (into_iter_items l.stations);
      in_order : AreFrom g.L.Link.leads_to l.destination (into_iter_items l.links);
    }
