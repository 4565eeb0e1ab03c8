use Rattle.std.proofs.Common.{◌≡◌, ◌*◌}
use Rattle.fixed_numbers.specs.declared.serving.TheConstants.{RECEIVES_MAX}
use Rattle.delivery_worker.specs.inner.Calls.{CallsUpTo}
use Rattle.delivery_worker.proofs.Delivered.{SoFar}
use Rattle.delivery_worker.proofs.worker.deliver.Given as goal

-- the attempts so far are counted, and are the turns of the station, and few receives were made
abbrev pub invariant-turns : goal.invariant-turns
invariant-turns g l =
    record {
      so_far : SoFar g.A.Sharing.opening l.d l.connection.framer (g.L.Link.sent l.fn.link) (g.L.Link.sent l.link) (g.L.Link.received l.fn.link) (g.L.Link.received l.link) l.fn.station l.station l.counter l.report;
      leads : g.L.Link.leads_to l.link ≡ g.L.Link.leads_to l.fn.link;
      calls : CallsUpTo (g.L.Link.receives l.fn.link) (g.L.Link.receives l.link) (RECEIVES_MAX * l.report.taken);
    }
