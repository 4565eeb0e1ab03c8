use Rattle.std.proofs.Common.{◌≡◌, ◌*◌}
use Rattle.fixed_numbers.specs.declared.serving.TheConstants.{RECEIVES_MAX}
use Rattle.delivery_worker.specs.Taking.{TakesByRule}
use Rattle.delivery_worker.specs.inner.Calls.{CallsUpTo}
use Rattle.delivery_worker.proofs.Afresh.{SoFar}
use Rattle.delivery_worker.proofs.until.deliver_until.Given as goal

-- the attempts so far are counted, and are the turns of the station, they are by the rule, and few receives were made
abbrev pub invariant-turns : goal.invariant-turns
invariant-turns g l =
    record {
      so_far : SoFar g.A.Sharing.opening l.d (g.L.Link.sent l.fn.link) (g.L.Link.sent l.link) (g.L.Link.received l.fn.link) (g.L.Link.received l.link) l.fn.station l.station l.counter l.report;
      by_rule : TakesByRule l.rule g.A.Sharing.opening l.fn.station.seat l.station.seat;
      leads : g.L.Link.leads_to l.link ≡ g.L.Link.leads_to l.fn.link;
      calls : CallsUpTo (g.L.Link.receives l.fn.link) (g.L.Link.receives l.link) (RECEIVES_MAX * l.report.taken);
    }
