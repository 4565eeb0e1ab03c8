use Rattle.std.proofs.Common.{◌≡◌, Some}
use Rattle.std.specs.Io.KnownBytes.{Keeps}
use Rattle.delivery_worker.specs.inner.Calls.{CallsMore, CallsUpTo}
use Rattle.delivery_worker.specs.inner.Stream.{Receives}
use Rattle.delivery_worker.proofs.connection.receive_answers.Given as goal

-- what was received so far is read as far as there are answers in it, at first nothing was received, and nothing is sent
abbrev pub invariant-receives : goal.invariant-receives
invariant-receives g l =
    record {
      receives : Receives l.fn.framer (Some l.framer) (g.L.Link.received l.fn.link) (g.L.Link.received l.link) l.fn.answers.items l.answers.items;
      first : l.n ≡ 0 → Keeps (g.L.Link.received l.fn.link) (g.L.Link.received l.link);
      uncalled : l.n ≡ 0 → CallsMore (g.L.Link.receives l.fn.link) (g.L.Link.receives l.link) 0;
      kept : Keeps (g.L.Link.sent l.fn.link) (g.L.Link.sent l.link);
      calls : CallsUpTo (g.L.Link.receives l.fn.link) (g.L.Link.receives l.link) l.n;
      leads : g.L.Link.leads_to l.link ≡ g.L.Link.leads_to l.fn.link;
    }
