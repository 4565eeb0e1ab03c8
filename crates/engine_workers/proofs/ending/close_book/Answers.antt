use Rattle.engine_workers.proofs.Traced.{traced_end}
use Rattle.engine_workers.proofs.ending.close_book.Goals as goal

pub returns-clause-traced : goal.returns-clause-traced
returns-clause-traced g c =
    traced_end g.A.Sharing.opening _ c.args.worked.connections.items c.args.worked.outlets.items (λ s. s.desk) (λ s. s.report) (λ o. o.station) (λ o. o.destination) (λ o. o.report)
    (λ s. s.served) (λ o. o.delivered) (λ closed. closed.book) c.close.result _ _ c.close.ensures.closed c.in_ok-desks.ensures.desks c.in_ok-stations.ensures.stations
    _ c.in_ok-desks.ensures.reports _ c.ok-closed.ensures.value
