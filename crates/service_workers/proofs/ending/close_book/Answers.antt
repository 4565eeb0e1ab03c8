use Rattle.std.proofs.Common.{◌≡◌, ◌+◌, List, map, subst, IfOk}
use Rattle.book_lock.specs.Durable.{HasCommitted}
use Rattle.book_lock.specs.Rises.{SharedBook}
use Rattle.book_lock.specs.Shares.{StationView, seats_of}
use Rattle.delivery_worker.proofs.Works.{traced_close}
use Rattle.service_workers.proofs.Closed.{where_some}
use Rattle.service_workers.proofs.ending.close_book.Goals as goal

pub returns-clause-traced : goal.returns-clause-traced
returns-clause-traced g c =
    traced_close g.A.Sharing.opening _ c.args.desks.items c.args.posts.items (λ p. p.station) (λ p. p.destination) (λ p. p.report)
    (λ p. p.delivered) (λ closed. closed.book) c.close.result _ c.close.ensures.closed c.in_ok-stations.ensures _ c.ok.ensures.value

pub returns-clause-opening : goal.returns-clause-opening
returns-clause-opening g c =
    where_some (λ (closed : SharedBook). (closed.opening ≡ g.A.Sharing.counts) × (closed.first ≡ g.A.Sharing.first))
    c.close.result _ c.ok.ensures.value c.close.ensures.opening

pub returns-clause-committed : goal.returns-clause-committed
returns-clause-committed g c =
    let o = g.A.Sharing in
    let seats = o.desks + o.stations + 1 in
    where_some (λ (closed : SharedBook). HasCommitted o.opening o.committed seats (seats_of c.args.desks.items (map (λ p. p.station) c.args.posts.items)) closed.book)
    c.close.result _ c.ok.ensures.value
    (subst (λ (l : List StationView). IfOk c.close.result (λ (closed : SharedBook). HasCommitted o.opening o.committed seats (seats_of c.args.desks.items l) closed.book)) c.in_ok-stations.ensures c.close.ensures.committed)
