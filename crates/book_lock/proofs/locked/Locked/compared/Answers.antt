use Rattle.std.proofs.Common.{◌++◌, ◌∙◌, map, subst}
use Rattle.book_lock.specs.Rises.{AddsUp, SharedBook}
use Rattle.book_lock.specs.inner.Log.{AreInLog, desk_seat, station_seat}
use Rattle.book_lock.proofs.HandedIn.{RollView, adds_up}
use Rattle.book_lock.proofs.locked.Locked.compared.Goals as goal

pub returns-clause-whole : goal.returns-clause-whole
returns-clause-whole g c =
    let log = c.self.inside.log in
    let ds = c.args.desks.now.items in
    let ss = c.args.stations.now.items in
    let h : SharedBook = record { book = c.self.inside.book; opening = c.self.inside.opening; first = c.self.inside.first; admitted = c.self.inside.admitted } in
    let desks = subst (λ (r : RollView). AreInLog r.0 (map desk_seat ds ++ r.2)) c.of-roll.ensures c.compare_desks.ensures.held in
    let stations = subst (λ (r : RollView). AreInLog r.0 (map station_seat ss ++ r.2)) (c.compare_desks.ensures.roll ∙ c.of-roll.ensures) c.compare_stations.ensures.held in
    λ count.
    subst (λ (k : SharedBook). AddsUp k ds ss) c.self.view_is
    (adds_up h log.0 g.A.Sharing.desks g.A.Sharing.stations ds ss c.self.invariant.1 c.self.invariant.5 desks stations
    (record { made = c.compare_desks.ensures.made; took = c.compare_stations.ensures.taken; done = c.compare_stations.ensures.settled })
    c.compare_desks.ensures.numbers c.compare_stations.ensures.numbers count.0 count.1)
