use Rattle.std.proofs.Common.{◌+◌, refl, sym, subst}
use Rattle.book_lock.specs.Rises.{AddsUp, SharedBook}
use Rattle.book_lock.specs.Shares.{seats_of}
use Rattle.book_lock.proofs.Durability.{has_committed}
use Rattle.book_lock.proofs.HandedIn.{are_callers, closed_by, handed_in, one_history}
use Rattle.book_lock.proofs.locked.Locked.close.Goals as goal

pub returns-clause-one_history : goal.returns-clause-one_history
returns-clause-one_history g c =
    let log = c.self.inside.log in
    let ds = c.args.desks.items in
    let ss = c.args.stations.items in
    let seats = handed_in log.0 log.1 ds ss c.of-roll.result c.hand_in_stations.new.roll c.hand_in_desks.new.roll c.of-roll.ensures c.hand_in_stations.ensures.roll c.hand_in_desks.ensures.roll
    c.compare.ensures.agreed c.compare.ensures.apart c.compare.ensures.within in
    one_history g.A.Sharing.opening c.self.inside.book log.0 log.1 (g.A.Sharing.desks + g.A.Sharing.stations + 1) ds ss c.self.invariant.2 c.self.invariant.3 seats

pub returns-clause-committed : goal.returns-clause-committed
returns-clause-committed g c =
    let log = c.self.inside.log in
    let ds = c.args.desks.items in
    let ss = c.args.stations.items in
    let n = g.A.Sharing.desks + g.A.Sharing.stations + 1 in
    let seats = handed_in log.0 log.1 ds ss c.of-roll.result c.hand_in_stations.new.roll c.hand_in_desks.new.roll c.of-roll.ensures c.hand_in_stations.ensures.roll c.hand_in_desks.ensures.roll
    c.compare.ensures.agreed c.compare.ensures.apart c.compare.ensures.within in
    let one = one_history g.A.Sharing.opening c.self.inside.book log.0 log.1 n ds ss c.self.invariant.2 c.self.invariant.3 seats in
    has_committed g.A.Sharing.opening c.self.inside.book g.A.Sharing.committed n (seats_of ds ss) log.0 one
    refl c.self.invariant.6.committed

pub returns-clause-closed : goal.returns-clause-closed
returns-clause-closed g c =
    let log = c.self.inside.log in
    let ds = c.args.desks.items in
    let ss = c.args.stations.items in
    let h : SharedBook = record { book = c.self.inside.book; opening = c.self.inside.opening; first = c.self.inside.first; admitted = c.self.inside.admitted } in
    let seats = handed_in log.0 log.1 ds ss c.of-roll.result c.hand_in_stations.new.roll c.hand_in_desks.new.roll c.of-roll.ensures c.hand_in_stations.ensures.roll c.hand_in_desks.ensures.roll
    c.compare.ensures.agreed c.compare.ensures.apart c.compare.ensures.within in
    let one = one_history g.A.Sharing.opening c.self.inside.book log.0 log.1 (g.A.Sharing.desks + g.A.Sharing.stations + 1) ds ss c.self.invariant.2 c.self.invariant.3 seats in
    λ up.
    closed_by g.A.Sharing.opening c.self.inside.book (g.A.Sharing.desks + g.A.Sharing.stations + 1) ds ss c.self.invariant.4 one
    (are_callers h log.0 ds ss c.self.invariant.1
    (subst (λ (k : SharedBook). AddsUp k ds ss) (sym c.self.view_is) up) seats.desks seats.stations c.hand_in_desks.ensures.made c.hand_in_stations.ensures.taken c.hand_in_stations.ensures.settled)
