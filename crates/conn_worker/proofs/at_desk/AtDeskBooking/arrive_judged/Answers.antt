use Rattle.std.proofs.Common.{[], ◌∷◌, Result, IfOk, OnErr, refl, subst}
use Rattle.book_core.specs.declared.receipt.NotBooked.{NotBooked}
use Rattle.book_core.specs.declared.receipt.Receipt.{Receipt}
use Rattle.conn_worker.specs.inner.Arriving.{BooksAtDesk, desk_booked, desk_refused}
use Rattle.conn_worker.proofs.at_desk.AtDeskBooking.arrive_judged.Goals as goal

pub returns-in-Ok-clause-booked : goal.returns-in-Ok-clause-booked
returns-in-Ok-clause-booked g c =
    let h = g.A.Sharing.opening in
    let desk = c.args.self.now.desk in
    let arrived = c.arrive_judged-outcome in
    subst (λ (r : Result Receipt NotBooked). IfOk r (λ receipt. BooksAtDesk h desk.now arrived.new.desk (receipt ∷ []) desk.ghost_name desk.ghost_name)) c.in-Ok.is
    (desk_booked h c.args.conn c.args.judged.now desk.now arrived.new.desk desk.ghost_name desk.ghost_name arrived.result arrived.ensures.call arrived.ensures.counted refl)

pub returns-in-Err-clause-err : goal.returns-in-Err-clause-err
returns-in-Err-clause-err g c =
    let h = g.A.Sharing.opening in
    let desk = c.args.self.now.desk in
    let arrived = c.arrive_judged-outcome in
    subst (λ (r : Result Receipt NotBooked). OnErr r (BooksAtDesk h desk.now arrived.new.desk [] desk.ghost_name desk.ghost_name)) c.in-Err.is
    (desk_refused h c.args.conn c.args.judged.now desk.now arrived.new.desk desk.ghost_name desk.ghost_name arrived.result arrived.ensures.call arrived.ensures.refused refl)
