use Rattle.std.proofs.Common.{◌≡◌, [], ◌∷◌, IfErr, IfOk, OnErr, Result, refl, subst, sym}
use Rattle.book_core.specs.declared.receipt.Receipt.{Receipt}
use Rattle.book_lock.specs.Shares.{DeskView}
use Rattle.conn_core.specs.Booking.{IfRepeat}
use Rattle.conn_core.specs.declared.booking.Unbooked.{Unbooked}
use Rattle.conn_worker.specs.Arriving.{IsKnownIn}
use Rattle.conn_worker.specs.inner.Arriving.{BooksAtDesk, desk_nothing}
use Rattle.service_workers.proofs.Answering.{of_receipt, tidied_booked, tidied_known, tidied_refused}
use Rattle.service_workers.proofs.at_place.AtPlaceBooking.arrive.Goals as goal

pub returns-in-Some-clause-conn : goal.returns-in-Some-clause-conn
returns-in-Some-clause-conn g c =
    subst (λ (r : Result Receipt Unbooked). IfOk r (λ receipt. receipt.conn ≡ c.args.conn)) (sym c.note_arrival.ensures)
    (of_receipt (λ receipt. receipt.conn ≡ c.args.conn) c.in-Some.tidied.receipt c.in-Some.tidied.repeats c.in-Some.ensures.arrives.at_desk.conn)

pub returns-in-Some-clause-channel : goal.returns-in-Some-clause-channel
returns-in-Some-clause-channel g c =
    subst (λ (r : Result Receipt Unbooked). IfOk r (λ receipt. receipt.channel ≡ c.args.judged.now.channel)) (sym c.note_arrival.ensures)
    (of_receipt (λ receipt. receipt.channel ≡ c.args.judged.now.channel) c.in-Some.tidied.receipt c.in-Some.tidied.repeats c.in-Some.ensures.arrives.at_desk.channel)

pub returns-in-Some-clause-raw : goal.returns-in-Some-clause-raw
returns-in-Some-clause-raw g c =
    subst (λ (r : Result Receipt Unbooked). IfOk r (λ receipt. receipt.raw ≡ c.args.judged.now.raw)) (sym c.note_arrival.ensures)
    (of_receipt (λ receipt. receipt.raw ≡ c.args.judged.now.raw) c.in-Some.tidied.receipt c.in-Some.tidied.repeats c.in-Some.ensures.arrives.at_desk.raw)

pub returns-in-Some-clause-booked : goal.returns-in-Some-clause-booked
returns-in-Some-clause-booked g c =
    let h = g.A.Sharing.opening in
    let desk = c.args.self.now.desk in
    let free = c.book_when_free in
    subst (λ (r : Result Receipt Unbooked). IfOk r (λ receipt. BooksAtDesk h desk.now free.new.desk (receipt ∷ []) desk.ghost_name desk.ghost_name)) (sym c.note_arrival.ensures)
    (tidied_booked h c.args.conn c.args.judged.now desk.now free.new.desk desk.ghost_name c.in-Some.tidied c.in-Some.ensures.arrives)

pub returns-in-Some-clause-err : goal.returns-in-Some-clause-err
returns-in-Some-clause-err g c =
    let h = g.A.Sharing.opening in
    let desk = c.args.self.now.desk in
    let free = c.book_when_free in
    subst (λ (r : Result Receipt Unbooked). OnErr r (BooksAtDesk h desk.now free.new.desk [] desk.ghost_name desk.ghost_name)) (sym c.note_arrival.ensures)
    (tidied_refused h c.args.conn c.args.judged.now desk.now free.new.desk desk.ghost_name c.in-Some.tidied c.in-Some.ensures.arrives)

pub returns-in-Some-clause-known : goal.returns-in-Some-clause-known
returns-in-Some-clause-known g c =
    let h = g.A.Sharing.opening in
    let desk = c.args.self.now.desk in
    let free = c.book_when_free in
    subst (λ (r : Result Receipt Unbooked). IfErr r (IfRepeat (IsKnownIn h free.new.desk.seat.seen c.args.judged.now.channel c.args.judged.now.raw))) (sym c.note_arrival.ensures)
    (tidied_known h c.args.conn c.args.judged.now desk.now free.new.desk desk.ghost_name c.in-Some.tidied c.in-Some.ensures.arrives)

pub returns-in-None-clause-err : goal.returns-in-None-clause-err
returns-in-None-clause-err g c =
    let h = g.A.Sharing.opening in
    let desk = c.args.self.now.desk in
    let free = c.book_when_free in
    subst (λ (r : Result Receipt Unbooked). OnErr r (BooksAtDesk h desk.now free.new.desk [] desk.ghost_name desk.ghost_name)) (sym c.note_stop.ensures)
    (subst (λ (d : DeskView). BooksAtDesk h desk.now d [] desk.ghost_name desk.ghost_name) (sym (c.in-None.ensures.same refl)) (desk_nothing h desk.now desk.ghost_name))

pub returns-in-None-clause-known : goal.returns-in-None-clause-known
returns-in-None-clause-known g c =
    subst (λ (r : Result Receipt Unbooked). IfErr r (IfRepeat (IsKnownIn g.A.Sharing.opening c.book_when_free.new.desk.seat.seen c.args.judged.now.channel c.args.judged.now.raw))) (sym c.note_stop.ensures) tt
