use Rattle.std.proofs.Common.{◌≡◌, ℕ, [], ◌∷◌, IfErr, IfOk, IfSome, OnErr, Result, Ok, Err, refl, subst, sym}
use Rattle.event_log.specs.History.{History}
use Rattle.book_core.specs.declared.receipt.NotBooked.{NotBooked}
use Rattle.conn_core.specs.Booking.{IfRepeat}
use Rattle.conn_core.specs.declared.booking.Unbooked.{Unbooked}
use Rattle.conn_worker.specs.Arriving.{IsKnownIn}
use Rattle.service_workers.proofs.Answering.{of_receipt, tidied_booked, tidied_known, tidied_refused}
use Rattle.book_core.specs.declared.receipt.Receipt.{Receipt}
use Rattle.book_lock.specs.Shares.{DeskView}
use Rattle.conn_worker.specs.inner.Arriving.{BooksAtDesk, desk_after, desk_nothing, desk_refused}
use Rattle.service_workers.proofs.at_place.AtPlaceBooking.arrive_judged.Goals as goal

-- a message that is booked after nothing was
booked_later : (h : History) (x y z : DeskView) (a b d : ℕ) (r : Result Receipt Unbooked) → BooksAtDesk h x y [] a b
    → IfOk r (λ receipt. BooksAtDesk h y z (receipt ∷ []) b d) → IfOk r (λ receipt. BooksAtDesk h x z (receipt ∷ []) a d)
booked_later h x y z a b d (Ok receipt) none booked = desk_after h x y z [] (receipt ∷ []) a b d none booked
booked_later h x y z a b d (Err refusal) none booked = tt

-- a message that is refused after nothing was booked
refused_later : (h : History) (x y z : DeskView) (a b d : ℕ) (r : Result Receipt Unbooked) → BooksAtDesk h x y [] a b
    → OnErr r (BooksAtDesk h y z [] b d) → OnErr r (BooksAtDesk h x z [] a d)
refused_later h x y z a b d (Ok receipt) none refused = tt
refused_later h x y z a b d (Err refusal) none refused = desk_after h x y z [] [] a b d none refused

pub returns-clause-channel : goal.returns-clause-channel
returns-clause-channel g c =
    let same = subst (λ o. IfSome o (λ anew. anew.channel ≡ c.args.judged.now.channel)) c.in-Some-judged_anew.is c.judged_anew.ensures.channel in
    subst (λ k. IfOk c.arrive.result (λ receipt. receipt.channel ≡ k)) same c.arrive.ensures.channel

pub returns-clause-raw : goal.returns-clause-raw
returns-clause-raw g c =
    let same = subst (λ o. IfSome o (λ anew. anew.raw ≡ c.args.judged.now.raw)) c.in-Some-judged_anew.is c.judged_anew.ensures.raw in
    subst (λ k. IfOk c.arrive.result (λ receipt. receipt.raw ≡ k)) same c.arrive.ensures.raw

pub returns-clause-booked : goal.returns-clause-booked
returns-clause-booked g c =
    let h = g.A.Sharing.opening in
    let desk = c.args.self.now.desk in
    let tidied = c.book_when_free-booked in
    let none = desk_refused h c.args.conn c.args.judged.now desk.now tidied.new.desk desk.ghost_name desk.ghost_name c.in-Some.tidied.receipt c.in-Some.ensures.arrives.at_desk.call c.in-Some.ensures.arrives.at_desk.refused refl in
    booked_later h desk.now tidied.new.desk _ desk.ghost_name desk.ghost_name _ c.arrive.result
    (subst (λ (r : Result Receipt NotBooked). OnErr r (BooksAtDesk h desk.now tidied.new.desk [] desk.ghost_name desk.ghost_name)) (c.is_plan_changed.ensures.0 c.if-is_plan_changed.true) none)
    c.arrive.ensures.booked

pub returns-clause-err : goal.returns-clause-err
returns-clause-err g c =
    let h = g.A.Sharing.opening in
    let desk = c.args.self.now.desk in
    let tidied = c.book_when_free-booked in
    let none = desk_refused h c.args.conn c.args.judged.now desk.now tidied.new.desk desk.ghost_name desk.ghost_name c.in-Some.tidied.receipt c.in-Some.ensures.arrives.at_desk.call c.in-Some.ensures.arrives.at_desk.refused refl in
    refused_later h desk.now tidied.new.desk _ desk.ghost_name desk.ghost_name _ c.arrive.result
    (subst (λ (r : Result Receipt NotBooked). OnErr r (BooksAtDesk h desk.now tidied.new.desk [] desk.ghost_name desk.ghost_name)) (c.is_plan_changed.ensures.0 c.if-is_plan_changed.true) none)
    c.arrive.ensures.err

pub returns-2-clause-booked : goal.returns-2-clause-booked
returns-2-clause-booked g c =
    let h = g.A.Sharing.opening in
    let desk = c.args.self.now.desk in
    let tidied = c.book_when_free-booked in
    subst (λ (r : Result Receipt Unbooked). IfOk r (λ receipt. BooksAtDesk h desk.now tidied.new.desk (receipt ∷ []) desk.ghost_name desk.ghost_name)) (sym c.note_arrival.ensures)
    (tidied_booked h c.args.conn c.args.judged.now desk.now tidied.new.desk desk.ghost_name c.in-Some.tidied c.in-Some.ensures.arrives)

pub returns-2-clause-err : goal.returns-2-clause-err
returns-2-clause-err g c =
    let h = g.A.Sharing.opening in
    let desk = c.args.self.now.desk in
    let tidied = c.book_when_free-booked in
    subst (λ (r : Result Receipt Unbooked). OnErr r (BooksAtDesk h desk.now tidied.new.desk [] desk.ghost_name desk.ghost_name)) (sym c.note_arrival.ensures)
    (tidied_refused h c.args.conn c.args.judged.now desk.now tidied.new.desk desk.ghost_name c.in-Some.tidied c.in-Some.ensures.arrives)

pub returns-in_default-clause-err : goal.returns-in_default-clause-err
returns-in_default-clause-err g c =
    let h = g.A.Sharing.opening in
    let desk = c.args.self.now.desk in
    let tidied = c.book_when_free-booked in
    subst (λ (r : Result Receipt Unbooked). OnErr r (BooksAtDesk h desk.now tidied.new.desk [] desk.ghost_name desk.ghost_name)) (sym c.note_stop.ensures)
    (subst (λ (d : DeskView). BooksAtDesk h desk.now d [] desk.ghost_name desk.ghost_name) (sym (c.in_default.ensures.same refl)) (desk_nothing h desk.now desk.ghost_name))

pub returns-2-clause-conn : goal.returns-2-clause-conn
returns-2-clause-conn g c =
    subst (λ (r : Result Receipt Unbooked). IfOk r (λ receipt. receipt.conn ≡ c.args.conn)) (sym c.note_arrival.ensures)
    (of_receipt (λ receipt. receipt.conn ≡ c.args.conn) c.in-Some.tidied.receipt c.in-Some.tidied.repeats c.in-Some.ensures.arrives.at_desk.conn)

pub returns-2-clause-channel : goal.returns-2-clause-channel
returns-2-clause-channel g c =
    subst (λ (r : Result Receipt Unbooked). IfOk r (λ receipt. receipt.channel ≡ c.args.judged.now.channel)) (sym c.note_arrival.ensures)
    (of_receipt (λ receipt. receipt.channel ≡ c.args.judged.now.channel) c.in-Some.tidied.receipt c.in-Some.tidied.repeats c.in-Some.ensures.arrives.at_desk.channel)

pub returns-2-clause-raw : goal.returns-2-clause-raw
returns-2-clause-raw g c =
    subst (λ (r : Result Receipt Unbooked). IfOk r (λ receipt. receipt.raw ≡ c.args.judged.now.raw)) (sym c.note_arrival.ensures)
    (of_receipt (λ receipt. receipt.raw ≡ c.args.judged.now.raw) c.in-Some.tidied.receipt c.in-Some.tidied.repeats c.in-Some.ensures.arrives.at_desk.raw)

pub returns-2-clause-known : goal.returns-2-clause-known
returns-2-clause-known g c =
    let h = g.A.Sharing.opening in
    let desk = c.args.self.now.desk in
    let tidied = c.book_when_free-booked in
    subst (λ (r : Result Receipt Unbooked). IfErr r (IfRepeat (IsKnownIn h tidied.new.desk.seat.seen c.args.judged.now.channel c.args.judged.now.raw))) (sym c.note_arrival.ensures)
    (tidied_known h c.args.conn c.args.judged.now desk.now tidied.new.desk desk.ghost_name c.in-Some.tidied c.in-Some.ensures.arrives)

pub returns-clause-known : goal.returns-clause-known
returns-clause-known g c =
    let channel = subst (λ o. IfSome o (λ anew. anew.channel ≡ c.args.judged.now.channel)) c.in-Some-judged_anew.is c.judged_anew.ensures.channel in
    let raw = subst (λ o. IfSome o (λ anew. anew.raw ≡ c.args.judged.now.raw)) c.in-Some-judged_anew.is c.judged_anew.ensures.raw in
    rw (← channel, ← raw) c.arrive.ensures.known

pub returns-in_default-clause-known : goal.returns-in_default-clause-known
returns-in_default-clause-known g c =
    subst (λ (r : Result Receipt Unbooked). IfErr r (IfRepeat (IsKnownIn g.A.Sharing.opening c.book_when_free-booked.new.desk.seat.seen c.args.judged.now.channel c.args.judged.now.raw))) (sym c.note_stop.ensures) tt
