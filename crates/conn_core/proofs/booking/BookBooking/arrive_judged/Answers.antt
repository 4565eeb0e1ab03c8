use Rattle.std.proofs.Common.{◌≡◌, Result, Ok, Err, IfErr, IfOk, Some, subst}
use Rattle.book_core.specs.declared.receipt.NotBooked.{NotBooked}
use Rattle.book_core.specs.declared.receipt.Receipt.{Receipt}
use Rattle.conn_core.specs.Booking.{OutcomeAtBook}
use Rattle.conn_core.specs.declared.booking.Unbooked.TheVariants.{Refused}
use Rattle.conn_core.proofs.Answering.{answers_told, answers_refused, full_said, never_changed, told_said}
use Rattle.conn_core.proofs.booking.BookBooking.arrive_judged.Goals as goal

pub returns-in-Ok-clause-told : goal.returns-in-Ok-clause-told
returns-in-Ok-clause-told g c =
    let plan = never_changed c.args.self.now c.args.judged.now c.book_arrival.result c.book_arrival.ensures.plan c.requires.by_plan in
    subst (λ (r : Result Receipt NotBooked). IfOk r (λ receipt. OutcomeAtBook c.args.self.now c.args.judged.now (Ok receipt.told))) c.in-Ok.is
    (answers_told _ _ c.book_arrival.result (told_said c.args.self.now c.book_arrival.new.self c.args.judged.now c.args.conn c.book_arrival.result c.book_arrival.ensures.does) plan
    (full_said c.args.self.now c.book_arrival.new.self c.args.judged.now c.args.conn c.book_arrival.result c.book_arrival.ensures.does c.book_arrival.ensures.memory plan (λ e. c.requires.by_plan)))

pub returns-in-Err-clause-refused : goal.returns-in-Err-clause-refused
returns-in-Err-clause-refused g c =
    let plan = never_changed c.args.self.now c.args.judged.now c.book_arrival.result c.book_arrival.ensures.plan c.requires.by_plan in
    subst (λ (r : Result Receipt NotBooked). IfErr r (λ refusal. OutcomeAtBook c.args.self.now c.args.judged.now (Err (Refused refusal)))) c.in-Err.is
    (answers_refused _ _ c.book_arrival.result plan
    (full_said c.args.self.now c.book_arrival.new.self c.args.judged.now c.args.conn c.book_arrival.result c.book_arrival.ensures.does c.book_arrival.ensures.memory plan (λ e. c.requires.by_plan)))
