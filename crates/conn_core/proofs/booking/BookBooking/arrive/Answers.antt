use Rattle.std.proofs.Common.{◌≡◌, Result, Ok, Err, IfErr, IfOk, Some, subst}
use Rattle.book_core.specs.declared.receipt.NotBooked.{NotBooked}
use Rattle.book_core.specs.declared.receipt.Receipt.{Receipt}
use Rattle.conn_core.specs.Booking.{OutcomeAtBook}
use Rattle.conn_core.specs.declared.booking.Unbooked.TheVariants.{Refused}
use Rattle.conn_core.proofs.Answering.{answers_told, answers_refused, full_said, told_said}
use Rattle.conn_core.proofs.booking.BookBooking.arrive.Goals as goal

pub returns-in-Ok-clause-told : goal.returns-in-Ok-clause-told
returns-in-Ok-clause-told g c =
    subst (λ (r : Result Receipt NotBooked). IfOk r (λ receipt. OutcomeAtBook c.args.self.now c.args.judged.now (Ok receipt.told))) c.in-Ok.is
    (answers_told _ _ c.arrive.result (told_said c.args.self.now c.arrive.new.self c.args.judged.now c.args.conn c.arrive.result c.arrive.ensures.does) c.arrive.ensures.plan
    (full_said c.args.self.now c.arrive.new.self c.args.judged.now c.args.conn c.arrive.result c.arrive.ensures.does c.arrive.ensures.memory c.arrive.ensures.plan c.arrive.ensures.same_plan))

pub returns-in-Err-clause-refused : goal.returns-in-Err-clause-refused
returns-in-Err-clause-refused g c =
    subst (λ (r : Result Receipt NotBooked). IfErr r (λ refusal. OutcomeAtBook c.args.self.now c.args.judged.now (Err (Refused refusal)))) c.in-Err.is
    (answers_refused _ _ c.arrive.result c.arrive.ensures.plan
    (full_said c.args.self.now c.arrive.new.self c.args.judged.now c.args.conn c.arrive.result c.arrive.ensures.does c.arrive.ensures.memory c.arrive.ensures.plan c.arrive.ensures.same_plan))
