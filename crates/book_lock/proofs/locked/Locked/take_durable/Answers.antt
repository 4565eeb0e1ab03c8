use Rattle.std.proofs.Common.{◌≡◌, Ok, ap, subst}
use Rattle.event_log.specs.Answers.{take_answer}
use Rattle.event_log.specs.History.{History}
use Rattle.book_lock.specs.Rises.{SharedBook}
use Rattle.book_lock.proofs.Durability.{durable_taken}
use Rattle.book_lock.proofs.locked.Locked.take_durable.Goals as goal

pub returns-in-Ok-clause-durable : goal.returns-in-Ok-clause-durable
returns-in-Ok-clause-durable g c =
    let taken = rw c.in-Ok.is at c.take.ensures in
    let job = c.in-Ok.job in
    let same : c.is_front_durable.new.self.book ≡ c.args.self.now.book = ap (λ (h : SharedBook). h.book) c.is_front_durable.ensures.same in
    durable_taken g.A.Sharing.opening c.args.self.now.book c.args.d c.args.now c.is_front_durable.new.station.seat c.take.new.station.seat job (c.is_front_durable.ensures.durable c.if-not-is_front_durable.false)
    (subst (λ (h : History). take_answer h c.args.d c.args.now ≡ Ok job.ticket) same taken.does.replied) taken.call
