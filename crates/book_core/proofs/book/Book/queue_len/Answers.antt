use Rattle.std.proofs.Common.{◌+◌, ◌∙◌, ap, arith, sym, length}
use Rattle.event_log.specs.History.{queue}
use Rattle.event_log.proofs.Reading.{queue-outside}
use Rattle.book_core.proofs.Slots.{queue-counted}
use Rattle.book_core.proofs.KeepingArrivals.{few-slots}
use Rattle.stat_count.specs.declared.DestinationCounts.{DestinationCounts}
use Rattle.book_core.proofs.book.Book.queue_len.Goals as goal

pub returns-then-d-ge-QUEUES : goal.returns-then-d-ge-QUEUES
returns-then-d-ge-QUEUES g c = sym (ap length (queue-outside _ c.self.invariant.sound c.args.d (omega arith))) ∙ ap (λ h. length (queue h c.args.d)) c.self.view_is

pub overflow_add-result : goal.overflow_add-result
overflow_add-result g c =
    let few = few-slots _ _ _ _ _ _ c.self.invariant c.args.d c.if-d-ge-QUEUES.false in
    rw c.destination-here.ensures.value (omega (arith, few))

pub returns : goal.returns
returns g c =
    let here = c.destination-here.ensures.value ∙ c.self.invariant.are_counted.destination c.args.d c.if-d-ge-QUEUES.false in
    ap (λ (x : DestinationCounts). x.waiting + x.inflight) here ∙ (sym (queue-counted c.self.inside.log.history c.args.d) ∙ ap (λ h. length (queue h c.args.d)) c.self.view_is)
