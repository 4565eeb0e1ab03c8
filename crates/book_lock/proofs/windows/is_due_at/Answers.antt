use Rattle.std.proofs.Common.{ap, sym, ◌∙◌, arith}
use Rattle.event_log.specs.History.{entry_at}
use Rattle.book_lock.proofs.Naming.{due_before, due_if_arrival, due_none, none_due}
use Rattle.book_lock.proofs.windows.is_due_at.Goals as goal

pub returns-then-place-first : goal.returns-then-place-first
returns-then-place-first g c =
    none_due c.args.closed.now c.args.place (due_before c.args.closed.now c.args.place (omega (arith, c.first.ensures.first, c.if-place-first.true)))

pub returns-in-Some : goal.returns-in-Some
returns-in-Some g c =
    due_if_arrival c.args.closed.now c.args.place c.in-Some.entry.now c.is_arrival.result (omega (arith, c.first.ensures.first, c.first.ensures.within)) (omega (arith, c.first.ensures.first, c.if-place-first.false))
    (sym (c.in-Some.ensures ∙ ap (λ b. entry_at b c.args.place) c.book.ensures)) (c.is_arrival.ensures c.args.place)

pub returns-in-None : goal.returns-in-None
returns-in-None g c =
    none_due c.args.closed.now c.args.place
    (due_none c.args.closed.now c.args.place (omega (arith, c.first.ensures.first, c.first.ensures.within)) (omega (arith, c.first.ensures.first, c.if-place-first.false)) (sym (c.in-None.ensures ∙ ap (λ b. entry_at b c.args.place) c.book.ensures)))
