use Rattle.std.proofs.Common.{ap, sym, ◌∙◌, arith}
use Rattle.event_log.specs.History.{entry_at}
use Rattle.book_lock.proofs.Naming.{due_before, due_if, due_none, not_due}
use Rattle.book_lock.proofs.windows.is_due.Goals as goal

pub returns-then-place-first : goal.returns-then-place-first
returns-then-place-first g c =
    let h = c.args.closed.now in
    not_due h c.args.receipt.now (due_before h c.args.receipt.now.entry (omega (arith, c.first.ensures.first, c.if-place-first.true)))

pub returns-in-Some : goal.returns-in-Some
returns-in-Some g c =
    let h = c.args.closed.now in
    let place = c.args.receipt.now.entry in
    due_if h c.args.receipt.now c.in-Some.entry.now c.is_receipt_of.result (omega (arith, c.first.ensures.first, c.first.ensures.within)) (omega (arith, c.first.ensures.first, c.if-place-first.false))
    (sym (c.in-Some.ensures ∙ ap (λ b. entry_at b place) c.book.ensures)) c.is_receipt_of.ensures

pub returns-in-None : goal.returns-in-None
returns-in-None g c =
    let h = c.args.closed.now in
    let place = c.args.receipt.now.entry in
    not_due h c.args.receipt.now (due_none h place (omega (arith, c.first.ensures.first, c.first.ensures.within)) (omega (arith, c.first.ensures.first, c.if-place-first.false)) (sym (c.in-None.ensures ∙ ap (λ b. entry_at b place) c.book.ensures)))
