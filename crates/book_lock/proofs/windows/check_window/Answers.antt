use Rattle.std.proofs.Common.{◌+◌, sym, ap, ◌∙◌, arith}
use Rattle.book_lock.specs.inner.Windows.{fault_at}
use Rattle.book_lock.proofs.Telling.{fault_open, right_more, right_open}
use Rattle.book_lock.proofs.windows.check_window.Goals as goal

pub loop-k-preserved : goal.loop-k-preserved
loop-k-preserved g c =
    let k = c.loop-k.k in
    right_more c.args.closed.now c.args.receipts.now c.args.from k c.loop-k.invariant
    (right_open c.args.closed.now c.args.receipts.now (c.args.from + k) _ c.is_due_at.result
    (ap (λ n. fault_at (c.args.from + k) n c.is_due_at.result) (sym c.named_at-named.ensures) ∙ (sym c.fault_at.ensures ∙ c.in_default.is))
    (c.tell.ensures.told k (omega (arith, c.loop-k-test.true))) c.is_due_at.ensures)

pub returns-in-Some-clause-fault : goal.returns-in-Some-clause-fault
returns-in-Some-clause-fault g c =
    (fault_open c.args.closed.now c.args.receipts.now (c.args.from + c.loop-k.k) _ c.is_due_at.result c.in-Some.fault
    (ap (λ n. fault_at (c.args.from + c.loop-k.k) n c.is_due_at.result) (sym c.named_at-named.ensures) ∙ (sym c.fault_at.ensures ∙ c.in-Some.is))
    (c.tell.ensures.told c.loop-k.k (omega (arith, c.loop-k-test.true))) c.is_due_at.ensures).0
