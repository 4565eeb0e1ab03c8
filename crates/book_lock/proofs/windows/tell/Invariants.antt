use Rattle.std.proofs.Common.{take}
use Rattle.book_lock.specs.inner.Windows.{Tells}
use Rattle.book_lock.proofs.windows.tell.Given as goal

abbrev pub invariant-loop-receipt : goal.invariant-loop-receipt
invariant-loop-receipt g l = Tells l.closed (take l.receipt-index l.receipts) l.from l.table
