use Rattle.std.proofs.Common.{arith}
use Rattle.book_lock.proofs.Naming.{audit_ok}
use Rattle.book_lock.proofs.receipt_audit.audit.Goals as goal

pub returns-clause-ok : goal.returns-clause-ok
returns-clause-ok g c =
    audit_ok c.args.closed.now c.args.receipts.now c.first_fault.result (omega (arith, c.first-first.ensures.first, c.first-first.ensures.within)) c.first_fault.ensures.right c.first_fault.ensures.fault
