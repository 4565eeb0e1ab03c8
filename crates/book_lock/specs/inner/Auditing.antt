-- What proofs use beside the page Auditing.
use Rattle.std.specs.Prelude.{ℕ}
use Rattle.book_lock.specs.declared.receipt_audit.AuditFault.{AuditFault}
use Rattle.book_lock.specs.declared.receipt_audit.AuditFault.TheVariants.{Missing, Doubled, Differs}

-- the numbers of the faults
abbrev pub fault_code : AuditFault → ℕ
fault_code (Missing place) = 1
fault_code (Doubled place) = 2
fault_code (Differs place) = 3
