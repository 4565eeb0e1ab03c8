-- What a table says of the receipts that name an index.
use Rattle.std.specs.Prelude.{◌≡◌, ◌≢◌, ℕ, ◌+◌, ◌<◌, Bool, true, false, if◌then◌else◌, List, [], Option, Some, None, length, slice_index_or}
use Rattle.book_core.specs.declared.receipt.Receipt.{Receipt}
use Rattle.book_lock.specs.declared.windows.ReceiptMatch.{ReceiptMatch}
use Rattle.book_lock.specs.declared.windows.ReceiptMatch.TheVariants.{Never, Right, Wrong, Often}
use Rattle.book_lock.specs.declared.receipt_audit.AuditFault.{AuditFault}
use Rattle.book_lock.specs.declared.receipt_audit.AuditFault.TheVariants.{Missing, Doubled, Differs}
use Rattle.book_lock.specs.Auditing.{naming, receipts_due}
use Rattle.book_lock.specs.Rises.{SharedBook}

-- how the receipts that name an index agree with the one that is due there
abbrev pub IsNamed : SharedBook → List Receipt → ℕ → ReceiptMatch → Type 0
IsNamed h receipts place Never = naming place receipts ≡ []
IsNamed h receipts place Right = (length (naming place receipts) ≡ 1) × (naming place receipts ≡ naming place (receipts_due h))
IsNamed h receipts place Wrong = (length (naming place receipts) ≡ 1) × (naming place receipts ≢ naming place (receipts_due h))
IsNamed h receipts place Often = 1 < length (naming place receipts)

-- a table says it of the indices from one on
abbrev pub Tells : SharedBook → List Receipt → ℕ → List ReceiptMatch → Type 0
Tells h receipts from table = (k : ℕ) → k < length table → IsNamed h receipts (from + k) (slice_index_or table k Never)

-- with one more receipt that names the index, which is due there or not
abbrev pub named_again : ReceiptMatch → Bool → ReceiptMatch
named_again Never true = Right
named_again Never false = Wrong
named_again Right is_due = Often
named_again Wrong is_due = Often
named_again Often is_due = Often

-- what is wrong at an index that is named so, where a receipt is due or not
abbrev pub fault_at : ℕ → ReceiptMatch → Bool → Option AuditFault
fault_at place Never is_due = if is_due then Some (Missing place) else None
fault_at place Right is_due = None
fault_at place Wrong is_due = Some (Differs place)
fault_at place Often is_due = Some (Doubled place)
