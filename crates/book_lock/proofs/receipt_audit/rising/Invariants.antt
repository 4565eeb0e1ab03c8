use Rattle.std.proofs.Common.{ℕ, ◌+◌, ◌<◌, map, slice_index}
use Rattle.book_lock.proofs.receipt_audit.rising.Given as goal

abbrev pub invariant-loop-i : goal.invariant-loop-i
invariant-loop-i l = (k : ℕ) → k + 1 < l.i → slice_index (map (λ r. r.entry) l.receipts) k < slice_index (map (λ r. r.entry) l.receipts) (k + 1)
