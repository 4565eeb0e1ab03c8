use Rattle.std.proofs.Common.{ℕ, ◌+◌, ◌<◌, ◌≤◌}
use Rattle.book_lock.specs.Auditing.{IsRightAt}
use Rattle.book_lock.proofs.windows.check_window.Given as goal

abbrev pub invariant-loop-k : goal.invariant-loop-k
invariant-loop-k g l = (p : ℕ) → l.from ≤ p → p < l.from + l.k → IsRightAt l.closed l.receipts p
