use Rattle.std.proofs.Common.{ℕ, ◌-◌, ◌<◌, ◌≤◌}
use Rattle.book_lock.specs.Auditing.{IsRightAt}
use Rattle.book_lock.proofs.windows.check_windows.Given as goal

abbrev pub decreases-loop-from : goal.decreases-loop-from
decreases-loop-from g l = l.end - l.from

abbrev pub invariant-loop-from : goal.invariant-loop-from
invariant-loop-from g l = (l.from ≤ l.end) × ((p : ℕ) → p < l.from → IsRightAt l.closed l.receipts p)
