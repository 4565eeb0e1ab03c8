use Rattle.std.proofs.Common.{◌≤◌}
use Rattle.book_lock.proofs.Copying.{IsCopiedUpTo}
use Rattle.book_lock.proofs.copied.copies_since.Given as goal

abbrev pub invariant-loop-place : goal.invariant-loop-place
invariant-loop-place g l = record {
  copied : IsCopiedUpTo l.book l.from l.place l.copies.items;
  past : l.from ≤ l.place;
}
