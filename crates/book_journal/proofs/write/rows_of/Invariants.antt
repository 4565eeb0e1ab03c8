use Rattle.std.proofs.Common.{map, take}
use Rattle.book_lock.specs.Journal.{change_copied}
use Rattle.book_journal.specs.inner.Rows.{AreReady}
use Rattle.book_journal.proofs.write.rows_of.Given as goal

abbrev pub invariant-loop-change : goal.invariant-loop-change
invariant-loop-change l = AreReady l.rows.items (map change_copied (take l.change-index l.changes))
