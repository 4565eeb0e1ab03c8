use Rattle.std.proofs.Common.{take}
use Rattle.book_recovery.specs.inner.File.{bodies_of}
use Rattle.book_recovery.specs.inner.Redone.{HasRedone}
use Rattle.book_recovery.proofs.run.redo_all.Given as goal

abbrev pub invariant-loop-index : goal.invariant-loop-index
invariant-loop-index g l = HasRedone l.fn.book (take l.index (bodies_of l.rows)) l.book l.seen
