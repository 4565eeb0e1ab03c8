use Rattle.play_books.proofs.Below.{AreBelow}
use Rattle.play_books.proofs.rows.play_all.Given as goal

abbrev pub invariant-loop-line : goal.invariant-loop-line
invariant-loop-line l = AreBelow l.next l.plain.0 × AreBelow l.next l.linked.rows
