use Rattle.play_books.proofs.Below.{AreBelow}
use Rattle.play_books.proofs.rows.compare.Given as goal

abbrev pub invariant-loop-next : goal.invariant-loop-next
invariant-loop-next l = AreBelow l.next l.plain.0 × AreBelow l.next l.linked.rows
