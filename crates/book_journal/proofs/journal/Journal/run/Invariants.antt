use Rattle.std.proofs.Common.{◌≡◌}
use Rattle.book_journal.proofs.journal.Journal.run.Given as goal

abbrev pub invariant-steps : goal.invariant-steps
invariant-steps g l = l.self.desk.made ≡ l.fn.self.desk.made
