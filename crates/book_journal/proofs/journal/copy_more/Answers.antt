use Rattle.book_journal.proofs.Steps.{nothing_copied}
use Rattle.book_journal.proofs.journal.copy_more.Goals as goal

pub returns-then-not-is_empty-clause-copied : goal.returns-then-not-is_empty-clause-copied
returns-then-not-is_empty-clause-copied g c = nothing_copied g.A.Sharing.opening c.args.reader.now.seat c.args.unwritten.now.items
