use Rattle.book_core.proofs.Keeping.{kept-opened}
use Rattle.book_core.proofs.book.Book.new.Goals as goal

pub invariant_of-result : goal.invariant_of-result
invariant_of-result g c = rw (c.new.ensures, c.make.ensures, c.new-2.ensures, c.new-3.ensures) (kept-opened _ c.args.events_max c.new.result.room (rw c.deref.ensures at c.rules.ensures) c.requires.few)
