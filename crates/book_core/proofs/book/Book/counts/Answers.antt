use Rattle.std.proofs.Common.{◌∙◌, ap}
use Rattle.event_log.specs.Counting.{counted}
use Rattle.book_core.proofs.Counted.{counted-is}
use Rattle.book_core.proofs.book.Book.counts.Goals as goal

pub returns : goal.returns
returns g c = counted-is _ _ c.self.invariant.are_counted ∙ ap counted c.self.view_is
