use Rattle.std.proofs.Common.{sym, ap, ◌∙◌}
use Rattle.book_recovery.specs.Interrupting.{failed_in}
use Rattle.book_recovery.proofs.flights.failed_in.Goals as goal

pub returns-in-Settle : goal.returns-in-Settle
returns-in-Settle g c = c.failed_at.ensures ∙ ap (failed_in c.args.book.now) (sym c.in-Settle.is)
