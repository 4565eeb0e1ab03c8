use Rattle.std.proofs.Common.{◌∙◌, ap}
use Rattle.event_log.specs.History.{slot}
use Rattle.book_core.proofs.Rows.{kept-slot}
use Rattle.book_core.proofs.book.Book.status.Goals as goal

pub returns : goal.returns
returns g c = c.slot_of.ensures ∙ (kept-slot _ _ c.self.invariant.rows_agree c.args.number c.args.d ∙ ap (λ h. slot h c.args.number c.args.d) c.self.view_is)
