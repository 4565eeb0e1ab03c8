use Rattle.std.proofs.Common.{◌≡◌, None, sym, ◌∙◌, ap, rules}
use Rattle.std.specs.Prelude.{option_copied}
use Rattle.std.specs.Option.{option_map}
use Rattle.event_log.specs.History.{control_id, message_at}
use Rattle.book_core.specs.inner.Questions.{came_as}
use Rattle.book_core.proofs.Asked.{came-none, came-row}
use Rattle.book_core.proofs.KeepingTakes.{kept-letter}
use Rattle.book_core.proofs.book.Book.message.Goals as goal

pub returns-in_err-message-clause-came : goal.returns-in_err-message-clause-came
returns-in_err-message-clause-came g c =
    let none : c.from_residual.result ≡ None = search rules in
    ap (λ o. option_map came_as (option_copied o)) none
    ∙ (came-none _ _ c.self.invariant.rows_agree c.args.number (sym c.get.ensures ∙ ap option_copied c.in_err-message.was)
    ∙ ap (λ h. message_at h c.args.number) c.self.view_is)

pub returns-clause-came : goal.returns-clause-came
returns-clause-came g c =
    came-row _ _ c.self.invariant.rows_agree c.args.number c.in_ok-message.message.now (sym c.get.ensures ∙ ap option_copied c.in_ok-message.was)
    ∙ ap (λ h. message_at h c.args.number) c.self.view_is

pub returns-clause-control_id : goal.returns-clause-control_id
returns-clause-control_id g c =
    (kept-letter _ _ _ _ _ _ c.self.invariant c.args.number c.in_ok-message.message.now (sym c.get.ensures ∙ ap option_copied c.in_ok-message.was)).0
    ∙ ap (λ h. control_id h c.args.number) c.self.view_is
