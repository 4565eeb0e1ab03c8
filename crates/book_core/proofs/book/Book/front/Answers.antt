use Rattle.std.proofs.Common.{◌≡◌, None, sym, ◌∙◌, ap, rules}
use Rattle.book_core.specs.inner.Questions.{front_at}
use Rattle.book_core.proofs.Asked.{front-none, front-past, front-some}
use Rattle.book_core.proofs.book.Book.front.Goals as goal

pub returns-then-d-ge-QUEUES-clause-front : goal.returns-then-d-ge-QUEUES-clause-front
returns-then-d-ge-QUEUES-clause-front g c =
    sym (front-past _ c.self.invariant.sound c.args.d c.if-d-ge-QUEUES.true) ∙ ap (λ h. front_at h c.args.d) c.self.view_is

pub returns-in_err-number-clause-front : goal.returns-in_err-number-clause-front
returns-in_err-number-clause-front g c =
    let none : c.from_residual.result ≡ None = search rules in
    none ∙ (sym (front-none _ _ c.self.invariant.rows_agree c.args.d c.if-d-ge-QUEUES.false (sym c.front_state-front.ensures.front ∙ c.in_err-number.was))
    ∙ ap (λ h. front_at h c.args.d) c.self.view_is)

pub returns-clause-front : goal.returns-clause-front
returns-clause-front g c =
    sym (front-some _ _ c.self.invariant.rows_agree c.args.d c.if-d-ge-QUEUES.false c.in_ok-number.number c.in_ok-number.state (sym c.front_state-front.ensures.front ∙ c.in_ok-number.was))
    ∙ ap (λ h. front_at h c.args.d) c.self.view_is
