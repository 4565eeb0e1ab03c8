use Rattle.std.proofs.Common.{sym, ◌∙◌, ap}
use Rattle.std.specs.Prelude.{is_ok, option_copied}
use Rattle.event_log.specs.Answers.{cancel_answer}
use Rattle.event_log.specs.History.{plan_in_force, slot}
use Rattle.book_core.specs.inner.Sending.{owed_waiting}
use Rattle.book_core.proofs.KeepingCancels.{asked-none, asked-nothing, asked-owed, asked-some}
use Rattle.book_core.proofs.book.Book.waiting_owed.Goals as goal

pub returns-in_default-clause-refused : goal.returns-in_default-clause-refused
returns-in_default-clause-refused g c =
    ap (λ h. cancel_answer h c.args.number c.args.among) (sym c.self.view_is) ∙ asked-none _ _ _ _ _ _ c.self.invariant c.args.number c.args.among (sym c.get.ensures ∙ ap option_copied c.in_default.is)

pub returns-then-owed-eq0-clause-refused : goal.returns-then-owed-eq0-clause-refused
returns-then-owed-eq0-clause-refused g c =
    let found = sym c.get.ensures ∙ ap option_copied c.in-Some.is in
    ap (λ h. cancel_answer h c.args.number c.args.among) (sym c.self.view_is)
    ∙ asked-nothing _ _ _ _ _ _ c.self.invariant c.args.number c.args.among c.in-Some.message.now found _ _ (c.deref.ensures ∙ c.plan.ensures) c.owed_waiting-owed.ensures c.if-owed-eq0.true

pub returns-clause-owed : goal.returns-clause-owed
returns-clause-owed g c =
    let found = sym c.get.ensures ∙ ap option_copied c.in-Some.is in
    asked-owed _ _ _ _ _ _ c.self.invariant c.args.number c.args.among c.in-Some.message.now found _ _ (c.deref.ensures ∙ c.plan.ensures) c.owed_waiting-owed.ensures
    ∙ ap (λ h. owed_waiting (plan_in_force h) c.args.among (slot h c.args.number)) c.self.view_is

pub returns-clause-waits : goal.returns-clause-waits
returns-clause-waits g c =
    let found = sym c.get.ensures ∙ ap option_copied c.in-Some.is in
    ap (λ h. is_ok (cancel_answer h c.args.number c.args.among)) (sym c.self.view_is)
    ∙ asked-some _ _ _ _ _ _ c.self.invariant c.args.number c.args.among c.in-Some.message.now found _ _ (c.deref.ensures ∙ c.plan.ensures) c.owed_waiting-owed.ensures c.if-owed-eq0.false
