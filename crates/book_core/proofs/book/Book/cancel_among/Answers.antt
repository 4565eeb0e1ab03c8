use Rattle.std.proofs.Common.{◌≡◌, ◌≤◌, true, refl, sym, ◌∙◌, ap, arith, rules}
use Rattle.std.specs.Prelude.{is_ok}
use Rattle.event_log.specs.Answers.{cancel_answer}
use Rattle.event_log.specs.History.{plan_in_force, slot}
use Rattle.book_core.specs.inner.Sending.{owed_waiting}
use Rattle.book_core.proofs.KeepingCancels.{asked-cancel, asked-row, cancelled-less, cancelled-owed, cancelled-waits, cancelled-within, kept-cancelled}
use Rattle.book_core.proofs.book.Book.cancel_among.Goals as goal

pub unreachable-requires : goal.unreachable-requires
unreachable-requires g c =
    let asked : is_ok (cancel_answer c.self.inside.log.history c.args.number c.args.among) ≡ true = ap (λ h. is_ok (cancel_answer h c.args.number c.args.among)) c.self.view_is ∙ c.in_ok-waiting.ensures.waits in
    asked-row _ _ _ _ _ _ c.self.invariant c.args.number c.args.among asked (c.in_default.ensures.missing.0 refl)

pub count_cancelled-requires-clause-waits : goal.count_cancelled-requires-clause-waits
count_cancelled-requires-clause-waits g c =
    let asked : is_ok (cancel_answer c.self.inside.log.history c.args.number c.args.among) ≡ true = ap (λ h. is_ok (cancel_answer h c.args.number c.args.among)) c.self.view_is ∙ c.in_ok-waiting.ensures.waits in
    cancelled-waits _ _ _ _ _ _ c.self.invariant c.args.number c.args.among asked c.in-Some.mask (omega arith) c.in-Some.ensures.mask

pub overflow_sub-owed : goal.overflow_sub-owed
overflow_sub-owed g c =
    let asked : is_ok (cancel_answer c.self.inside.log.history c.args.number c.args.among) ≡ true = ap (λ h. is_ok (cancel_answer h c.args.number c.args.among)) c.self.view_is ∙ c.in_ok-waiting.ensures.waits in
    let owes : c.in_ok-waiting.waiting ≡ owed_waiting (plan_in_force c.self.inside.log.history) c.args.among (slot c.self.inside.log.history c.args.number) = c.in_ok-waiting.ensures.owed ∙ ap (λ h. owed_waiting (plan_in_force h) c.args.among (slot h c.args.number)) (sym c.self.view_is) in
    rw (c.owed.ensures.value, c.reserve.ensures.history) (cancelled-less _ _ _ _ _ _ c.self.invariant c.args.number c.args.among asked c.in-Some.mask (omega arith) c.in-Some.ensures.mask c.in_ok-waiting.waiting owes)

pub push-requires-clause-owed : goal.push-requires-clause-owed
push-requires-clause-owed g c =
    let asked : is_ok (cancel_answer c.self.inside.log.history c.args.number c.args.among) ≡ true = ap (λ h. is_ok (cancel_answer h c.args.number c.args.among)) c.self.view_is ∙ c.in_ok-waiting.ensures.waits in
    let owes : c.in_ok-waiting.waiting ≡ owed_waiting (plan_in_force c.self.inside.log.history) c.args.among (slot c.self.inside.log.history c.args.number) = c.in_ok-waiting.ensures.owed ∙ ap (λ h. owed_waiting (plan_in_force h) c.args.among (slot h c.args.number)) (sym c.self.view_is) in
    rw (c.owed.ensures.value, c.reserve.ensures.history) (cancelled-owed _ _ _ _ _ _ c.self.invariant c.args.number c.args.among asked c.in-Some.mask (omega arith) c.in-Some.ensures.mask c.in_ok-waiting.waiting owes)

pub push-requires-clause-within : goal.push-requires-clause-within
push-requires-clause-within g c =
    let asked : is_ok (cancel_answer c.self.inside.log.history c.args.number c.args.among) ≡ true = ap (λ h. is_ok (cancel_answer h c.args.number c.args.among)) c.self.view_is ∙ c.in_ok-waiting.ensures.waits in
    let owes : c.in_ok-waiting.waiting ≡ owed_waiting (plan_in_force c.self.inside.log.history) c.args.among (slot c.self.inside.log.history c.args.number) = c.in_ok-waiting.ensures.owed ∙ ap (λ h. owed_waiting (plan_in_force h) c.args.among (slot h c.args.number)) (sym c.self.view_is) in
    rw (c.owed.ensures.value, c.reserve.ensures.history) (cancelled-within _ _ _ _ _ _ c.self.invariant c.args.number c.args.among asked c.in-Some.mask (omega arith) c.in-Some.ensures.mask c.in_ok-waiting.waiting owes)

pub invariant_of-self-2 : goal.invariant_of-self-2
invariant_of-self-2 g c =
    let asked : is_ok (cancel_answer c.self.inside.log.history c.args.number c.args.among) ≡ true = ap (λ h. is_ok (cancel_answer h c.args.number c.args.among)) c.self.view_is ∙ c.in_ok-waiting.ensures.waits in
    let left : c.self.inside.flights ≤ c.push.new.self.room = omega (arith, c.in_ok-reserve.ensures.ok, c.push.ensures.room) in
    rw (c.push.ensures.history, c.reserve.ensures.history, c.cancel_among.ensures.cancelled) (kept-cancelled _ _ _ _ _ _ c.self.invariant c.args.number c.args.among asked c.in-Some.mask (omega arith) c.in-Some.ensures.mask c.count_cancelled.new.counts c.push.new.self.room c.count_cancelled.ensures left)

pub returns-clause-does : goal.returns-clause-does
returns-clause-does g c =
    let asked : is_ok (cancel_answer c.self.inside.log.history c.args.number c.args.among) ≡ true = ap (λ h. is_ok (cancel_answer h c.args.number c.args.among)) c.self.view_is ∙ c.in_ok-waiting.ensures.waits in
    record { possible = tt; replied = ap (λ h. cancel_answer h c.args.number c.args.among) (sym c.self.view_is) ∙ asked-cancel _ _ _ _ _ _ c.self.invariant c.args.number c.args.among asked c.in-Some.mask (omega arith) c.in-Some.ensures.mask; booked = search rules; refused = tt; unchanged = tt }
