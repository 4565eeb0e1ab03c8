use Rattle.std.proofs.Common.{◌≡◌, ◌≤◌, ◌+◌, ◌-◌, arith, Ok, Err, ◌∙◌, ap, sym, refl, rules, inl}
use Rattle.std.proofs.lemmas.Result.{err_from_is_err_and}
use Rattle.dest_queue.specs.declared.SlotState.TheVariants.{InFlight}
use Rattle.event_log.specs.Answers.{attempts_max, interval, settle_answer}
use Rattle.event_log.specs.History.{plan_in_force}
use Rattle.event_log.specs.Room.{owed, slot_owed}
use Rattle.event_log.proofs.Settling.{settle-keepable}
use Rattle.book_core.proofs.Keeping.{asked-settle, kept-settled, settled-flies, settled-flights, settled-inside, settled-less, settled-owed, settled-reserved, settled-within}
use Rattle.book_core.proofs.Settled.{settled-due}
use Rattle.book_core.proofs.book.Book.settle.Goals as goal

pub returns-in_err-state-clause-does : goal.returns-in_err-state-clause-does
returns-in_err-state-clause-does g c =
    let max : c.attempts_max-max.result ≡ attempts_max (plan_in_force c.self.inside.log.history) c.args.ticket.now.destination = c.attempts_max-max.ensures.value ∙ ap (λ p. attempts_max p c.args.ticket.now.destination) (c.deref.ensures ∙ c.plan.ensures) in
    let wait : c.interval-interval.result ≡ interval (plan_in_force c.self.inside.log.history) c.args.ticket.now.destination = c.interval-interval.ensures.value ∙ ap (λ p. interval p c.args.ticket.now.destination) (c.deref-2.ensures ∙ c.plan-2.ensures) in
    let p = err_from_is_err_and c.from_residual.result c.from_residual.ensures.1 in
    let there : c.from_residual.result ≡ settle_answer c.args.self.now c.args.ticket.now c.args.outcome c.args.now = rw (p.1, p.2) (rw (max, wait, c.secs.ensures.value) at c.in_err-state.ensures.answer ∙ (asked-settle _ _ _ _ _ _ c.self.invariant c.args.ticket.now c.args.outcome c.args.now ∙ ap (λ h. settle_answer h c.args.ticket.now c.args.outcome c.args.now) c.self.view_is)) in
    let said : settle_answer c.args.self.now c.args.ticket.now c.args.outcome c.args.now ≡ Err p.0 = sym there ∙ p.1 in
    rw p.1 (record { possible = tt; replied = tt; booked = tt; refused = inl said; unchanged = search rules })

pub count_settled-requires-clause-place : goal.count_settled-requires-clause-place
count_settled-requires-clause-place g c =
    let max : c.attempts_max-max.result ≡ attempts_max (plan_in_force c.self.inside.log.history) c.args.ticket.now.destination = c.attempts_max-max.ensures.value ∙ ap (λ p. attempts_max p c.args.ticket.now.destination) (c.deref.ensures ∙ c.plan.ensures) in
    let wait : c.interval-interval.result ≡ interval (plan_in_force c.self.inside.log.history) c.args.ticket.now.destination = c.interval-interval.ensures.value ∙ ap (λ p. interval p c.args.ticket.now.destination) (c.deref-2.ensures ∙ c.plan-2.ensures) in
    let asked : settle_answer c.self.inside.log.history c.args.ticket.now c.args.outcome c.args.now ≡ Ok c.in_ok-state.state =
    sym (asked-settle _ _ _ _ _ _ c.self.invariant c.args.ticket.now c.args.outcome c.args.now) ∙ sym (rw (max, wait, c.secs.ensures.value) at c.in_ok-state.ensures.answer) in
    settled-inside _ _ _ _ _ _ c.self.invariant c.args.ticket.now c.args.outcome c.args.now c.in_ok-state.state asked

pub count_settled-requires-clause-inflight : goal.count_settled-requires-clause-inflight
count_settled-requires-clause-inflight g c =
    let max : c.attempts_max-max.result ≡ attempts_max (plan_in_force c.self.inside.log.history) c.args.ticket.now.destination = c.attempts_max-max.ensures.value ∙ ap (λ p. attempts_max p c.args.ticket.now.destination) (c.deref.ensures ∙ c.plan.ensures) in
    let wait : c.interval-interval.result ≡ interval (plan_in_force c.self.inside.log.history) c.args.ticket.now.destination = c.interval-interval.ensures.value ∙ ap (λ p. interval p c.args.ticket.now.destination) (c.deref-2.ensures ∙ c.plan-2.ensures) in
    let asked : settle_answer c.self.inside.log.history c.args.ticket.now c.args.outcome c.args.now ≡ Ok c.in_ok-state.state =
    sym (asked-settle _ _ _ _ _ _ c.self.invariant c.args.ticket.now c.args.outcome c.args.now) ∙ sym (rw (max, wait, c.secs.ensures.value) at c.in_ok-state.ensures.answer) in
    settled-flies _ _ _ _ _ _ c.self.invariant c.args.ticket.now c.args.outcome c.args.now c.in_ok-state.state asked

pub overflow_sub-self : goal.overflow_sub-self
overflow_sub-self g c =
    let max : c.attempts_max-max.result ≡ attempts_max (plan_in_force c.self.inside.log.history) c.args.ticket.now.destination = c.attempts_max-max.ensures.value ∙ ap (λ p. attempts_max p c.args.ticket.now.destination) (c.deref.ensures ∙ c.plan.ensures) in
    let wait : c.interval-interval.result ≡ interval (plan_in_force c.self.inside.log.history) c.args.ticket.now.destination = c.interval-interval.ensures.value ∙ ap (λ p. interval p c.args.ticket.now.destination) (c.deref-2.ensures ∙ c.plan-2.ensures) in
    let asked : settle_answer c.self.inside.log.history c.args.ticket.now c.args.outcome c.args.now ≡ Ok c.in_ok-state.state =
    sym (asked-settle _ _ _ _ _ _ c.self.invariant c.args.ticket.now c.args.outcome c.args.now) ∙ sym (rw (max, wait, c.secs.ensures.value) at c.in_ok-state.ensures.answer) in
    settled-flights _ _ _ _ _ _ c.self.invariant c.args.ticket.now c.args.outcome c.args.now c.in_ok-state.state asked

pub overflow_sub-owed : goal.overflow_sub-owed
overflow_sub-owed g c =
    let max : c.attempts_max-max.result ≡ attempts_max (plan_in_force c.self.inside.log.history) c.args.ticket.now.destination = c.attempts_max-max.ensures.value ∙ ap (λ p. attempts_max p c.args.ticket.now.destination) (c.deref.ensures ∙ c.plan.ensures) in
    let wait : c.interval-interval.result ≡ interval (plan_in_force c.self.inside.log.history) c.args.ticket.now.destination = c.interval-interval.ensures.value ∙ ap (λ p. interval p c.args.ticket.now.destination) (c.deref-2.ensures ∙ c.plan-2.ensures) in
    let asked : settle_answer c.self.inside.log.history c.args.ticket.now c.args.outcome c.args.now ≡ Ok c.in_ok-state.state =
    sym (asked-settle _ _ _ _ _ _ c.self.invariant c.args.ticket.now c.args.outcome c.args.now) ∙ sym (rw (max, wait, c.secs.ensures.value) at c.in_ok-state.ensures.answer) in
    rw (c.owed.ensures.value, c.slot_owed.ensures, c.slot_owed-2.ensures, max) (settled-less _ _ _ _ _ _ c.self.invariant c.args.ticket.now c.args.outcome c.args.now c.in_ok-state.state asked)

pub new-requires : goal.new-requires
new-requires g c =
    let max : c.attempts_max-max.result ≡ attempts_max (plan_in_force c.self.inside.log.history) c.args.ticket.now.destination = c.attempts_max-max.ensures.value ∙ ap (λ p. attempts_max p c.args.ticket.now.destination) (c.deref.ensures ∙ c.plan.ensures) in
    let wait : c.interval-interval.result ≡ interval (plan_in_force c.self.inside.log.history) c.args.ticket.now.destination = c.interval-interval.ensures.value ∙ ap (λ p. interval p c.args.ticket.now.destination) (c.deref-2.ensures ∙ c.plan-2.ensures) in
    let asked : settle_answer c.self.inside.log.history c.args.ticket.now c.args.outcome c.args.now ≡ Ok c.in_ok-state.state =
    sym (asked-settle _ _ _ _ _ _ c.self.invariant c.args.ticket.now c.args.outcome c.args.now) ∙ sym (rw (max, wait, c.secs.ensures.value) at c.in_ok-state.ensures.answer) in
    settle-keepable _ c.args.ticket.now c.args.outcome c.args.now c.in_ok-state.state c.self.invariant.sound asked
    (omega (arith, max, c.attempts_max-max.ensures.bound)) (omega (arith, wait, c.interval-interval.ensures.bound, c.secs.ensures.value, c.secs.ensures.bound))

pub push-requires-clause-reserved : goal.push-requires-clause-reserved
push-requires-clause-reserved g c =
    let max : c.attempts_max-max.result ≡ attempts_max (plan_in_force c.self.inside.log.history) c.args.ticket.now.destination = c.attempts_max-max.ensures.value ∙ ap (λ p. attempts_max p c.args.ticket.now.destination) (c.deref.ensures ∙ c.plan.ensures) in
    let wait : c.interval-interval.result ≡ interval (plan_in_force c.self.inside.log.history) c.args.ticket.now.destination = c.interval-interval.ensures.value ∙ ap (λ p. interval p c.args.ticket.now.destination) (c.deref-2.ensures ∙ c.plan-2.ensures) in
    let asked : settle_answer c.self.inside.log.history c.args.ticket.now c.args.outcome c.args.now ≡ Ok c.in_ok-state.state =
    sym (asked-settle _ _ _ _ _ _ c.self.invariant c.args.ticket.now c.args.outcome c.args.now) ∙ sym (rw (max, wait, c.secs.ensures.value) at c.in_ok-state.ensures.answer) in
    settled-reserved _ _ _ _ _ _ c.self.invariant c.args.ticket.now c.args.outcome c.args.now c.in_ok-state.state asked

pub push-requires-clause-owed : goal.push-requires-clause-owed
push-requires-clause-owed g c =
    let max : c.attempts_max-max.result ≡ attempts_max (plan_in_force c.self.inside.log.history) c.args.ticket.now.destination = c.attempts_max-max.ensures.value ∙ ap (λ p. attempts_max p c.args.ticket.now.destination) (c.deref.ensures ∙ c.plan.ensures) in
    let wait : c.interval-interval.result ≡ interval (plan_in_force c.self.inside.log.history) c.args.ticket.now.destination = c.interval-interval.ensures.value ∙ ap (λ p. interval p c.args.ticket.now.destination) (c.deref-2.ensures ∙ c.plan-2.ensures) in
    let asked : settle_answer c.self.inside.log.history c.args.ticket.now c.args.outcome c.args.now ≡ Ok c.in_ok-state.state =
    sym (asked-settle _ _ _ _ _ _ c.self.invariant c.args.ticket.now c.args.outcome c.args.now) ∙ sym (rw (max, wait, c.secs.ensures.value) at c.in_ok-state.ensures.answer) in
    let now-owed : c.owed.result + c.slot_owed.result - c.slot_owed-2.result ≡ owed c.self.inside.log.history + slot_owed (attempts_max (plan_in_force c.self.inside.log.history) c.args.ticket.now.destination) c.in_ok-state.state - slot_owed (attempts_max (plan_in_force c.self.inside.log.history) c.args.ticket.now.destination) (InFlight c.args.ticket.now.attempt) =
    rw (c.owed.ensures.value, c.slot_owed.ensures, c.slot_owed-2.ensures, max) refl in
    rw c.new.ensures (now-owed ∙ settled-owed _ _ _ _ _ _ c.self.invariant c.args.ticket.now c.args.outcome c.args.now c.in_ok-state.state asked)

pub push-requires-clause-within : goal.push-requires-clause-within
push-requires-clause-within g c =
    let max : c.attempts_max-max.result ≡ attempts_max (plan_in_force c.self.inside.log.history) c.args.ticket.now.destination = c.attempts_max-max.ensures.value ∙ ap (λ p. attempts_max p c.args.ticket.now.destination) (c.deref.ensures ∙ c.plan.ensures) in
    let wait : c.interval-interval.result ≡ interval (plan_in_force c.self.inside.log.history) c.args.ticket.now.destination = c.interval-interval.ensures.value ∙ ap (λ p. interval p c.args.ticket.now.destination) (c.deref-2.ensures ∙ c.plan-2.ensures) in
    let asked : settle_answer c.self.inside.log.history c.args.ticket.now c.args.outcome c.args.now ≡ Ok c.in_ok-state.state =
    sym (asked-settle _ _ _ _ _ _ c.self.invariant c.args.ticket.now c.args.outcome c.args.now) ∙ sym (rw (max, wait, c.secs.ensures.value) at c.in_ok-state.ensures.answer) in
    let now-owed : c.owed.result + c.slot_owed.result - c.slot_owed-2.result ≡ owed c.self.inside.log.history + slot_owed (attempts_max (plan_in_force c.self.inside.log.history) c.args.ticket.now.destination) c.in_ok-state.state - slot_owed (attempts_max (plan_in_force c.self.inside.log.history) c.args.ticket.now.destination) (InFlight c.args.ticket.now.attempt) =
    rw (c.owed.ensures.value, c.slot_owed.ensures, c.slot_owed-2.ensures, max) refl in
    rw (now-owed ∙ settled-owed _ _ _ _ _ _ c.self.invariant c.args.ticket.now c.args.outcome c.args.now c.in_ok-state.state asked) (settled-within _ _ _ _ _ _ c.self.invariant c.args.ticket.now c.args.outcome c.args.now c.in_ok-state.state asked)

pub invariant_of-self-2 : goal.invariant_of-self-2
invariant_of-self-2 g c =
    let max : c.attempts_max-max.result ≡ attempts_max (plan_in_force c.self.inside.log.history) c.args.ticket.now.destination = c.attempts_max-max.ensures.value ∙ ap (λ p. attempts_max p c.args.ticket.now.destination) (c.deref.ensures ∙ c.plan.ensures) in
    let wait : c.interval-interval.result ≡ interval (plan_in_force c.self.inside.log.history) c.args.ticket.now.destination = c.interval-interval.ensures.value ∙ ap (λ p. interval p c.args.ticket.now.destination) (c.deref-2.ensures ∙ c.plan-2.ensures) in
    let asked : settle_answer c.self.inside.log.history c.args.ticket.now c.args.outcome c.args.now ≡ Ok c.in_ok-state.state =
    sym (asked-settle _ _ _ _ _ _ c.self.invariant c.args.ticket.now c.args.outcome c.args.now) ∙ sym (rw (max, wait, c.secs.ensures.value) at c.in_ok-state.ensures.answer) in
    rw (c.push.ensures.history, c.new.ensures, c.in_ok-state.ensures.settled, c.count_settled.ensures) (kept-settled _ _ _ _ _ _ c.self.invariant c.args.ticket.now c.args.outcome c.args.now c.in_ok-state.state asked c.push.new.self.room c.push.ensures.room)

pub returns-clause-does : goal.returns-clause-does
returns-clause-does g c =
    let max : c.attempts_max-max.result ≡ attempts_max (plan_in_force c.self.inside.log.history) c.args.ticket.now.destination = c.attempts_max-max.ensures.value ∙ ap (λ p. attempts_max p c.args.ticket.now.destination) (c.deref.ensures ∙ c.plan.ensures) in
    let wait : c.interval-interval.result ≡ interval (plan_in_force c.self.inside.log.history) c.args.ticket.now.destination = c.interval-interval.ensures.value ∙ ap (λ p. interval p c.args.ticket.now.destination) (c.deref-2.ensures ∙ c.plan-2.ensures) in
    let asked : settle_answer c.self.inside.log.history c.args.ticket.now c.args.outcome c.args.now ≡ Ok c.in_ok-state.state =
    sym (asked-settle _ _ _ _ _ _ c.self.invariant c.args.ticket.now c.args.outcome c.args.now) ∙ sym (rw (max, wait, c.secs.ensures.value) at c.in_ok-state.ensures.answer) in
    record {
      possible = tt;
      replied = ap (λ h. settle_answer h c.args.ticket.now c.args.outcome c.args.now) (sym c.self.view_is) ∙ asked;
      booked = search rules;
      refused = tt;
      unchanged = tt;
    }

pub returns-clause-due : goal.returns-clause-due
returns-clause-due g c = λ attempts due is.
    let within : c.secs.result + c.interval-interval.result ≤ 253370851199 = omega (arith, c.secs.ensures.bound, c.interval-interval.ensures.bound) in
    settled-due _ c.args.outcome c.args.ticket.now.attempt c.secs.result c.attempts_max-max.result c.interval-interval.result _ attempts due within (sym c.in_ok-state.ensures.answer ∙ is)
