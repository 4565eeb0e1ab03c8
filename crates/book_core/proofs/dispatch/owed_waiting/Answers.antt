use Rattle.std.specs.Int.{bit_at}
use Rattle.std.proofs.Common.{ℕ, ◌==◌, arith, sym, ◌∙◌, ap}
use Rattle.dest_queue.specs.Slots.{state_at}
use Rattle.event_log.specs.Room.{slot_owed}
use Rattle.book_core.proofs.Waiting.{all-owed, none-there, none-yet, one-settled, one-waits, owed-small}
use Rattle.book_core.proofs.dispatch.owed_waiting.Goals as goal
use Rattle.book_core.proofs.dispatch.owed_waiting.Goals.{in-Some+then-waits_among, in-Some+else-waits_among, in_default}

pub loop-d-init : goal.loop-d-init
loop-d-init c = none-yet c.args.plan.now c.args.among (λ d. state_at d c.args.slots.now)

pub overflow_add-owed : goal.overflow_add-owed
overflow_add-owed c = omega (arith, owed-small (bit_at c.args.among c.loop-d.d == 1) c.attempts_max.result c.in-Some.state c.attempts_max.ensures.bound (sym c.waits_among.ensures ∙ c.if-waits_among.true))

pub loop-d-preserved : goal.loop-d-preserved
loop-d-preserved c =
    let slots = λ (d : ℕ). state_at d c.args.slots.now in
    elim c.match-state_at.branch [
      | in-Some+then-waits_among w ↦
          one-waits c.args.plan.now c.args.among slots c.loop-d.owed c.loop-d.d c.loop-d.invariant c.match-state_at.owed w.in-Some.state w.slot_owed-owed.result
          (sym c.state_at.ensures ∙ w.in-Some.is) (sym w.waits_among.ensures ∙ w.if-waits_among.true)
          (w.slot_owed-owed.ensures ∙ ap (λ max. slot_owed max w.in-Some.state) w.attempts_max.ensures.value) (omega arith) w.owed-is
      | in-Some+else-waits_among w ↦
          one-settled c.args.plan.now c.args.among slots c.loop-d.owed c.loop-d.d c.loop-d.invariant c.match-state_at.owed w.in-Some.state
          (sym c.state_at.ensures ∙ w.in-Some.is) (sym w.waits_among.ensures ∙ w.if-waits_among.false) w.owed-is
      | in_default w ↦
          none-there c.args.plan.now c.args.among slots c.loop-d.owed c.loop-d.d c.loop-d.invariant c.match-state_at.owed
          (sym c.state_at.ensures ∙ w.in_default.is) w.owed-is
    ]

pub returns : goal.returns
returns c = all-owed c.args.plan.now c.args.among (λ d. state_at d c.args.slots.now) c.loop-d.owed c.loop-d.d c.loop-d.invariant (omega arith)
