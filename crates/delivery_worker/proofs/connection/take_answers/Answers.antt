use Rattle.std.proofs.Common.{◌≡◌, ◌∙◌, length, sym, ap}
use Rattle.delivery_worker.specs.Answers.{outcome_of}
use Rattle.delivery_worker.proofs.Reading.{first_decides, one_item, outcome_in}
use Rattle.delivery_worker.proofs.Streams.{reads_one_more}
use Rattle.delivery_worker.proofs.connection.take_answers.Goals as goal

pub returns-in-Some-decision-clause-read : goal.returns-in-Some-decision-clause-read
returns-in-Some-decision-clause-read c =
    reads_one_more _ _ _ _ _ _ _ _ c.answers.invariant c.in-Some.ensures.event c.next.ensures.rest c.in-Ok.ensures c.in-Ok-push.ensures.items

pub returns-in-Some-2-clause-read : goal.returns-in-Some-2-clause-read
returns-in-Some-2-clause-read c =
    reads_one_more _ _ _ _ _ _ _ _ c.answers.invariant c.in-Some.ensures.event c.next.ensures.rest c.in-Ok.ensures c.in-Ok-push.ensures.items

pub returns-in-Some-decision-clause-first : goal.returns-in-Some-decision-clause-first
returns-in-Some-decision-clause-first c = λ decision is.
    let one : length c.push.new.self.items ≡ 1 = sym c.push.new.self.ok.0 ∙ sym c.len.ensures ∙ c.if-len-eq1.true in
    let all = one_item c.answers.answers.items c.push.new.self.items c.in-Ok.answer c.in-Ok-push.ensures.items one in
    sym (ap outcome_in is)
    ∙ first_decides c.args.control_id.now c.in-Ok.answer c.in-Some-decision.decision.outcome c.in-Some-decision.ensures
    ∙ ap (outcome_of c.args.control_id.now) (sym all)

pub answers-preserved : goal.answers-preserved
answers-preserved c =
    reads_one_more _ _ _ _ _ _ _ _ c.answers.invariant c.in-Some.ensures.event c.next.ensures.rest c.in-Ok.ensures c.in-Ok-push.ensures.items
