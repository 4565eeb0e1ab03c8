use Rattle.std.proofs.Common.{◌≡◌, ◌∙◌, None, Some, sym, subst}
use Rattle.std.specs.Prelude.{IfOk}
use Rattle.std.specs.Result.{result_ok}
use Rattle.hl7_transform.specs.Step.{after_steps}
use Rattle.judge_core.proofs.Judgements.{stepped-goes, stepped-routed, stepped-stopped}
use Rattle.judge_core.proofs.judged.changed.Goals as goal

pub returns-in_default : goal.returns-in_default
returns-in_default c =
    let same : c.in_ok-clone.field-0 ≡ c.args.message.now = c.in_ok-clone.ensures.cases in
    let made : None ≡ result_ok (after_steps c.args.channel.now.steps c.args.message.now) = rw (← c.steps.ensures, ← same) (sym c.in_default.is ∙ c.in_ok-message.ensures) in
    sym (stepped-stopped c.args.channel.now.routes (after_steps c.args.channel.now.steps c.args.message.now) made)

pub sent_by-requires-clause-goes : goal.sent_by-requires-clause-goes
sent_by-requires-clause-goes c =
    let same : c.in_ok-clone.field-0 ≡ c.args.message.now = c.in_ok-clone.ensures.cases in
    let made : Some c.in-Some.message ≡ result_ok (after_steps c.args.channel.now.steps c.args.message.now) = rw (← c.steps.ensures, ← same) (sym c.in-Some.is ∙ c.in_ok-message.ensures) in
    rw c.routes.ensures (stepped-goes c.args.channel.now.routes (after_steps c.args.channel.now.steps c.args.message.now) c.in-Some.message c.requires.goes made)

pub returns : goal.returns
returns c =
    let same : c.in_ok-clone.field-0 ≡ c.args.message.now = c.in_ok-clone.ensures.cases in
    let made : Some c.in-Some.message ≡ result_ok (after_steps c.args.channel.now.steps c.args.message.now) = rw (← c.steps.ensures, ← same) (sym c.in-Some.is ∙ c.in_ok-message.ensures) in
    subst (λ v. IfOk c.sent_by.result (λ verdict. verdict ≡ v))
    (sym (stepped-routed c.args.channel.now.routes (after_steps c.args.channel.now.steps c.args.message.now) c.in-Some.message made)) (rw c.routes.ensures at c.sent_by.ensures)
