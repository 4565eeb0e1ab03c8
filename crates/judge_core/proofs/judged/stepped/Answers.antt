use Rattle.std.proofs.Common.{◌≡◌, Some, length, sym, subst, arith}
use Rattle.std.proofs.lemmas.Bool.Decides.{nat_tests}
use Rattle.std.specs.Prelude.{IfOk}
use Rattle.std.specs.Result.{result_ok}
use Rattle.hl7_transform.specs.Step.{after_steps}
use Rattle.judge_core.proofs.Judgements.{stepped-as-is, stepped-routed}
use Rattle.judge_core.proofs.judged.stepped.Goals as goal

pub returns : goal.returns
returns c =
    let none : length c.steps.result.now ≡ 0 = grind (arith, nat_tests, c.is_empty.ensures, c.if-not-is_empty.false) in
    let made : Some c.args.message.now ≡ result_ok (after_steps c.args.channel.now.steps c.args.message.now) =
    rw (← c.steps.ensures) (stepped-as-is c.steps.result.now c.args.message.now none) in
    subst (λ v. IfOk c.sent_by.result (λ verdict. verdict ≡ v))
    (sym (stepped-routed c.args.channel.now.routes (after_steps c.args.channel.now.steps c.args.message.now) c.args.message.now made)) (rw c.routes.ensures at c.sent_by.ensures)
