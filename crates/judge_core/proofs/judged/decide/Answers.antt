use Rattle.std.proofs.Common.{◌≡◌, ◌∙◌, false, true, None, sym, subst}
use Rattle.std.specs.Prelude.{IfOk}
use Rattle.judge_core.specs.Judging.{header_fault, is_acknowledgment, passes}
use Rattle.judge_core.proofs.Judgements.{verdict-stepped}
use Rattle.judge_core.proofs.judged.decide.Goals as goal

pub returns : goal.returns
returns c =
    let new : is_acknowledgment c.args.header.now ≡ false = rw (← c.message_code.ensures, ← c.as_slice.ensures) (sym c.eq.ensures ∙ c.if-eq.false) in
    let good : header_fault c.args.channel.now c.args.header.now ≡ None = sym c.header_fault.ensures ∙ c.in_default.is in
    let lets : passes c.args.message.now c.args.channel.now.filter ≡ true = rw (← c.filter.ensures) (sym c.in_ok-passes.ensures ∙ c.if-not-branch.false) in
    subst (λ v. IfOk c.stepped.result (λ verdict. verdict ≡ v)) (sym (verdict-stepped c.args.channel.now c.args.header.now c.args.message.now new good lets)) c.stepped.ensures
