use Rattle.std.proofs.Common.{ap, refl, sym, subst, ◌∙◌}
use Rattle.clap.specs.Words.{found_of, rows_of}
use Rattle.clap.proofs.WalkLemmas.{first_value-rows}
use Rattle.engine_report.specs.declared.command_line.Request.TheVariants.{Check}
use Rattle.engine_report.specs.Words.{AsksBy}
use Rattle.engine_report.proofs.Asking.{met, word-or-nothing}
use Rattle.engine_report.proofs.command_line.request_of.Goals as goal

pub returns-in-Some-check-default-clause-written : goal.returns-in-Some-check-default-clause-written
returns-in-Some-check-default-clause-written c =
    let arm = c.in-Some-check-default in
    let is = met _ arm.field-0-0.now (rows_of (found_of arm.given.now)) _ arm.ensures.name arm.ensures.rows refl in
    let plan = ap (λ s. s.now) c.unwrap_or.ensures ∙ word-or-nothing c.get_str.result _ _ (c.get_str.ensures ∙ first_value-rows (found_of arm.given.now) _) refl in
    subst (AsksBy (Check c.unwrap_or.result)) (sym is) (arm.is-check, plan)
