use Rattle.std.proofs.Common.{Some, None, ◌∙◌, ap}
use Rattle.delivery_worker.specs.Answers.{code_outcome}
use Rattle.delivery_worker.proofs.Reading.{decided}
use Rattle.delivery_worker.proofs.answers.outcome_of.Goals as goal

pub returns-in-Some : goal.returns-in-Some
returns-in-Some c =
    c.code_outcome.ensures ∙ ap code_outcome c.deref.ensures.value ∙ ap (λ msa. code_outcome msa.code) c.msa.view_is
    ∙ decided c.args.control_id.now c.args.answers.now c.min.result (Some c.in-Some.msa.now) c.min.ensures c.in-Some.ensures

pub returns-in-None : goal.returns-in-None
returns-in-None c = decided c.args.control_id.now c.args.answers.now c.min.result None c.min.ensures c.in-None.ensures
