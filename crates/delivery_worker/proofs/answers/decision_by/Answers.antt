use Rattle.std.proofs.Common.{Some, None, ◌∙◌}
use Rattle.delivery_worker.proofs.Reading.{decided_by}
use Rattle.delivery_worker.proofs.answers.decision_by.Goals as goal

pub returns-in-Some : goal.returns-in-Some
returns-in-Some c =
    c.by_code.ensures ∙ decided_by c.args.control_id.now c.args.answers.now c.min.result (Some c.in-Some.code.now) c.min.ensures c.in-Some.ensures

pub returns-in-None : goal.returns-in-None
returns-in-None c = decided_by c.args.control_id.now c.args.answers.now c.min.result None c.min.ensures c.in-None.ensures
