use Rattle.plan_text.proofs.Rows.{built_in-is}
use Rattle.plan_text.proofs.plan.Plan.built_in.Goals as goal

pub returns-in-Ok : goal.returns-in-Ok
returns-in-Ok c = built_in-is c.as_bytes.result.now c.in-Ok.plan c.as_bytes.ensures.value (c.in-Ok.ensures.text c.as_bytes.ensures.utf8)
