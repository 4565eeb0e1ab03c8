use Rattle.hl7_transform.proofs.Tables.{defaults_alike}
use Rattle.hl7_transform.proofs.step.same_defaults.Goals as goal

pub returns : goal.returns
returns c = rw c.eq.ensures (defaults_alike c.args.default.now c.args.other.now)
