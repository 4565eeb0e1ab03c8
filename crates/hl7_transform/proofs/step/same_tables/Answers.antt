use Rattle.hl7_transform.proofs.Tables.{tables_alike}
use Rattle.hl7_transform.proofs.step.same_tables.Goals as goal

pub returns : goal.returns
returns c = tables_alike c.args.table.now c.args.other.now c.eq.result c.eq.ensures
