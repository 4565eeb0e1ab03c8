use Rattle.std.proofs.lemmas.Bool.{eqb-true}
use Rattle.record_list.proofs.LastLinks.{none_above}
use Rattle.record_list.proofs.row_head.none_from.Goals as goal

pub returns : goal.returns
returns c = λ yes e le. none_above c.args.mask c.args.d e (eqb-true _ 0 yes) le
