use Rattle.lane_scan.proofs.Bits.{ahead-nothing}
use Rattle.lane_scan.proofs.Ahead.from.Goals as goal

pub returns-clause-ahead : goal.returns-clause-ahead
returns-clause-ahead c = λ byte text le. ahead-nothing byte c.args.place text le
