use Rattle.std.proofs.Common.{arith}
use Rattle.lane_scan.proofs.Bits.{tail-ahead}
use Rattle.lane_scan.proofs.look.Goals as goal

pub returns-then-text-ge-LANES-clause-ahead : goal.returns-then-text-ge-LANES-clause-ahead
returns-then-text-ge-LANES-clause-ahead c =
    tail-ahead c.args.byte c.args.at c.lanes-then-text-ge-LANES.result c.args.text.now c.requires (omega arith) c.if-text-ge-LANES.true c.lanes-then-text-ge-LANES.ensures
