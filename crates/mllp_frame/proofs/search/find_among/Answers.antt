use Rattle.std.proofs.Common.{arith}
use Rattle.mllp_frame.specs.Framing.{start_block, end_block}
use Rattle.mllp_frame.proofs.Lanes.{first_of_two, neither}
use Rattle.mllp_frame.proofs.search.find_among.Goals as goal

pub returns-then-before-lt-LANES : goal.returns-then-before-lt-LANES
returns-then-before-lt-LANES c =
    rw c.min-before.ensures
    (first_of_two start_block end_block c.args.piece.now c.args.at c.before_byte.result c.before_byte-2.result c.before_byte.ensures.none c.before_byte-2.ensures.none
    (omega arith) c.before_byte.ensures.here c.before_byte-2.ensures.here)

pub returns-else-before-lt-LANES : goal.returns-else-before-lt-LANES
returns-else-before-lt-LANES c =
    neither start_block end_block c.args.piece.now c.args.at c.before_byte.result c.before_byte-2.result c.before_byte.ensures.none c.before_byte-2.ensures.none
    64 (omega arith) (omega arith)
