use Rattle.std.proofs.Common.{nat_eq, take, drop, arith, w8}
use Rattle.std.proofs.lemmas.Simd.{bitmask_splat, length-chunk}
use Rattle.mllp_frame.proofs.search.lanes.Goals as goal

pub returns : goal.returns
returns c = bitmask_splat w8 nat_eq (take 64 (drop c.args.at c.args.piece.now)) 64 c.args.byte (length-chunk c.args.at 64 c.args.piece.now c.requires) (omega arith)
