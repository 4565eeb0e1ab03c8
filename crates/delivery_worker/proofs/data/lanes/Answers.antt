use Rattle.std.proofs.Common.{nat_eq, arith, w8}
use Rattle.std.proofs.lemmas.Simd.{bitmask_splat, length-chunk}
use Rattle.lane_scan.specs.inner.Scan.{piece}
use Rattle.delivery_worker.proofs.data.lanes.Goals as goal

pub returns : goal.returns
returns c = bitmask_splat w8 nat_eq (piece c.args.at 64 c.args.text.now) 64 c.args.byte (length-chunk c.args.at 64 c.args.text.now c.requires) (omega arith)
