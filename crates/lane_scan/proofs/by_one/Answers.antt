use Rattle.std.proofs.Common.{arith, ◌*◌, ◌+◌, ◌<◌, ◌≤◌, ◌^◌}
use Rattle.lane_scan.proofs.Bits.{small-so-far, bit-small}
use Rattle.lane_scan.proofs.by_one.Goals as goal

pub overflow_mul-bits : goal.overflow_mul-bits
overflow_mul-bits c =
    let small = small-so-far c.args.byte c.loop-from.from c.loop-from.bits c.args.text.now c.loop-from.invariant.within (omega arith) c.loop-from.invariant.said in
    record { fits = omega (arith, small) }

pub overflow_add-bits : goal.overflow_add-bits
overflow_add-bits c =
    let small = small-so-far c.args.byte c.loop-from.from c.loop-from.bits c.args.text.now c.loop-from.invariant.within (omega arith) c.loop-from.invariant.said in
    let one : c.from.result ≤ 1 = rw c.from.ensures (bit-small _) in
    record { fits = omega (arith, small, one) }
