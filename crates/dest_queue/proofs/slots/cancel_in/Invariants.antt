use Rattle.std.proofs.Common.{◌≡◌, ◌==◌, ◌&&◌, ℕ, ◌++◌, take, drop}
use Rattle.std.specs.Int.{bit_at}
use Rattle.dest_queue.specs.inner.Slots.{waits_at, has_bit, cancelled}
use Rattle.dest_queue.proofs.slots.cancel_in.Given as goal

abbrev pub invariant-loop-slot : goal.invariant-loop-slot
invariant-loop-slot l = record {
  slots : l.slot-items ≡ cancelled (has_bit l.among) (take l.slot-index l.initial.slot-items) ++ drop l.slot-index l.initial.slot-items;
  mask : (d : ℕ) → (bit_at l.mask d == 1) ≡ (has_bit l.among d && waits_at d (take l.slot-index l.initial.slot-items));
}
