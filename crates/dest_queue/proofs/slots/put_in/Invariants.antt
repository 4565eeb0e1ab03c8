use Rattle.std.proofs.Common.{◌≡◌, ◌++◌, take, drop}
use Rattle.dest_queue.specs.inner.Slots.{with_state}
use Rattle.dest_queue.proofs.slots.put_in.Given as goal

abbrev pub invariant-loop-slot : goal.invariant-loop-slot
invariant-loop-slot l = l.slot-items ≡ with_state l.d l.state (take l.slot-index l.initial.slot-items) ++ drop l.slot-index l.initial.slot-items
