use Rattle.dest_queue.proofs.SlotLemmas.{map-step, put-here, put-elsewhere}
use Rattle.dest_queue.proofs.slots.put_in.Goals as goal
use Rattle.dest_queue.proofs.slots.put_in.Goals.{then-slot-d, else-slot-d}

pub loop-slot-preserved : goal.loop-slot-preserved
loop-slot-preserved c = elim c.if-slot-d.branch [
  | then-slot-d w ↦ map-step _ c.args.slots.now c.loop-slot.slot-items c.if-slot-d.slot-items c.loop-slot.slot-index _ _ c.loop-slot-test.true c.loop-slot.invariant (put-here c.args.d c.args.state _ w.if-slot-d.true) w.slot-items-is
  | else-slot-d w ↦ map-step _ c.args.slots.now c.loop-slot.slot-items c.if-slot-d.slot-items c.loop-slot.slot-index _ _ c.loop-slot-test.true c.loop-slot.invariant (put-elsewhere c.args.d c.args.state _ w.if-slot-d.false) w.slot-items-is
]
