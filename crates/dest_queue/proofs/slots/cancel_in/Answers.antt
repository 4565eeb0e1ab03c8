use Rattle.std.proofs.Common.{sym, ◌∙◌}
use Rattle.dest_queue.specs.declared.slots.Slot.{Slot}
use Rattle.dest_queue.specs.declared.SlotState.TheVariants.{Waiting}
use Rattle.dest_queue.specs.inner.Slots.{has_bit}
use Rattle.dest_queue.proofs.SlotLemmas.{map-step, rest-at, mask-more, mask-same, cancel-waiting, cancel-other}
use Rattle.dest_queue.proofs.slots.cancel_in.Goals as goal
use Rattle.dest_queue.proofs.slots.cancel_in.Goals.{then-waits_among, else-waits_among}

abbrev default : Slot
default = record { destination = 0; state = Waiting 0 0 }

pub overflow_shl-mask : goal.overflow_shl-mask
overflow_shl-mask c =
    let here = rest-at _ c.args.slots.now c.loop-slot.slot-items c.loop-slot.slot-index default c.loop-slot-test.true c.loop-slot.invariant.slots in
    let low = c.requires c.loop-slot.slot-index default c.loop-slot-test.true in
    rw here low

pub waits_among-requires : goal.waits_among-requires
waits_among-requires c =
    let here = rest-at _ c.args.slots.now c.loop-slot.slot-items c.loop-slot.slot-index default c.loop-slot-test.true c.loop-slot.invariant.slots in
    let low = c.requires c.loop-slot.slot-index default c.loop-slot-test.true in
    rw here low

pub loop-slot-preserved : goal.loop-slot-preserved
loop-slot-preserved c =
    let here = rest-at _ c.args.slots.now c.loop-slot.slot-items c.loop-slot.slot-index default c.loop-slot-test.true c.loop-slot.invariant.slots in
    let low = c.requires c.loop-slot.slot-index default c.loop-slot-test.true in
    elim c.if-waits_among.branch [
      | then-waits_among w ↦ record {
        slots = map-step _ c.args.slots.now c.loop-slot.slot-items c.if-waits_among.slot-items c.loop-slot.slot-index _ _ c.loop-slot-test.true c.loop-slot.invariant.slots (cancel-waiting (has_bit c.args.among) _ (sym c.waits_among.ensures ∙ w.if-waits_among.true)) w.slot-items-is;
        mask = λ d. rw w.mask-is (mask-more (has_bit c.args.among) c.loop-slot.mask c.args.slots.now c.loop-slot.slot-index default _ c.loop-slot-test.true here (rw here low) (sym c.waits_among.ensures ∙ w.if-waits_among.true) c.loop-slot.invariant.mask d);
      }
      | else-waits_among w ↦ record {
        slots = map-step _ c.args.slots.now c.loop-slot.slot-items c.if-waits_among.slot-items c.loop-slot.slot-index _ _ c.loop-slot-test.true c.loop-slot.invariant.slots (cancel-other (has_bit c.args.among) _ (sym c.waits_among.ensures ∙ w.if-waits_among.false)) w.slot-items-is;
        mask = λ d. rw w.mask-is (mask-same (has_bit c.args.among) c.loop-slot.mask c.args.slots.now c.loop-slot.slot-index default _ c.loop-slot-test.true here (sym c.waits_among.ensures ∙ w.if-waits_among.false) c.loop-slot.invariant.mask d);
      }
    ]
