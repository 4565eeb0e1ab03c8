use Rattle.std.proofs.Common.{◌<◌, ◌++◌, ◌∷◌, [], length, arith, sym, ap, ◌∙◌}
use Rattle.dest_queue.specs.inner.Slots.{new_slot}
use Rattle.book_core.proofs.Naming.{slots-more}
use Rattle.book_core.proofs.arrival.first_slots.Goals as goal

pub loop-delivery-preserved : goal.loop-delivery-preserved
loop-delivery-preserved c =
    let inside : c.loop-delivery.delivery-index < length c.args.deliveries.now = omega arith in
    c.in_ok-add.ensures.ok
    ∙ (ap (λ slots. slots ++ new_slot c.delivery-item.result.destination ∷ []) c.loop-delivery.invariant
    ∙ sym (slots-more c.args.deliveries.now c.loop-delivery.delivery-index c.delivery-item.result inside c.delivery-item.is))
