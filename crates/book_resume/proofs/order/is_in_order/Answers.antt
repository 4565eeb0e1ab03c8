use Rattle.std.proofs.Common.{◌≡◌, List, map, sym, ◌∙◌, ap, subst, arith}
use Rattle.std.specs.List.{list_all}
use Rattle.mllp_frame.specs.Framing.{IsBlockData}
use Rattle.judge_core.specs.declared.delivery.Delivery.{Delivery}
use Rattle.judge_core.specs.Delivering.{destinations_of}
use Rattle.judge_core.specs.inner.Delivering.{AreDeliveries}
use Rattle.dest_queue.specs.declared.slots.Slot.{Slot}
use Rattle.event_log.specs.declared.entry.Told.{Told}
use Rattle.book_resume.specs.inner.Order.{IsAnswered, slot_rests}
use Rattle.book_resume.proofs.InOrder.{in-order, order-rests}
use Rattle.book_resume.proofs.order.is_in_order.Goals as goal

pub returns : goal.returns
returns c =
    let plan = c.args.plan.now in
    let r = c.args.arrival.now in
    let goes : c.deliveries_of-deliveries.result.now ≡ r.deliveries = c.deliveries_of-deliveries.ensures.value in
    let slots : c.in_ok-slots.slots.items ≡ r.slots = c.in_ok-slots.ensures.value ∙ c.slots.ensures in
    let named : map (λ (s : Slot). s.destination) r.slots ≡ destinations_of r.deliveries
    = ap (map (λ (s : Slot). s.destination)) (sym (c.deref.ensures.value ∙ slots))
    ∙ (c.are_slots_of.ensures.0 c.if-not-are_slots_of.false ∙ ap destinations_of goes) in
    let tested : c.all_rest.result ≡ list_all (slot_rests plan) r.slots
    = c.all_rest.ensures ∙ ap (list_all (slot_rests plan)) (c.deref-2.ensures.value ∙ slots) in
    let answers : IsAnswered r.told r.deliveries
    = subst (λ (t : Told). IsAnswered t r.deliveries) c.told.ensures
    (subst (λ (ds : List Delivery). IsAnswered c.told.result ds) goes (c.is_answered.ensures.0 c.if-not-is_answered.false)) in (
      λ yes. in-order plan c.args.places r (omega arith) (omega arith)
          (subst IsBlockData (c.as_slice.ensures ∙ c.raw.ensures) (c.fits_block.ensures.0 c.if-not-fits_block.false))
          (subst AreDeliveries goes c.deliveries_of-deliveries.ensures.goes) answers named (sym tested ∙ yes),
      λ is. tested ∙ order-rests plan c.args.places r is,
    )
