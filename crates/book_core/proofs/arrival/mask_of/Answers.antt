use Rattle.std.proofs.Common.{◌<◌, length, arith, subst, sym}
use Rattle.judge_core.specs.declared.delivery.Delivery.{Delivery}
use Rattle.book_core.proofs.Naming.{mask-more}
use Rattle.book_core.proofs.arrival.mask_of.Goals as goal

pub loop-delivery-preserved : goal.loop-delivery-preserved
loop-delivery-preserved c =
    let x = c.delivery-item.result in
    let inside : c.loop-delivery.delivery-index < length c.args.deliveries.now = omega arith in
    mask-more c.args.deliveries.now c.loop-delivery.delivery-index x inside c.delivery-item.is c.loop-delivery.mask
    (subst (λ (y : Delivery). y.destination < 32) (sym c.delivery-item.is) (c.requires c.loop-delivery.delivery-index x inside)) c.loop-delivery.invariant
