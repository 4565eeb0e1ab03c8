use Rattle.std.proofs.Common.{◌<◌, length, refl, subst, arith}
use Rattle.std.specs.Prelude.{All}
use Rattle.std.proofs.lemmas.List.{take_all}
use Rattle.std.proofs.lemmas.List.Elements.{All-more}
use Rattle.book_resume.specs.inner.Order.{IsInOrder}
use Rattle.book_resume.proofs.order.are_in_order.Goals as goal

pub loop-arrival-preserved : goal.loop-arrival-preserved
loop-arrival-preserved c =
    let test = IsInOrder c.args.plan.now c.args.places in
    let inside : c.loop-arrival.arrival-index < length c.args.arrivals.now = omega arith in
    let x = c.arrival-item.result in
    All-more test c.args.arrivals.now c.loop-arrival.arrival-index x inside c.loop-arrival.invariant
    (subst test c.arrival-item.is (c.in_ok-is_in_order.ensures.0 c.if-not-branch.false))

pub returns : goal.returns
returns c = (
  λ yes. subst (All (IsInOrder c.args.plan.now c.args.places))
      (take_all c.loop-arrival.arrival-index c.args.arrivals.now c.loop-arrival-test.false) c.loop-arrival.invariant,
  λ all. refl,
)
