use Rattle.std.proofs.Common.{◌∙◌, ◌≡◌, ◌<◌, length, sym, ap, subst, arith}
use Rattle.std.proofs.lemmas.Bool.Decides.{nat_tests}
use Rattle.judge_core.specs.declared.judged.Verdict.TheVariants.{Accept}
use Rattle.judge_core.specs.inner.Delivering.{AreDeliveries}
use Rattle.judge_core.specs.inner.Outgoing.{listed}
use Rattle.judge_core.proofs.Judgements.{routed-stopped, routed-sent, routed-nowhere}
use Rattle.judge_core.proofs.judged.routed.Goals as goal

pub returns-in_default : goal.returns-in_default
returns-in_default c = sym (routed-stopped c.args.routes.now c.args.message.now (rw c.in_default.is at c.in_ok-deliveries.ensures))

pub returns-then-is_empty : goal.returns-then-is_empty
returns-then-is_empty c =
    let went = rw c.in-Some.is at c.in_ok-deliveries.ensures in
    let none : length (listed c.in-Some.deliveries) ≡ 0 = grind (arith, nat_tests, c.is_empty.ensures, c.if-is_empty.true) in
    sym (routed-nowhere c.args.routes.now c.args.message.now (listed c.in-Some.deliveries) went.0 went.1 none)

pub new-requires : goal.new-requires
new-requires c =
    let went = rw c.in-Some.is at c.in_ok-deliveries.ensures in
    subst AreDeliveries (sym went.1) c.requires.goes

pub returns : goal.returns
returns c =
    let went = rw c.in-Some.is at c.in_ok-deliveries.ensures in
    let some : 0 < length (listed c.in-Some.deliveries) = grind (arith, nat_tests, c.is_empty.ensures, c.if-is_empty.false) in
    ap Accept c.in_ok-new.ensures ∙ sym (routed-sent c.args.routes.now c.args.message.now (listed c.in-Some.deliveries) went.0 went.1 some)
