use Rattle.std.proofs.Common.{◌≡◌, ◌-◌, None, refl, sym, ◌∙◌, ap, arith, true, false}
use Rattle.event_log.specs.Deployment.{is_lost}
use Rattle.sequential_book.proofs.Deploying.{found-here, found-later, none-left}
use Rattle.sequential_book.proofs.engine.SequentialBook.first_lost.Goals as goal

pub returns-then-branch : goal.returns-then-branch
returns-then-branch c =
    let lost : is_lost c.args.self.now c.args.plan.now c.loop-d.d ≡ true = sym c.in_ok-is_lost.ensures ∙ c.if-branch.true in
    sym (found-here (is_lost c.args.self.now c.args.plan.now) c.loop-d.d c.loop-d-test.true lost) ∙ c.loop-d.invariant

pub loop-d-preserved : goal.loop-d-preserved
loop-d-preserved c =
    let lost : is_lost c.args.self.now c.args.plan.now c.loop-d.d ≡ false = sym c.in_ok-is_lost.ensures ∙ c.if-branch.false in
    found-later (is_lost c.args.self.now c.args.plan.now) c.loop-d.d c.loop-d-test.true lost ∙ c.loop-d.invariant

pub returns : goal.returns
returns c = sym (none-left (is_lost c.args.self.now c.args.plan.now) c.loop-d.d (omega (arith, c.loop-d-test.false))) ∙ c.loop-d.invariant
