use Rattle.std.proofs.Common.{◌≡◌, sym, ◌∙◌, arith, true, false}
use Rattle.event_log.specs.Deployment.{is_lost}
use Rattle.book_core.proofs.KeepingDeployments.{found-here, found-later, none-left}
use Rattle.book_core.proofs.book.Book.first_lost.Goals as goal

pub returns-then-is_lost : goal.returns-then-is_lost
returns-then-is_lost g c =
    let lost : is_lost c.args.self.now c.args.plan.now c.loop-d.d ≡ true = sym c.is_lost.ensures ∙ c.if-is_lost.true in
    sym (found-here (is_lost c.args.self.now c.args.plan.now) c.loop-d.d c.loop-d-test.true lost) ∙ c.loop-d.invariant

pub loop-d-preserved : goal.loop-d-preserved
loop-d-preserved g c =
    let lost : is_lost c.args.self.now c.args.plan.now c.loop-d.d ≡ false = sym c.is_lost.ensures ∙ c.if-is_lost.false in
    found-later (is_lost c.args.self.now c.args.plan.now) c.loop-d.d c.loop-d-test.true lost ∙ c.loop-d.invariant

pub returns : goal.returns
returns g c = sym (none-left (is_lost c.args.self.now c.args.plan.now) c.loop-d.d (omega (arith, c.loop-d-test.false))) ∙ c.loop-d.invariant
