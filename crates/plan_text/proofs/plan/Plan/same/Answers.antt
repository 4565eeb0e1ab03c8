use Rattle.std.proofs.lemmas.Bool.Decides.{Decides-at}
use Rattle.plan_text.specs.inner.Same.{same_plan-Decides}
use Rattle.plan_text.proofs.plan.Plan.same.Goals as goal

pub returns-else-eq : goal.returns-else-eq
returns-else-eq c = Decides-at _ _ c.eq-else-eq.ensures (same_plan-Decides c.args.self.now c.args.other.now)
