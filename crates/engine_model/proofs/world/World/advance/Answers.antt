use Rattle.std.proofs.Common.{subst, sym}
use Rattle.engine_model.specs.declared.step.Step.{Step}
use Rattle.engine_model.specs.Steps.{Steps}
use Rattle.engine_model.specs.inner.View.{turn_by}
use Rattle.engine_model.proofs.world.World.advance.Goals as goal

pub returns-in-Prune : goal.returns-in-Prune
returns-in-Prune g c = subst (λ (s : Step). Steps (turn_by s) c.args.self.now c.prune.new.self) (sym c.in-Prune.is) c.prune.ensures
