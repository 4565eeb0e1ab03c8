use Rattle.engine_model.specs.inner.View.{turn_by}
use Rattle.engine_model.proofs.Worlds.{runs-more}
use Rattle.engine_model.proofs.world.World.run.Goals as goal

pub loop-step-preserved : goal.loop-step-preserved
loop-step-preserved g c = runs-more turn_by c.args.steps.now c.loop-step.step-index c.step-item.result _ _ _ c.loop-step-test.true c.step-item.is c.loop-step.invariant c.advance.ensures
