use Rattle.std.proofs.Common.{map, take}
use Rattle.engine_model.specs.Steps.{Runs}
use Rattle.engine_model.specs.inner.View.{turn_by}
use Rattle.engine_model.proofs.world.World.run.Given as goal

-- the steps so far were taken
abbrev pub invariant-loop-step : goal.invariant-loop-step
invariant-loop-step g l = Runs (map turn_by (take l.step-index l.steps)) l.initial.self l.self
