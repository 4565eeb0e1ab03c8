use Rattle.std.proofs.Common.{◌≡◌, drop}
use Rattle.std.specs.List.{list_all}
use Rattle.hl7_transform.specs.Check.{may_stand}
use Rattle.hl7_transform.specs.inner.View.{steps_view}
use Rattle.hl7_transform.proofs.step_check.all_may_stand.Given as goal

abbrev pub invariant-loop-step : goal.invariant-loop-step
invariant-loop-step l = list_all may_stand (steps_view l.steps) ≡ list_all may_stand (steps_view (drop l.step-index l.steps))
