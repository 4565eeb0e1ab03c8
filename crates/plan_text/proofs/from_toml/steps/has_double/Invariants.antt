use Rattle.std.proofs.Common.{◌≡◌, length}
use Rattle.toml.specs.View.{items_view}
use Rattle.plan_text.specs.Steps.{has_double}
use Rattle.plan_text.proofs.from_toml.steps.has_double.Given as goal

abbrev pub invariant-loop-rest : goal.invariant-loop-rest
invariant-loop-rest l = has_double (items_view l.values) ≡ has_double (items_view l.rest)

abbrev pub decreases-loop-rest : goal.decreases-loop-rest
decreases-loop-rest l = length l.rest
