use Rattle.std.proofs.Common.{◌≡◌, drop}
use Rattle.toml.specs.View.{items_view}
use Rattle.plan_text.specs.Steps.{any_looks_up}
use Rattle.plan_text.proofs.from_toml.steps.any_looks_up.Given as goal

abbrev pub invariant-loop-value : goal.invariant-loop-value
invariant-loop-value l = any_looks_up l.text (items_view l.values) ≡ any_looks_up l.text (items_view (drop l.value-index l.values))
