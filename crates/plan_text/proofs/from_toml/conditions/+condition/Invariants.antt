use Rattle.std.proofs.Common.{◌≡◌, ◌+◌, ◌*◌, drop, map}
use Rattle.toml.specs.View.{items_view, array_view}
use Rattle.hl7_filter.specs.inner.View.{view as condition_view}
use Rattle.plan_text.specs.Keys.{each, each_after}
use Rattle.plan_text.specs.Conditions.{condition}
use Rattle.plan_text.proofs.from_toml.conditions.+condition.Given as goal

abbrev pub decreases-condition_of : goal.decreases-condition_of
decreases-condition_of l = 5 * l.levels

abbrev pub decreases-by_key : goal.decreases-by_key
decreases-by_key l = 5 * l.levels + 4

abbrev pub decreases-condition_at : goal.decreases-condition_at
decreases-condition_at l = 5 * l.levels + 1

abbrev pub decreases-conditions_at : goal.decreases-conditions_at
decreases-conditions_at l = 5 * l.levels + 3

abbrev pub decreases-conditions_of : goal.decreases-conditions_of
decreases-conditions_of l = 5 * l.levels + 2

abbrev pub invariant-conditions_of-loop-value : goal.invariant-conditions_of-loop-value
invariant-conditions_of-loop-value l = each_after (λ before. condition l.levels) l.at (map condition_view l.conds.items) (items_view (drop l.value-index l.value-items)) ≡ each (condition l.levels) l.at (array_view l.values)
