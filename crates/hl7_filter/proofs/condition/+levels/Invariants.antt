use Rattle.std.proofs.Common.{◌≡◌, drop, nat_le}
use Rattle.hl7_filter.specs.Condition.{most_levels}
use Rattle.hl7_filter.specs.inner.View.{conditions_view}
use Rattle.hl7_filter.proofs.condition.+levels.Given as goal

abbrev pub invariant-all_within-loop-cond : goal.invariant-all_within-loop-cond
invariant-all_within-loop-cond l =
    nat_le (most_levels (conditions_view l.conds)) l.levels_max ≡ nat_le (most_levels (conditions_view (drop l.cond-index l.conds))) l.levels_max
