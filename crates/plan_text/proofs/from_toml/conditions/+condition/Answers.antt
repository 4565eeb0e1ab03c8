use Rattle.std.proofs.Common.{◌≡◌, Ok, length, rules}
use Rattle.toml.specs.View.{view, array_view}
use Rattle.hl7_filter.specs.inner.View.{view as condition_view}
use Rattle.plan_text.specs.Keys.{each, member_path}
use Rattle.plan_text.specs.Conditions.{condition}
use Rattle.plan_text.proofs.Items.{goes_on_seen}
use Rattle.plan_text.proofs.from_toml.conditions.+condition.Goals as goal

pub conditions_of-loop-value-preserved : goal.conditions_of-loop-value-preserved
conditions_of-loop-value-preserved t c =
    let read : condition c.args.levels (member_path c.args.at.now (length c.loop-value.conds.items)) (view c.value-item.result) ≡ Ok (condition_view c.in_ok-cond.cond) = search rules in
    rw c.in_ok-push.ensures.items (goes_on_seen condition_view (condition c.args.levels) c.args.at.now c.loop-value.conds.items c.deref-value-items.result.now c.loop-value.value-index c.value-item.result c.in_ok-cond.cond
    (each (condition c.args.levels) c.args.at.now (array_view c.args.values.now)) c.loop-value-test.true c.value-item.is read c.loop-value.invariant)
