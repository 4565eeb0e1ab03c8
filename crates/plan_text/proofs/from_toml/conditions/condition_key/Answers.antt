use Rattle.std.proofs.Common.{◌≡◌, Ok}
use Rattle.toml.specs.View.{table_view}
use Rattle.plan_text.specs.Keys.{only_keys}
use Rattle.plan_text.specs.Conditions.{condition_keys, condition_key}
use Rattle.plan_text.proofs.from_toml.conditions.condition_key.Goals as goal

pub returns : goal.returns
unfolding condition_key
returns c =
    let known : only_keys condition_keys c.args.keys.now.at.now (table_view c.args.keys.now.table.now) ≡ Ok tt = c.in_ok-only.ensures in
    rw known c.one_of.ensures
