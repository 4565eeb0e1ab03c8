use Rattle.toml.proofs.Views.{table_get}
use Rattle.plan_text.proofs.from_toml.keys.Keys.key.Goals as goal

pub returns-clause-value : goal.returns-clause-value
returns-clause-value c = table_get c.get.result c.args.name.now c.args.self.now.table.now.entries c.get.ensures.value
