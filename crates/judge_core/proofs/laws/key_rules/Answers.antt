use Rattle.judge_core.proofs.Keys.{key-told, key-empty}
use Rattle.judge_core.proofs.laws.key_rules.Goals as goal

pub returns-clause-told : goal.returns-clause-told
returns-clause-told c = key-told

pub returns-clause-empty : goal.returns-clause-empty
returns-clause-empty c = key-empty
