use Rattle.plan_text.specs.Steps.{step_key}
use Rattle.plan_text.proofs.from_toml.steps.step_key.Goals as goal

pub returns : goal.returns
unfolding step_key
returns c = rw c.in_ok-only_step_keys.ensures c.one_of.ensures
