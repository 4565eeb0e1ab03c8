use Rattle.std.proofs.Common.{sym, ◌∙◌}
use Rattle.plan_text.proofs.from_toml.steps.only_step_keys.Goals as goal

pub returns-then-has : goal.returns-then-has
returns-then-has c = rw (sym c.has.ensures ∙ c.if-has.true) c.only.ensures

pub returns-else-has : goal.returns-else-has
returns-else-has c = rw (sym c.has.ensures ∙ c.if-has.false) c.only-else-has.ensures
