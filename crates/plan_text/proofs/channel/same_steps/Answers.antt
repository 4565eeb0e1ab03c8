use Rattle.std.proofs.Common.{sym, ◌∙◌}
use Rattle.std.specs.Cmp.Derive.Mapped.{pointwise-map}
use Rattle.hl7_transform.specs.inner.Same.{same_edit}
use Rattle.hl7_transform.specs.inner.View.{view}
use Rattle.plan_text.proofs.channel.same_steps.Goals as goal

pub returns : goal.returns
returns c = c.eq.ensures ∙ sym (pointwise-map view same_edit c.args.steps.now c.args.others.now)
