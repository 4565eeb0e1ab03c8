use Rattle.std.proofs.Common.{◌∙◌}
use Rattle.er7_tree.proofs.PathReading.{part_inner}
use Rattle.er7_tree.proofs.path.part_from.Goals as goal

pub returns-in_default-Some-clause-value : goal.returns-in_default-Some-clause-value
returns-in_default-Some-clause-value c =
    rw c.in_default-Some.is-1 (rw c.unwrap_or.ensures at c.inner_part.ensures.value ∙ part_inner c.args.repetition c.in_default-Some.parts.now)
