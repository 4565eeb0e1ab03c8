use Rattle.std.proofs.Common.{sym, ◌∙◌}
use Rattle.er7_tree.proofs.PathReading.{inner_more}
use Rattle.er7_tree.proofs.path.inner_part.Goals as goal

pub returns-then-is_some-clause-value : goal.returns-then-is_some-clause-value
returns-then-is_some-clause-value c =
    sym (inner_more c.args.repetition c.args.text.now c.cut.result.0.now c.in-Some.rest.now c.cut-2.result.0.now c.cut-2.result.1
    (rw c.in-Some.is at c.cut.ensures.pieces) c.cut-2.ensures.pieces (sym c.is_some.ensures ∙ c.if-is_some.true))
