use Rattle.std.proofs.Common.{sym, ◌∙◌}
use Rattle.er7_tree.proofs.PathReading.{indexed_more}
use Rattle.er7_tree.proofs.path.indexed.Goals as goal

pub returns-then-is_some-clause-value : goal.returns-then-is_some-clause-value
returns-then-is_some-clause-value c =
    indexed_more c.args.text.now c.cut.result.0.now c.in-Some.index.now c.cut-2.result.0.now c.cut-2.result.1
    (rw c.in-Some.is at c.cut.ensures.pieces) c.cut-2.ensures.pieces (sym c.is_some.ensures ∙ c.if-is_some.true)
