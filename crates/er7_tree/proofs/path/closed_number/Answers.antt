use Rattle.std.proofs.Common.{sym, ◌∙◌}
use Rattle.er7_tree.proofs.PathReading.{closed_more}
use Rattle.er7_tree.proofs.path.closed_number.Goals as goal

pub returns-then-not-is_empty-clause-value : goal.returns-then-not-is_empty-clause-value
returns-then-not-is_empty-clause-value c =
    sym (closed_more c.args.text.now c.cut.result.0.now c.in_ok-rest.field-0.now (rw c.in_ok-rest.was at c.cut.ensures.pieces) (sym c.is_empty.ensures ∙ c.if-not-is_empty.true))
