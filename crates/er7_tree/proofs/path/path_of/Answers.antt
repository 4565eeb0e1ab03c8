use Rattle.std.proofs.Common.{sym, ◌∙◌}
use Rattle.er7_tree.proofs.PathReading.{path_more, path_parts}
use Rattle.er7_tree.proofs.path.path_of.Goals as goal

pub returns-then-is_some : goal.returns-then-is_some
returns-then-is_some c =
    sym (path_more c.args.text.now c.cut.result.0.now c.in_ok-field.field-0.now c.cut-2.result.0.now c.cut-2.result.1
    (rw c.in_ok-field.was at c.cut.ensures.pieces) c.cut-2.ensures.pieces (sym c.is_some.ensures ∙ c.if-is_some.true))

pub returns : goal.returns
returns c =
    let parts = path_parts c.args.text.now c.cut.result.0.now c.in_ok-field.field-0.now c.cut-2.result.0.now c.cut-2.result.1
    (c.in_ok-name.name.now, c.in_ok-name.occurrence) (c.in_ok-field-2.field, c.in_ok-field-2.part)
    (rw c.in_ok-field.was at c.cut.ensures.pieces) c.cut-2.ensures.pieces (sym c.is_some.ensures ∙ c.if-is_some.false) c.in_ok-name.ensures.value c.in_ok-field-2.ensures.value in
    c.checked.ensures ∙ rw c.unwrap_or.ensures parts
