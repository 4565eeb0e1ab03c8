use Rattle.std.proofs.Common.{sym, ap, ◌∙◌, List, ℕ}
use Rattle.std.proofs.lemmas.Result.{IfOk-weaker}
use Rattle.er7_tree.specs.Edit.{put_in}
use Rattle.er7_tree.specs.Path.{levels}
use Rattle.er7_tree.proofs.Putting.{put_by}
use Rattle.er7_tree.proofs.edits.put_field.Goals as goal

pub returns : goal.returns
returns c =
    let d = c.args.delims in
    let inner : List ℕ → List ℕ = put_in (levels d c.args.path.now.part) c.args.new.now in
    let part_is = rw c.part.ensures at c.in_ok-field.ensures in
    let piece_is = rw c.field-2.ensures at c.piece-field.ensures in
    let is = c.deref.ensures.value ∙ part_is ∙ ap inner piece_is in
    let text = c.args.segment.now in
    rw (sym c.field.ensures) (rw (sym c.field_place-place.ensures)
    (IfOk-weaker c.put.result _ _ (λ v e. e ∙ sym (put_by d.field c.field_place-place.result inner text c.deref.result.now is)) (rw c.field-3.ensures at c.put.ensures)))
