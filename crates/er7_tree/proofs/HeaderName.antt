-- The name of the header, which stands before its fields.
use Rattle.std.proofs.Common.{◌≡◌, ℕ, List, ◌∷◌, [], true, refl, ap, ◌∙◌, codes, None}
use Rattle.er7_tree.specs.Delims.{Delims}
use Rattle.er7_tree.specs.Path.{field_at, header_place, raw, segment_at}
use Rattle.er7_tree.specs.Pieces.{piece_at, split}
use Rattle.er7_tree.specs.Tree.{Tree, first_of, is_header}
use Rattle.er7_tree.specs.inner.Tree.{IsMessage}
use Rattle.er7_tree.proofs.EditedSegments.{Heads, header_heads}
use Rattle.er7_tree.proofs.Messages.{delims_are}

of_segments : (d : Delims) (segments : List (List ℕ)) → is_header (first_of segments) ≡ true → Heads d (first_of segments)
    → field_at d 0 (segment_at (codes "MSH") 1 segments) ≡ codes "MSH"
of_segments d [] header heads = cc
of_segments d (first ∷ others) header heads =
    let segment_is : segment_at (codes "MSH") 1 (first ∷ others) ≡ first = rw header refl in
    let piece_is : field_at d 0 first ≡ piece_at 0 (split d.field first) = rw header refl in
    ap (field_at d 0) segment_is ∙ piece_is ∙ ap (piece_at 0) heads.is

pub header_name : (t : Tree) → IsMessage t → raw t (header_place 0 None) ≡ codes "MSH"
header_name t whole = of_segments t.delims t.segments whole.header (header_heads t.delims (delims_are t whole) (first_of t.segments) whole.header whole.declared)
