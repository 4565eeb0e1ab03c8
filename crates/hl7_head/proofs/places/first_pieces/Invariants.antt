use Rattle.er7_tree.specs.Pieces.{split}
use Rattle.er7_tree.specs.inner.Spans.{covered}
use Rattle.hl7_head.proofs.Cutting.{ReadsOn}
use Rattle.hl7_head.proofs.places.first_pieces.Given as goal

abbrev pub invariant-loop-piece : goal.invariant-loop-piece
invariant-loop-piece g l = ReadsOn l.text l.separator l.left l.piece-index g.row.N (split l.separator (covered l.text l.fn.part)) l.piece-items
