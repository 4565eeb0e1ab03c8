use Rattle.std.proofs.Common.{◌≡◌, ◌<◌}
use Rattle.er7_tree.specs.Pieces.{split}
use Rattle.er7_tree.specs.inner.Spans.{covered}
use Rattle.lane_scan.specs.inner.Scan.{AreAhead}
use Rattle.hl7_head.proofs.Cutting.{ReadsOn}
use Rattle.hl7_head.proofs.places.fields.Given as goal

abbrev pub invariant-loop-piece : goal.invariant-loop-piece
invariant-loop-piece g l = record {
  reads : ReadsOn l.text l.separator l.left l.piece-index g.row.N (split l.separator (covered l.text l.fn.part)) l.piece-items;
  ahead : AreAhead l.separator l.text l.ahead.at l.ahead.end l.ahead.bits;
  here : l.left.start < l.left.end → l.ahead.at ≡ l.left.start;
}
