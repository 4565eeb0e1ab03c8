use Rattle.std.proofs.Common.{ℕ, List, Vec, Global, sym, ap, ◌∙◌}
use Rattle.std.specs.Arc.{arc_value}
use Rattle.er7_tree.specs.Delims.{Delims}
use Rattle.er7_tree.specs.inner.Spans.{covered}
use Rattle.hl7_head.specs.inner.Places.{pieces_at}
use Rattle.hl7_head.specs.inner.Segment.{header_in}
use Rattle.hl7_head.proofs.HeaderSegment.{header_by_segment}
use Rattle.hl7_head.proofs.header.Header.read.Goals as goal

pub returns : goal.returns
returns c =
    let t = c.args.message.now in
    let span = c.shared_header.result.1 in
    let kept = c.as_slice.ensures.value ∙ ap (λ (v : Vec ℕ Global). v.items) c.deref.ensures in
    let shared = kept ∙ ap (λ (v : Vec ℕ Global). v.items) c.in_ok-text.ensures in
    ap (λ (text : List ℕ). pieces_at c.delims-delims.result text c.of-places.result) (sym kept)
    ∙ c.of-places.ensures.pieces
    ∙ ap (λ (d : Delims). header_in d (covered c.as_slice.result.now span)) c.delims-delims.ensures
    ∙ ap (λ (text : List ℕ). header_in t.delims (covered text span)) shared
    ∙ header_by_segment t (covered (arc_value c.shared_header.result.0.now).items span) c.shared_header.ensures.first c.shared_header.ensures.named
