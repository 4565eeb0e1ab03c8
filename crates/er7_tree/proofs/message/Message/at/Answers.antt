use Rattle.std.proofs.Common.{◌≡◌, ◌<◌, ℕ, Vec, Global, Some, [], length, map, get_or, slice_get, subst, sym, ap, ◌∙◌, arith}
use Rattle.std.proofs.lemmas.List.{get_or-map, length-map}
use Rattle.std.proofs.lemmas.Option.{slice_get-get_or}
use Rattle.std.specs.Arc.{arc_value}
use Rattle.er7_tree.specs.declared.segments.Span.{Span}
use Rattle.er7_tree.specs.inner.Spans.{covered, IsBetween}
use Rattle.er7_tree.specs.Tree.{Tree}
use Rattle.er7_tree.proofs.Spanning.{span_at}
use Rattle.er7_tree.proofs.message.Message.at.Goals as goal

none : Span
none = record { start = 0; end = 0 }

pub of-requires : goal.of-requires
unfolding none
of-requires c =
    let text = (arc_value c.self.inside.text).items in
    let spans = c.self.inside.spans.items in
    let below : c.args.place < length spans = omega (arith, c.requires, ap (λ (t : Tree). length t.segments) c.self.view_is, length-map spans (covered text)) in
    let here = subst (λ spans. IsBetween 0 (length text) (get_or spans c.args.place none)) (sym c.as_slice-spans.ensures) (span_at 0 (length text) spans c.args.place none c.self.invariant.in_order below) in
    subst (λ text. IsBetween 0 (length text) (get_or c.as_slice-spans.result.now c.args.place none)) (sym (c.as_slice.ensures.value ∙ ap (λ (v : Vec ℕ Global). v.items) c.deref.ensures)) here

pub returns : goal.returns
unfolding none
returns c =
    let text = (arc_value c.self.inside.text).items in
    let spans = c.self.inside.spans.items in
    let below : c.args.place < length spans = omega (arith, c.requires, ap (λ (t : Tree). length t.segments) c.self.view_is, length-map spans (covered text)) in
    let piece : get_or (map (covered text) spans) c.args.place [] ≡ c.of.result.now =
    get_or-map (covered text) spans c.args.place none [] below ∙ ap (λ spans. covered text (get_or spans c.args.place none)) (sym c.as_slice-spans.ensures)
    ∙ ap (λ text. covered text (get_or c.as_slice-spans.result.now c.args.place none)) (sym (c.as_slice.ensures.value ∙ ap (λ (v : Vec ℕ Global). v.items) c.deref.ensures)) ∙ sym c.of.ensures in
    ap (λ (t : Tree). slice_get t.segments c.args.place) (sym c.self.view_is) ∙ slice_get-get_or (map (covered text) spans) c.args.place [] (omega (arith, below, length-map spans (covered text))) ∙ ap Some piece
