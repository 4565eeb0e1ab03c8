use Rattle.std.proofs.Common.{◌≡◌, ◌+◌, ◌<◌, [], ◌∷◌, ◌++◌, List, ℕ, map, length, take, set, get_or, Bor, subst, sym, ap, ◌∙◌, arith}
use Rattle.std.proofs.lemmas.List.{get_or-map, length-map}
use Rattle.er7_tree.specs.inner.Spans.{covered, InOrder}
use Rattle.er7_tree.proofs.Spanning.{span_at}
use Rattle.er7_tree.proofs.Placing.{set_step, writes_more, writes_in_order}
use Rattle.er7_tree.proofs.message.with_segment.Goals as goal
use Rattle.er7_tree.proofs.message.with_segment.Goals.{then-index-place, else-index-place}

pub of-segment-requires : goal.of-segment-requires
of-segment-requires c = span_at 0 _ _ c.loop-index.index (record { start = 0; end = 0 }) c.requires c.loop-index-test.true

pub loop-index-preserved : goal.loop-index-preserved
loop-index-preserved c =
    let old = map (covered c.args.text.now) c.args.spans.now in
    let changed = c.loop-index.changed.items in
    let moved = c.loop-index.moved.items in
    let segment = c.if-index-place.segment.now in
    let index = c.loop-index.index in
    let so_far = c.loop-index.invariant in
    let extended : c.extend_from_slice.new.self.items ≡ changed ++ segment = c.in_ok-extend_from_slice.ensures.items in
    let starts : c.len-start.result ≡ length changed = omega (arith, c.len-start.ensures, c.loop-index.changed.ok.0) in
    let ends : c.len-end.result ≡ length (changed ++ segment) = omega (arith, c.len-end.ensures, c.extend_from_slice.new.self.ok.0, ap length extended) in
    let below : index < length old = omega (arith, c.loop-index-test.true, length-map c.args.spans.now (covered c.args.text.now)) in
    let target = set old c.args.place c.args.new.now in
    let piece : get_or old index [] ≡ covered c.args.text.now (get_or c.args.spans.now index (record { start = 0; end = 0 })) =
    get_or-map (covered c.args.text.now) c.args.spans.now index (record { start = 0; end = 0 }) [] c.loop-index-test.true in
    let next : take (index + 1) target ≡ take index target ++ segment ∷ [] =
    elim c.if-index-place.branch [
      | then-index-place w ↦
          set_step old c.args.place index c.args.new.now segment below (λ _. ap (λ (b : Bor (List ℕ)). b.now) w.segment-is) (λ other. absurd (other w.if-index-place.true))
      | else-index-place w ↦
          set_step old c.args.place index c.args.new.now segment below (λ same. absurd (w.if-index-place.false same))
          (λ _. ap (λ (b : Bor (List ℕ)). b.now) w.segment-is ∙ w.of-segment.ensures ∙ sym piece)
    ] in
    let covers = writes_more changed segment moved target index c.len-start.result c.len-end.result starts ends so_far.in_order so_far.same next in
    let in_order = writes_in_order changed segment moved target index c.len-start.result c.len-end.result starts ends so_far.in_order in
    let pushed = c.in_ok-push.ensures.ok in
    record {
      same = ap (λ text. map (covered text) c.push.new.self.items) extended ∙ ap (map (covered (changed ++ segment))) pushed ∙ covers;
      in_order = subst (λ text. InOrder 0 (length text) c.push.new.self.items) (sym extended) (subst (InOrder 0 (length (changed ++ segment))) (sym pushed) in_order);
    }
