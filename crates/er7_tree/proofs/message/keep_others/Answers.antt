use Rattle.std.proofs.Common.{◌≡◌, ◌+◌, ◌<◌, Bool, true, false, not, length, take, drop, subst, sym, ap, ◌∙◌, arith, get_or}
use Rattle.std.proofs.lemmas.List.{get_or_default}
use Rattle.er7_tree.proofs.Placing.{first_left}
use Rattle.er7_tree.specs.declared.segments.Span.{Span}
use Rattle.er7_tree.specs.inner.Spans.{covered, IsBetween}
use Rattle.er7_tree.specs.Tree.{has_name}
use Rattle.er7_tree.proofs.Spanning.{span_at}
use Rattle.er7_tree.proofs.Placing.{drops_kept, drops_left, drops_gone, rest_left}
use Rattle.er7_tree.proofs.message.keep_others.Goals as goal
use Rattle.er7_tree.proofs.message.keep_others.Goals.{then-not-starts_with, else-not-starts_with}

pub of-requires : goal.of-requires
of-requires c =
    let old = c.args.spans.now in
    let spans = c.loop-place.spans in
    let place = c.loop-place.place in
    let none : Span = record { start = 0; end = 0 } in
    let span = get_or spans place none in
    let here = get_or_default spans place none span (omega (arith, c.loop-place.auto.spans, c.loop-place-test.true)) ∙ first_left spans old place span c.loop-place.invariant.left in
    subst (IsBetween 0 (length c.args.text.now)) (sym here) (span_at 0 _ old place span c.requires c.loop-place-test.true)

pub loop-place-preserved : goal.loop-place-preserved
loop-place-preserved c =
    let old = c.args.spans.now in
    let spans = c.loop-place.spans in
    let none : Span = record { start = 0; end = 0 } in
    let span = get_or spans c.loop-place.place none in
    let here = get_or_default spans c.loop-place.place none span (omega (arith, c.loop-place.auto.spans, c.loop-place-test.true)) in
    let p : Span → Bool = λ span. not (has_name c.args.name.now (covered c.args.text.now span)) in
    let so_far = c.loop-place.invariant in
    let below : c.loop-place.place < length old = c.loop-place-test.true in
    let tested : c.starts_with.result ≡ has_name c.args.name.now (covered c.args.text.now span) = c.starts_with.ensures.value ∙ ap (has_name c.args.name.now) c.of.ensures in
    elim c.if-not-starts_with.branch [
      | then-not-starts_with w ↦
          let stays : p span ≡ true = ap not (sym tested ∙ w.if-not-starts_with.true) in record {
            behind = omega arith;
            kept = ap (take c.if-not-starts_with.kept) w.spans-is ∙ drops_kept p old spans c.loop-place.place c.loop-place.kept span below so_far.behind so_far.kept so_far.left here _ w.kept-is stays;
            left = ap (drop (c.loop-place.place + 1)) w.spans-is ∙ drops_left p old spans c.loop-place.place c.loop-place.kept span below so_far.behind so_far.kept so_far.left here;
          }
      | else-not-starts_with w ↦
          let goes : p span ≡ false = ap not (sym tested ∙ w.if-not-starts_with.false) in record {
            behind = omega arith;
            kept = ap (take c.if-not-starts_with.kept) w.spans-is ∙ ap (λ n. take n spans) w.kept-is
                ∙ drops_gone p old spans c.loop-place.place c.loop-place.kept span below so_far.behind so_far.kept so_far.left here goes;
            left = ap (drop (c.loop-place.place + 1)) w.spans-is ∙ rest_left spans old c.loop-place.place so_far.left;
          }
    ]
