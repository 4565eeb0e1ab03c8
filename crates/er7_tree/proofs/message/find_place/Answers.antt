use Rattle.std.proofs.Common.{sym, ap, ◌∙◌, arith}
use Rattle.er7_tree.specs.Tree.{has_name}
use Rattle.er7_tree.proofs.Spanning.{span_at}
use Rattle.er7_tree.proofs.Placing.{counted_yes, counted_no}
use Rattle.er7_tree.proofs.message.find_place.Goals as goal
use Rattle.er7_tree.proofs.message.find_place.Goals.{then-starts_with+else-before-n, else-starts_with}

pub of-requires : goal.of-requires
of-requires c = span_at 0 _ _ c.loop-place.place (record { start = 0; end = 0 }) c.requires c.loop-place-test.true

pub loop-place-preserved : goal.loop-place-preserved
loop-place-preserved c =
    let so_far = c.loop-place.invariant in
    let test = has_name c.args.name.now in
    let tested = sym (c.starts_with.ensures.value ∙ ap test c.of.ensures) in
    elim c.if-starts_with.branch [
      | then-starts_with+else-before-n w ↦
          let more = counted_yes test c.args.text.now c.args.spans.now c.loop-place.place _ c.loop-place-test.true (tested ∙ w.if-starts_with.true) in
          record { counted = omega arith; below = omega arith; fewer = omega arith }
      | else-starts_with w ↦
          let more = counted_no test c.args.text.now c.args.spans.now c.loop-place.place _ c.loop-place-test.true (tested ∙ w.if-starts_with.false) in
          record { counted = omega arith; below = omega arith; fewer = omega arith }
    ]
