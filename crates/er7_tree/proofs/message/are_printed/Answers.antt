use Rattle.std.proofs.Common.{arith}
use Rattle.er7_tree.proofs.Spanning.{span_at, printed_from}
use Rattle.er7_tree.proofs.message.are_printed.Goals as goal

pub loop-span-preserved : goal.loop-span-preserved
loop-span-preserved c =
    let spans = c.args.spans.now in
    let i = c.loop-span.span-index in
    let here = span_at 0 _ spans i (record { start = 0; end = 0 }) c.requires c.loop-span-test.true in
    let starts = c.if-span-at.false in
    let ends = c.if-text-span-ne-CARRIAGE_RETURN.false in
    record {
      within = omega (arith, c.if-span-text.false);
      rest = λ later. c.loop-span.invariant.rest (printed_from c.args.text.now spans i c.loop-span.at (record { start = 0; end = 0 }) c.loop-span-test.true starts c.if-span-text.false ends (omega (arith, here.ordered, starts)) later);
    }
