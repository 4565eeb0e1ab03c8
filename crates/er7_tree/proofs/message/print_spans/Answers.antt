use Rattle.er7_tree.proofs.Spanning.{span_at}
use Rattle.er7_tree.proofs.message.print_spans.Goals as goal

pub of-requires : goal.of-requires
of-requires c = span_at 0 _ _ c.loop-span.span-index (record { start = 0; end = 0 }) c.requires c.loop-span-test.true
