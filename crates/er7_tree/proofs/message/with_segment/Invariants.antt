use Rattle.std.proofs.Common.{◌≡◌, take, length, map, slice_set}
use Rattle.er7_tree.specs.inner.Spans.{covered, InOrder}
use Rattle.er7_tree.proofs.message.with_segment.Given as goal

abbrev pub invariant-loop-index : goal.invariant-loop-index
invariant-loop-index l = record {
  same : map (covered l.changed.items) l.moved.items ≡ take l.index (slice_set (map (covered l.text) l.spans) l.place l.new);
  in_order : InOrder 0 (length l.changed.items) l.moved.items;
}
