use Rattle.std.proofs.Common.{◌≡◌, ◌≤◌, drop, length, map}
use Rattle.std.specs.List.{flat_map}
use Rattle.er7_tree.specs.inner.Spans.{covered}
use Rattle.er7_tree.specs.Tree.{ended}
use Rattle.er7_tree.proofs.message.are_printed.Given as goal

abbrev pub invariant-loop-span : goal.invariant-loop-span
invariant-loop-span l = record {
  within : l.at ≤ length l.text;
  rest : flat_map ended (map (covered l.text) (drop l.span-index l.spans)) ≡ drop l.at l.text → flat_map ended (map (covered l.text) l.spans) ≡ l.text;
}
