use Rattle.std.proofs.Common.{◌≡◌, ◌++◌, drop, map}
use Rattle.std.specs.List.{flat_map}
use Rattle.er7_tree.specs.inner.Spans.{covered}
use Rattle.er7_tree.specs.Tree.{ended}
use Rattle.er7_tree.proofs.message.print_spans.Given as goal

abbrev pub invariant-loop-span : goal.invariant-loop-span
invariant-loop-span l =
    l.printed.items ++ flat_map ended (map (covered l.text) (drop l.span-index l.spans))
    ≡ flat_map ended (map (covered l.text) l.spans)
