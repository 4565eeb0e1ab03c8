use Rattle.std.proofs.Common.{◌≡◌, ◌-◌, ◌≤◌, length, drop}
use Rattle.er7_tree.specs.Tree.{segments_of}
use Rattle.er7_tree.proofs.segments.skip_empty.Given as goal

abbrev pub invariant-loop-start : goal.invariant-loop-start
invariant-loop-start l = record {
  behind : l.from ≤ l.start;
  within : l.start ≤ length l.text;
  same : segments_of (drop l.start l.text) ≡ segments_of (drop l.from l.text);
}

abbrev pub decreases-loop-start : goal.decreases-loop-start
decreases-loop-start l = length l.text - l.start
