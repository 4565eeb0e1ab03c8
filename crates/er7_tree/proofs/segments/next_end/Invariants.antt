use Rattle.std.proofs.Common.{◌-◌, ◌≤◌, length}
use Rattle.lane_scan.specs.inner.Scan.{AreAhead}
use Rattle.er7_tree.proofs.segments.next_end.Given as goal

abbrev pub invariant-ends : goal.invariant-ends
invariant-ends l = record {
  ahead : AreAhead 13 l.text l.ends.at l.ends.end l.ends.bits;
  behind : l.ends.at ≤ l.from;
}

abbrev pub decreases-ends : goal.decreases-ends
decreases-ends l = length l.text - l.ends.at
