use Rattle.std.proofs.Common.{◌≡◌, ◌-◌, ◌≤◌, length}
use Rattle.lane_scan.specs.inner.Scan.{bits_of, piece}
use Rattle.lane_scan.proofs.by_one.Given as goal

abbrev pub invariant-loop-from : goal.invariant-loop-from
invariant-loop-from l = record {
  low : l.at ≤ l.from;
  within : l.from ≤ length l.text;
  said : l.bits ≡ bits_of l.byte (piece l.from (length l.text - l.from) l.text);
}

abbrev pub decreases-loop-from : goal.decreases-loop-from
decreases-loop-from l = l.from
