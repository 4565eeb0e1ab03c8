use Rattle.std.proofs.Common.{◌-◌, ◌≤◌, length}
use Rattle.lane_scan.specs.inner.Scan.{AreAhead, IsNowhere}
use Rattle.lane_scan.proofs.Ahead.next.Given as goal

abbrev pub invariant-loop-ahead : goal.invariant-loop-ahead
invariant-loop-ahead l = record {
  ahead : AreAhead l.byte l.text l.ahead.at l.ahead.end l.ahead.bits;
  behind : l.fn.self.at ≤ l.ahead.at;
  none : IsNowhere l.byte l.text l.fn.self.at l.ahead.at;
}

abbrev pub decreases-loop-ahead : goal.decreases-loop-ahead
decreases-loop-ahead l = length l.text - l.ahead.end
