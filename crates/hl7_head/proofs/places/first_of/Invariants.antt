use Rattle.std.proofs.Common.{◌≢◌, ℕ, ◌≤◌, ◌<◌, ◌-◌, get_or}
use Rattle.hl7_head.proofs.places.first_of.Given as goal

abbrev pub invariant-loop-end : goal.invariant-loop-end
invariant-loop-end l = record {
  behind : l.part.start ≤ l.end;
  within : l.end ≤ l.part.end;
  none : (k : ℕ) → l.part.start ≤ k → k < l.end → get_or l.text k 0 ≢ l.one;
  nor : (k : ℕ) → l.part.start ≤ k → k < l.end → get_or l.text k 0 ≢ l.other;
}

abbrev pub decreases-loop-end : goal.decreases-loop-end
decreases-loop-end l = l.part.end - l.end
