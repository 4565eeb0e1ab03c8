use Rattle.std.proofs.Common.{◌≡◌, ◌≤◌, ◌*◌, take}
use Rattle.std.specs.Prelude.{sum_by}
use Rattle.stat_count.specs.declared.DestinationCounts.{DestinationCounts}
use Rattle.book_lock.proofs.sums.takes.Given as goal

abbrev pub invariant-loop-d : goal.invariant-loop-d
invariant-loop-d l = (l.sum ≡ sum_by (λ (counts : DestinationCounts). counts.attempts) (take l.d l.counts.destinations)) × (l.sum ≤ l.d * 36893488147419103232)
