use Rattle.std.specs.Prelude.{◌≡◌}
use Rattle.std.proofs.Common.{take}
use Rattle.book_resume.specs.inner.Counters.{with_remembered}
use Rattle.book_resume.proofs.counters.count_at.Given as goal

abbrev pub invariant-loop-arrival : goal.invariant-loop-arrival
invariant-loop-arrival l = l.counts ≡ with_remembered (take l.arrival-index l.arrivals) l.d l.fn.before
