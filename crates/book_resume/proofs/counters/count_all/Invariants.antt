use Rattle.std.specs.Prelude.{◌≡◌, map}
use Rattle.std.specs.List.{range_with_len}
use Rattle.stat_count.specs.Statistics.{destination_at}
use Rattle.book_resume.specs.inner.Counters.{with_remembered}
use Rattle.book_resume.proofs.counters.count_all.Given as goal

abbrev pub invariant-loop-d : goal.invariant-loop-d
invariant-loop-d l = l.counts.items ≡ map (λ d. with_remembered l.opening.remembered d (destination_at d l.opening.forgotten)) (range_with_len 0 l.d)
