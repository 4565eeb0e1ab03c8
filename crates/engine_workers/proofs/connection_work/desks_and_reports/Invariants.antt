use Rattle.std.proofs.Common.{◌≡◌, map}
use Rattle.std.specs.List.{filter_map}
use Rattle.engine_workers.proofs.connection_work.desks_and_reports.Given as goal

abbrev pub invariant-loop-work : goal.invariant-loop-work
invariant-loop-work g l =
    (goal.iterator-loop-work g).can_next l.work-iterator
    × (goal.iterator-loop-work g).is_finite l.work-iterator
    × (l.desks.items ≡ map (λ s. s.desk) l.yielded)
    × (l.reports.items ≡ filter_map (λ s. s.report) l.yielded)
