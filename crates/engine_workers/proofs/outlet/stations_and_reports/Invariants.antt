use Rattle.std.proofs.Common.{◌≡◌, map}
use Rattle.std.specs.List.{filter_map}
use Rattle.engine_workers.proofs.outlet.stations_and_reports.Given as goal

abbrev pub invariant-loop-outlet : goal.invariant-loop-outlet
invariant-loop-outlet g l =
    (goal.iterator-loop-outlet g).can_next l.outlet-iterator
    × (goal.iterator-loop-outlet g).is_finite l.outlet-iterator
    × (l.stations.items ≡ map (λ o. o.station) l.yielded)
    × (l.reports.items ≡ filter_map (λ o. o.report) l.yielded)
