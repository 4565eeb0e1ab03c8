use Rattle.std.proofs.Common.{◌≡◌, map}
use Rattle.service_workers.proofs.ending.stations_of.Given as goal

abbrev pub invariant-loop-post : goal.invariant-loop-post
invariant-loop-post g l =
    (goal.iterator-loop-post g).can_next l.post-iterator
    × (goal.iterator-loop-post g).is_finite l.post-iterator
    × (l.stations.items ≡ map (λ p. p.station) l.yielded)
