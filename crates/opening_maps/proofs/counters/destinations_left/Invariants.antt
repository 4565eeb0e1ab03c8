use Rattle.std.proofs.Common.{◌≡◌, map, take}
use Rattle.opening_maps.specs.inner.SetAside.{destination_left}
use Rattle.opening_maps.proofs.counters.destinations_left.Given as goal

abbrev pub invariant-loop-counts : goal.invariant-loop-counts
invariant-loop-counts l = l.left.items ≡ map (destination_left l.arrivals) (take l.counts-index l.destinations)
