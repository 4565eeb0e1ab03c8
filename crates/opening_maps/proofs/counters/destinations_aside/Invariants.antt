use Rattle.std.proofs.Common.{◌≡◌, map, take}
use Rattle.opening_maps.specs.inner.SetAside.{destination_aside}
use Rattle.opening_maps.proofs.counters.destinations_aside.Given as goal

abbrev pub invariant-loop-counts : goal.invariant-loop-counts
invariant-loop-counts l = l.aside.items ≡ map (destination_aside l.arrivals) (take l.counts-index l.destinations)
