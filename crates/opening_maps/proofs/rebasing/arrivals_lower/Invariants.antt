use Rattle.std.proofs.Common.{◌≡◌, map, take}
use Rattle.opening_maps.specs.inner.Rebased.{arrival_lower}
use Rattle.opening_maps.proofs.rebasing.arrivals_lower.Given as goal

abbrev pub invariant-loop-arrival : goal.invariant-loop-arrival
invariant-loop-arrival l = l.lower.items ≡ map (arrival_lower l.by) (take l.arrival-index l.arrivals)
