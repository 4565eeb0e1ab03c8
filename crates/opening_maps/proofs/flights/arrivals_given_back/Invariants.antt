use Rattle.std.proofs.Common.{◌≡◌, map, take}
use Rattle.opening_maps.specs.inner.GivenBack.{arrival_given_back}
use Rattle.opening_maps.proofs.flights.arrivals_given_back.Given as goal

abbrev pub invariant-loop-arrival : goal.invariant-loop-arrival
invariant-loop-arrival l = l.back.items ≡ map arrival_given_back (take l.arrival-index l.arrivals)
