use Rattle.std.proofs.Common.{◌≡◌, map, take}
use Rattle.opening_maps.specs.inner.GivenBack.{slot_given_back}
use Rattle.opening_maps.proofs.flights.slots_given_back.Given as goal

abbrev pub invariant-loop-slot : goal.invariant-loop-slot
invariant-loop-slot l = l.back ≡ map slot_given_back (take l.slot-index l.slot-items)
