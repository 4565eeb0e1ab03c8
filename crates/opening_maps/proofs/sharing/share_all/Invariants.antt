use Rattle.std.proofs.Common.{◌≡◌, take}
use Rattle.opening_maps.proofs.sharing.share_all.Given as goal

abbrev pub invariant-loop-arrival : goal.invariant-loop-arrival
invariant-loop-arrival l = l.shared.items ≡ take l.arrival-index l.arrivals
