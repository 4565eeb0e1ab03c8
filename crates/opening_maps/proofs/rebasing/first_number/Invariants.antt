use Rattle.std.proofs.Common.{◌≡◌, drop}
use Rattle.std.specs.List.{filter_map}
use Rattle.event_log.specs.inner.History.{number_of}
use Rattle.opening_maps.specs.inner.Rebased.{first_or}
use Rattle.opening_maps.proofs.rebasing.first_number.Given as goal

abbrev pub invariant-loop-arrival : goal.invariant-loop-arrival
invariant-loop-arrival l =
    first_or l.opening.messages (filter_map number_of (drop l.arrival-index l.arrival-items)) ≡ first_or l.opening.messages (filter_map number_of l.arrival-items)
