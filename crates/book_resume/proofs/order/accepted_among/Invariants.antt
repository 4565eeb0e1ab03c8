use Rattle.std.proofs.Common.{◌≡◌, ◌≤◌, length, ◌+◌, drop}
use Rattle.std.specs.List.{filter_map}
use Rattle.event_log.specs.inner.History.{number_of}
use Rattle.book_resume.proofs.order.accepted_among.Given as goal

abbrev pub invariant-loop-arrival : goal.invariant-loop-arrival
invariant-loop-arrival l = (l.count + length (filter_map number_of (drop l.arrival-index l.arrivals)) ≡ length (filter_map number_of l.arrivals)) × (l.count ≤ l.arrival-index)
