use Rattle.std.proofs.Common.{◌≡◌, drop}
use Rattle.std.specs.List.{filter_map}
use Rattle.event_log.specs.inner.History.{number_of}
use Rattle.book_resume.specs.inner.Order.{follow_from}
use Rattle.book_resume.proofs.order.are_numbered_from.Given as goal

abbrev pub invariant-loop-arrival : goal.invariant-loop-arrival
invariant-loop-arrival l = follow_from l.next (filter_map number_of (drop l.arrival-index l.arrivals)) ≡ follow_from l.first (filter_map number_of l.arrivals)
