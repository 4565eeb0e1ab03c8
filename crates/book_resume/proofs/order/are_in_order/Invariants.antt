use Rattle.std.specs.Prelude.{All}
use Rattle.std.proofs.Common.{take}
use Rattle.book_resume.specs.inner.Order.{IsInOrder}
use Rattle.book_resume.proofs.order.are_in_order.Given as goal

abbrev pub invariant-loop-arrival : goal.invariant-loop-arrival
invariant-loop-arrival l = All (IsInOrder l.plan l.places) (take l.arrival-index l.arrivals)
