use Rattle.std.proofs.Common.{◌≡◌, take}
use Rattle.judge_core.specs.Delivering.{destinations_of}
use Rattle.dest_queue.specs.declared.SlotState.TheVariants.{Waiting}
use Rattle.dest_queue.specs.inner.SlotsBy.{slots_by}
use Rattle.book_core.proofs.arrival.first_slots.Given as goal

abbrev pub invariant-loop-delivery : goal.invariant-loop-delivery
invariant-loop-delivery l = l.slots ≡ slots_by (λ _. Waiting 0 0) (destinations_of (take l.delivery-index l.deliveries))
