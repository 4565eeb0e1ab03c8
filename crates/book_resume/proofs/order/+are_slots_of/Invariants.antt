use Rattle.std.proofs.Common.{length}
use Rattle.book_resume.proofs.order.+are_slots_of.Given as goal

abbrev pub decreases-are_slots_of : goal.decreases-are_slots_of
decreases-are_slots_of l = length l.slots.now
