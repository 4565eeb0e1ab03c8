use Rattle.std.proofs.Common.{◌≡◌}
use Rattle.book_core.specs.inner.Questions.{front_at}
use Rattle.book_lock.proofs.Filling.{IsFilled}
use Rattle.book_lock.proofs.locked.Locked.fronts.Given as goal

abbrev pub invariant-loop-d : goal.invariant-loop-d
invariant-loop-d g l = (l.self ≡ l.initial.self) × IsFilled (front_at l.initial.self.book) l.d l.fronts
