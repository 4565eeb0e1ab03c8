use Rattle.book_resume.specs.inner.Rows.{lives_at}
use Rattle.book_resume.proofs.MaskBits.{HasBelow}
use Rattle.book_resume.proofs.arrivals.queues_of.Given as goal

abbrev pub invariant-loop-d : goal.invariant-loop-d
invariant-loop-d l = HasBelow (λ e. lives_at e l.slots) l.d l.mask
