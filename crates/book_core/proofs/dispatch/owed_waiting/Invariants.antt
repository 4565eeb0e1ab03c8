use Rattle.dest_queue.specs.Slots.{state_at}
use Rattle.book_core.proofs.Waiting.{SoFar}
use Rattle.book_core.proofs.dispatch.owed_waiting.Given as goal

abbrev pub invariant-loop-d : goal.invariant-loop-d
invariant-loop-d l = SoFar l.plan l.among (λ d. state_at d l.slots) l.owed l.d
