use Rattle.event_log.specs.History.{slot}
use Rattle.book_lock.proofs.Filling.{IsFilled}
use Rattle.store_questions.proofs.lookup.states_of.Given as goal

abbrev pub invariant-loop-d : goal.invariant-loop-d
invariant-loop-d g l = IsFilled (slot l.book l.number) l.d l.states
