use Rattle.delivery_worker.specs.inner.Stream.{ReadsOn}
use Rattle.delivery_worker.proofs.connection.take_answers.Given as goal

-- the first events were read
abbrev pub invariant-answers : goal.invariant-answers
invariant-answers l = ReadsOn l.fn.framer l.framer l.fn.answers.items l.answers.items
