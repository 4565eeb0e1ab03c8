use Rattle.service_answers.specs.inner.Live.{waits_at}
use Rattle.service_answers.proofs.Masks.{IsMask}
use Rattle.service_answers.proofs.live.waiting_at.Given as goal

abbrev pub invariant-loop-destination : goal.invariant-loop-destination
invariant-loop-destination l = IsMask (waits_at l.found) l.destination l.mask
