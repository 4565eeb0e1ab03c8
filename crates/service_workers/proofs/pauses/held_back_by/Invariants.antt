use Rattle.service_workers.specs.inner.Pauses.{held_back_at}
use Rattle.service_workers.proofs.Masks.{IsMask}
use Rattle.service_workers.proofs.pauses.held_back_by.Given as goal

abbrev pub invariant-loop-index : goal.invariant-loop-index
invariant-loop-index l = IsMask (held_back_at l.plan l.status) l.index l.mask
