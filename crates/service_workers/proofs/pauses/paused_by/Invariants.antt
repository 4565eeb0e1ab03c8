use Rattle.service_workers.specs.inner.Pauses.{pauses_at}
use Rattle.service_workers.proofs.Masks.{IsMask}
use Rattle.service_workers.proofs.pauses.paused_by.Given as goal

abbrev pub invariant-loop-index : goal.invariant-loop-index
invariant-loop-index l = IsMask (pauses_at l.plan l.status l.keep l.before) l.index l.mask
