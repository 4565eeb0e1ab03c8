use Rattle.service_workers.specs.inner.Held.{is_held_at}
use Rattle.service_workers.proofs.Masks.{IsMask}
use Rattle.service_workers.proofs.held.mask_of.Given as goal

abbrev pub invariant-loop-index : goal.invariant-loop-index
invariant-loop-index l = IsMask (is_held_at l.names l.plan) l.index l.mask
