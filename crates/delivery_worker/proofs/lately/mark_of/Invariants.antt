use Rattle.std.proofs.Common.{◌≡◌, drop}
use Rattle.delivery_worker.specs.inner.Lately.{mark_after, mark_of}
use Rattle.delivery_worker.proofs.lately.mark_of.Given as goal

abbrev pub invariant-loop-byte : goal.invariant-loop-byte
invariant-loop-byte l = mark_after l.mark (drop l.byte-index l.id) ≡ mark_of l.id
