use Rattle.std.proofs.Common.{◌≡◌, ◌<◌, ◌==◌, ℕ, take}
use Rattle.std.specs.Int.{bit_at}
use Rattle.event_log.specs.History.{names}
use Rattle.book_core.proofs.arrival.mask_of.Given as goal

abbrev pub invariant-loop-delivery : goal.invariant-loop-delivery
invariant-loop-delivery l = (d : ℕ) → d < 32 → (bit_at l.mask d == 1) ≡ names d (take l.delivery-index l.deliveries)
