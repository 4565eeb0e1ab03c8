-- What a settlement leaves can be kept.
use Rattle.std.proofs.Common.{ℕ, ◌+◌, ◌<◌, Bool, true, false, cond, ◌==◌}
use Rattle.dest_queue.specs.declared.FailCause.TheVariants.{Exhausted}
use Rattle.dest_queue.specs.declared.Outcome.{Outcome}
use Rattle.dest_queue.specs.declared.Outcome.TheVariants as outcomes
use Rattle.dest_queue.specs.declared.SlotState.TheVariants.{Waiting, Failed}
use Rattle.dest_queue.specs.States.{state_after}
use Rattle.dest_queue.specs.inner.Kept.{IsKeepable}

-- where there is room for the attempt and for the moment of a retry
pub after-keepable : (outcome : Outcome) (attempt now max interval : ℕ) → attempt < 256 → now + interval < 281474976710656
    → IsKeepable (state_after outcome attempt now max interval)
after-keepable outcomes.Delivered attempt now max interval few near = tt
after-keepable outcomes.Again attempt now max interval few near = by (attempt == max)
  where
    by : (last : Bool) → IsKeepable (cond last (Failed Exhausted) (Waiting attempt (now + interval)))
    by true = tt
    by false = (few, near)
after-keepable outcomes.Rejected attempt now max interval few near = tt
