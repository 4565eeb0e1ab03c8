-- Which prunings the command `prune` makes.
use Rattle.std.specs.Prelude.{ℕ, Option, Some, None, ◌-◌, ◌/◌, ◌&&◌, if◌then◌else◌, nat_lt, min, unwrap_or}
use Rattle.book_lock.specs.declared.status.Status.{Status}
use Rattle.service_workers.specs.declared.prunings.PruneRefusal.{PruneRefusal}
use Rattle.service_workers.specs.declared.prunings.PruneRefusal.TheVariants.{FewLeft, FreesLittle}

-- the messages that a pruning would forget: those before the first that is still to be delivered, but for the last `keep`
abbrev pub forgettable : ℕ → Status → ℕ
forgettable keep s = min (unwrap_or s.first_live s.gauge.messages) (s.gauge.messages - keep) - s.gauge.first

-- of the 1,000 prunings fewer than 100 are left; or neither entries nor messages are as many as a hundredth of the bound
abbrev pub prune_refusal : ℕ → Status → Option PruneRefusal
prune_refusal keep s =
    if nat_lt (1_000 - s.gauge.prunings) 100 then Some FewLeft
    else (if nat_lt s.gauge.held (s.gauge.events_max / 100) && nat_lt (forgettable keep s) (s.gauge.events_max / 100)
    then Some FreesLittle else None)
