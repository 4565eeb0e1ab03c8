-- What proofs use beside the page Folding.
use Rattle.std.specs.Prelude.{ℕ}
use Rattle.event_log.specs.declared.refusal.PruneRefusal.{PruneRefusal}
use Rattle.event_log.specs.declared.refusal.PruneRefusal.TheVariants.{NoSuchMessage, StillLive, TooMany}
use Rattle.event_log.specs.declared.refusal.PruneRefusal.TheVariants as prune_refusal

-- ---- whether a history is pruned

-- the number of a refusal to prune
abbrev pub prune_refusal_code : PruneRefusal → ℕ
prune_refusal_code (StillLive number) = 1
prune_refusal_code NoSuchMessage = 2
prune_refusal_code TooMany = 3
prune_refusal_code prune_refusal.NoMemory = 4
