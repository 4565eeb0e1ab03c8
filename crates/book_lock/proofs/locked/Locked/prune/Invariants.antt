use Rattle.std.proofs.Common.{[], ◌∷◌}
use Rattle.book_lock.specs.declared.log_entry.LogEntry.TheVariants.{Pruned}
use Rattle.book_lock.proofs.locked.Locked.prune.Given as goal

-- the pruning
abbrev pub ghosts-push : goal.ghosts-push
ghosts-push g a = record { entries = Pruned a.about.now ∷ [] }
