use Rattle.std.proofs.Common.{[], ◌∷◌}
use Rattle.book_lock.specs.declared.log_entry.LogEntry.TheVariants.{Durable}
use Rattle.book_lock.proofs.locked.Locked.publish_durable.Given as goal

-- what is durable
abbrev pub ghosts-push : goal.ghosts-push
ghosts-push g a = record { entries = Durable a.about.now ∷ [] }
