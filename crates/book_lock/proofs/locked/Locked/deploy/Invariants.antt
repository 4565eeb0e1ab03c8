use Rattle.std.proofs.Common.{[], ◌∷◌}
use Rattle.std.specs.Arc.{arc_value}
use Rattle.event_log.specs.declared.entry.Entry.TheVariants.{Deploy}
use Rattle.book_lock.specs.declared.log_entry.LogEntry.TheVariants.{Booked}
use Rattle.book_lock.proofs.locked.Locked.deploy.Given as goal

-- the deployment
abbrev pub ghosts-push : goal.ghosts-push
ghosts-push g a = record { entries = Booked (Deploy (arc_value a.about.now)) ∷ [] }
