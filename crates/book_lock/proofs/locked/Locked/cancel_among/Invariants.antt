use Rattle.std.proofs.Common.{[], ◌∷◌}
use Rattle.event_log.specs.declared.entry.Entry.TheVariants.{Cancel}
use Rattle.book_lock.specs.declared.log_entry.LogEntry.TheVariants.{Booked}
use Rattle.book_lock.proofs.locked.Locked.cancel_among.Given as goal

-- the cancellation with its masks
abbrev pub ghosts-push : goal.ghosts-push
ghosts-push g a = record { entries = Booked (Cancel a.about.now.0 a.about.now.1 a.about.now.2) ∷ [] }
