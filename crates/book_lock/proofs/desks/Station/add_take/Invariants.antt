use Rattle.std.proofs.Common.{[], ◌∷◌}
use Rattle.book_lock.specs.inner.Counts.{take_entry}
use Rattle.book_lock.proofs.desks.Station.add_take.Given as goal

-- the take with its ticket
abbrev pub ghosts-push : goal.ghosts-push
ghosts-push g a = record { entries = take_entry a.about.now.0 a.about.now.1 ∷ [] }
