use Rattle.std.proofs.Common.{[], ◌∷◌}
use Rattle.book_lock.specs.inner.Counts.{arrival_entry}
use Rattle.book_lock.proofs.desks.Desk.add_arrival.Given as goal

-- the arrival with its answer
abbrev pub ghosts-push : goal.ghosts-push
ghosts-push g a = record { entries = arrival_entry a.about.now ∷ [] }
