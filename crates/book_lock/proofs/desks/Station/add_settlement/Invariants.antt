use Rattle.std.proofs.Common.{[], ◌∷◌}
use Rattle.book_lock.specs.inner.Counts.{settlement_entry}
use Rattle.book_lock.proofs.desks.Station.add_settlement.Given as goal

-- the settlement with the slot's new state
abbrev pub ghosts-push : goal.ghosts-push
ghosts-push g a = record { entries = settlement_entry a.about.now.0 a.about.now.1 a.about.now.2 a.about.now.3 ∷ [] }
