use Rattle.std.proofs.Common.{length}
use Rattle.event_log.specs.Counting.{counted}
use Rattle.event_log.specs.History.{next_place, plan_in_force}
use Rattle.refuse_worlds.proofs.share.play_on.Given as goal

abbrev pub ghosts-play_and_close-A-Sharing : goal.ghosts-play_and_close-A-Sharing
ghosts-play_and_close-A-Sharing g a = record { opening = a.book; counts = counted a.book; first = next_place a.book; channels = length (plan_in_force a.book).channels; desks = 1; stations = 1; committed = λ _. ⊥ }

abbrev pub ghosts-play_and_close-A-Naming : goal.ghosts-play_and_close-A-Naming
ghosts-play_and_close-A-Naming g a = record { table = a.log.table.shared.table_id }
