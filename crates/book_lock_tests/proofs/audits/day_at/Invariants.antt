use Rattle.std.proofs.Common.{length}
use Rattle.event_log.specs.Counting.{counted}
use Rattle.event_log.specs.History.{next_place, plan_in_force}
use Rattle.book_lock_tests.proofs.audits.day_at.Given as goal

abbrev pub ghosts-end_day-A-Sharing : goal.ghosts-end_day-A-Sharing
ghosts-end_day-A-Sharing g a = record { opening = a.book; counts = counted a.book; first = next_place a.book; channels = length (plan_in_force a.book).channels; desks = 2; stations = 1; committed = λ _. ⊥ }

abbrev pub ghosts-end_day-A-Naming : goal.ghosts-end_day-A-Naming
ghosts-end_day-A-Naming g a = record { table = a.log.table.shared.table_id }
