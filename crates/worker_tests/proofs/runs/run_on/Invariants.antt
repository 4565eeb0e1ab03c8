use Rattle.std.proofs.Common.{length}
use Rattle.event_log.specs.Counting.{counted}
use Rattle.event_log.specs.History.{next_place, plan_in_force}
use Rattle.worker_tests.proofs.runs.run_on.Given as goal

abbrev pub ghosts-run-A-Sharing : goal.ghosts-run-A-Sharing
ghosts-run-A-Sharing g a = record { opening = a.book; counts = counted a.book; first = next_place a.book; channels = length (plan_in_force a.book).channels; desks = 2; stations = 2; committed = λ _. ⊥ }

abbrev pub ghosts-run-A-Naming : goal.ghosts-run-A-Naming
ghosts-run-A-Naming g a = record { table = a.log.table.shared.table_id }
