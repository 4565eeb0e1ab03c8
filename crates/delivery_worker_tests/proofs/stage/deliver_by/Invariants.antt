use Rattle.std.proofs.Common.{length}
use Rattle.event_log.specs.Counting.{counted}
use Rattle.event_log.specs.History.{next_place, plan_in_force}
use Rattle.delivery_worker_tests.proofs.stage.deliver_by.Given as goal

abbrev pub ghosts-deliver_and_close-A-Sharing : goal.ghosts-deliver_and_close-A-Sharing
ghosts-deliver_and_close-A-Sharing g a = record { opening = a.book; counts = counted a.book; first = next_place a.book; channels = length (plan_in_force a.book).channels; desks = 0; stations = 1; committed = λ _. ⊥ }

abbrev pub ghosts-deliver_and_close-A-Naming : goal.ghosts-deliver_and_close-A-Naming
ghosts-deliver_and_close-A-Naming g a = record { table = a.log.table.shared.table_id }
