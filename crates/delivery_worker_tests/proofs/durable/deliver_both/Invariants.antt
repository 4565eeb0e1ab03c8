use Rattle.std.proofs.Common.{length}
use Rattle.event_log.specs.Counting.{counted}
use Rattle.event_log.specs.History.{next_place, plan_in_force}
use Rattle.delivery_worker_tests.proofs.durable.deliver_both.Given as goal

abbrev pub ghosts-deliver_two-A-Sharing : goal.ghosts-deliver_two-A-Sharing
ghosts-deliver_two-A-Sharing g a = record { opening = a.book; counts = counted a.book; first = next_place a.book; channels = length (plan_in_force a.book).channels; desks = 1; stations = 1; committed = λ _. ⊥ }

abbrev pub ghosts-deliver_two-A-Naming : goal.ghosts-deliver_two-A-Naming
ghosts-deliver_two-A-Naming g a = record { table = a.log.table.shared.table_id }
