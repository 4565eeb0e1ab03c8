use Rattle.std.proofs.Common.{length}
use Rattle.event_log.specs.Counting.{counted}
use Rattle.event_log.specs.History.{next_place, plan_in_force}
use Rattle.book_lock_tests.proofs.threads.comes_out.Given as goal

abbrev pub ghosts-cancel_and_deliver-A-Sharing : goal.ghosts-cancel_and_deliver-A-Sharing
ghosts-cancel_and_deliver-A-Sharing g a = record { opening = a.book; counts = counted a.book; first = next_place a.book; channels = length (plan_in_force a.book).channels; desks = 0; stations = 1; committed = λ _. ⊥ }

abbrev pub ghosts-cancel_and_deliver-A-Naming : goal.ghosts-cancel_and_deliver-A-Naming
ghosts-cancel_and_deliver-A-Naming g a = record { table = a.log.table.shared.table_id }
