use Rattle.std.proofs.Common.{length}
use Rattle.event_log.specs.Counting.{counted}
use Rattle.event_log.specs.History.{next_place, plan_in_force}
use Rattle.service_run.proofs.service.run_in_memory.Given as goal

abbrev pub ghosts-serve-A-Sharing : goal.ghosts-serve-A-Sharing
ghosts-serve-A-Sharing g a = record { opening = a.book; counts = counted a.book; first = next_place a.book; channels = length (plan_in_force a.book).channels; desks = a.desks; stations = 32; committed = λ _. ⊥ }

abbrev pub ghosts-serve-A-Naming : goal.ghosts-serve-A-Naming
ghosts-serve-A-Naming g a = record { table = a.log.table.shared.table_id }
