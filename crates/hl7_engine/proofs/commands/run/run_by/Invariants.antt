use Rattle.std.proofs.Common.{length}
use Rattle.event_log.specs.Counting.{counted}
use Rattle.event_log.specs.History.{next_place, plan_in_force}
use Rattle.hl7_engine.proofs.commands.run.run_by.Given as goal

abbrev pub ghosts-work-A-Sharing : goal.ghosts-work-A-Sharing
ghosts-work-A-Sharing g a = record { opening = a.book; counts = counted a.book; first = next_place a.book; channels = length (plan_in_force a.book).channels; desks = a.connections; stations = length a.plan.now.destinations; committed = λ _. ⊥ }

abbrev pub ghosts-work-A-Naming : goal.ghosts-work-A-Naming
ghosts-work-A-Naming g a = record { table = a.log.table.shared.table_id }
