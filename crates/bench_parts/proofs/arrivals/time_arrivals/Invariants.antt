use Rattle.std.proofs.Common.{length}
use Rattle.event_log.specs.Counting.{counted}
use Rattle.event_log.specs.History.{next_place, plan_in_force}
use Rattle.bench_parts.proofs.arrivals.time_arrivals.Given as goal

abbrev pub ghosts-time_calls-A-Sharing : goal.ghosts-time_calls-A-Sharing
ghosts-time_calls-A-Sharing g a = record { opening = a.book; counts = counted a.book; first = next_place a.book; channels = length (plan_in_force a.book).channels; desks = 1; stations = 0; committed = λ _. ⊥ }

abbrev pub ghosts-time_calls-A-Naming : goal.ghosts-time_calls-A-Naming
ghosts-time_calls-A-Naming g a = record { table = a.log.table.shared.table_id }
