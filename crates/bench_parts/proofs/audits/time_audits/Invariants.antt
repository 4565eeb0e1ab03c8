use Rattle.std.proofs.Common.{length}
use Rattle.event_log.specs.Counting.{counted}
use Rattle.event_log.specs.History.{next_place, plan_in_force}
use Rattle.bench_parts.proofs.audits.time_audits.Given as goal

abbrev pub ghosts-booked_and_closed-A-Sharing : goal.ghosts-booked_and_closed-A-Sharing
ghosts-booked_and_closed-A-Sharing g a = record { opening = a.book; counts = counted a.book; first = next_place a.book; channels = length (plan_in_force a.book).channels; desks = 1; stations = 0; committed = λ _. ⊥ }

abbrev pub ghosts-booked_and_closed-A-Naming : goal.ghosts-booked_and_closed-A-Naming
ghosts-booked_and_closed-A-Naming g a = record { table = a.log.table.shared.table_id }
