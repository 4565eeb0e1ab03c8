use Rattle.std.proofs.Common.{length}
use Rattle.event_log.specs.Counting.{counted}
use Rattle.event_log.specs.History.{next_place, plan_in_force}
use Rattle.event_store.specs.Records.{records_in}
use Rattle.store_tests.proofs.journals.kept_for_a_day.Given as goal

abbrev pub ghosts-journaled-A-Sharing : goal.ghosts-journaled-A-Sharing
ghosts-journaled-A-Sharing g a = record { opening = a.book; counts = counted a.book; first = next_place a.book; channels = length (plan_in_force a.book).channels; desks = 2; stations = 1; committed = λ _. Unit {0} }

abbrev pub ghosts-journaled-A-Naming : goal.ghosts-journaled-A-Naming
ghosts-journaled-A-Naming g a = record { table = a.log.table.shared.table_id }

abbrev pub ghosts-journaled-A-Journaling : goal.ghosts-journaled-A-Journaling
ghosts-journaled-A-Journaling g a = record { before = records_in (g.S.Store.view a.events.store).trees }
