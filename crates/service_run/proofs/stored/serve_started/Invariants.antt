use Rattle.std.proofs.Common.{length}
use Rattle.event_log.specs.Counting.{counted}
use Rattle.event_log.specs.History.{next_place, plan_in_force}
use Rattle.event_store.specs.Records.{records_in}
use Rattle.book_journal.specs.inner.Held.{AreHeld}
use Rattle.service_run.proofs.stored.serve_started.Given as goal

-- what is committed: some store held just these changes, behind the rows that were there at the start
abbrev pub ghosts-serve_stored-A-Sharing : goal.ghosts-serve_stored-A-Sharing
ghosts-serve_stored-A-Sharing g a =
    let book = a.beginning.book in
    let before = records_in (g.S.Store.view a.beginning.store.store).trees in
    record {
      opening = book;
      counts = counted book;
      first = next_place book;
      channels = length (plan_in_force book).channels;
      desks = a.desks;
      stations = 32;
      committed = λ changes. (store : g.row.S.Denot) × AreHeld (g.S.Store.view store) (g.S.Store.recovers store) before changes;
    }

abbrev pub ghosts-serve_stored-A-Naming : goal.ghosts-serve_stored-A-Naming
ghosts-serve_stored-A-Naming g a = record { table = a.log.table.shared.table_id }

abbrev pub ghosts-serve_stored-A-Journaling : goal.ghosts-serve_stored-A-Journaling
ghosts-serve_stored-A-Journaling g a = record { before = records_in (g.S.Store.view a.beginning.store.store).trees }
