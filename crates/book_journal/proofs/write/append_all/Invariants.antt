use Rattle.std.proofs.Common.{◌≡◌, ◌≤◌, IsTrue, take}
use Rattle.sqlite_trees.specs.View.{IsClean, doubt}
use Rattle.event_store.specs.Records.{records_in}
use Rattle.book_journal.specs.inner.Rows.{Adds}
use Rattle.book_journal.proofs.write.append_all.Given as goal

abbrev pub invariant-loop-row : goal.invariant-loop-row
invariant-loop-row g l = record {
  added : IsClean (g.S.Store.view l.store.store) → Adds (records_in (g.S.Store.view l.fn.store.store).trees) (take l.row-index l.rows) (records_in (g.S.Store.view l.store.store).trees);
  committed : IsTrue (g.S.Store.view l.store.store).is_open → (g.S.Store.view l.store.store).committed ≡ (g.S.Store.view l.fn.store.store).committed;
  shut : IsTrue (g.S.Store.view l.store.store).is_open → IsTrue (g.S.Store.view l.fn.store.store).is_open;
  clean : doubt (g.S.Store.view l.fn.store.store).is_clean ≤ doubt (g.S.Store.view l.store.store).is_clean;
}
