use Rattle.std.proofs.Common.{List, map, take, sym, subst, ◌+◌}
use Rattle.book_lock.specs.Journal.{change_copied}
use Rattle.book_journal.specs.inner.Rows.{AreReady}
use Rattle.book_journal.specs.declared.row.Row.{Row}
use Rattle.book_journal.proofs.Rows.{found_at, ready_next}
use Rattle.book_journal.proofs.write.rows_of.Goals as goal

pub loop-change-preserved : goal.loop-change-preserved
loop-change-preserved c =
    let i = c.loop-change.change-index in
    let changes = c.args.changes.now in
    let change = c.change-item.result in
    let found = found_at changes i change c.loop-change-test.true c.change-item.is in
    subst (λ (l : List Row). AreReady l (map change_copied (take (i + 1) changes))) (sym c.in_ok-push.ensures.items)
    (ready_next c.loop-change.rows.items changes i c.in_ok-row.row change found c.loop-change.invariant c.in_ok-row.ensures)
