use Rattle.std.proofs.Common.{List, map, subst, sym}
use Rattle.book_lock.specs.Journal.{change_copied}
use Rattle.book_journal.specs.inner.Rows.{AreReady}
use Rattle.book_journal.specs.declared.row.Row.{Row}
use Rattle.book_journal.proofs.write.write_all.Goals as goal

pub returns-in-Ok-clause-seen : goal.returns-in-Ok-clause-seen
returns-in-Ok-clause-seen g c clean =
    let changes = map change_copied c.args.changes.now.items in
    (c.in-Ok.ensures.seen clean).each changes (subst (λ (l : List Row). AreReady l changes) (sym c.as_slice.ensures.value) c.requires.ready)

pub returns-in-Ok-clause-left : goal.returns-in-Ok-clause-left
returns-in-Ok-clause-left g c clean db left =
    let changes = map change_copied c.args.changes.now.items in
    (c.in-Ok.ensures.left clean db left).each changes (subst (λ (l : List Row). AreReady l changes) (sym c.as_slice.ensures.value) c.requires.ready)
