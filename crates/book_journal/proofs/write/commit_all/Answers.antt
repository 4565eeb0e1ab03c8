use Rattle.std.proofs.Common.{List, arith, subst, sym}
use Rattle.sqlite_trees.specs.Tree.{Trees}
use Rattle.event_store.specs.Records.{Record, records_in}
use Rattle.book_journal.specs.inner.Rows.{Adds}
use Rattle.book_journal.proofs.write.commit_all.Goals as goal

pub returns-clause-seen : goal.returns-clause-seen
returns-clause-seen g c clean =
    let first = records_in (g.S.Store.view c.args.store.now.store).trees in
    let rows = c.args.rows.now in
    subst (λ (t : Trees). Adds first rows (records_in t)) (sym (c.in_ok-commit.ensures.seen clean))
    (c.in_ok-append_all.ensures.added (omega (arith, clean, c.commit.ensures.clean)))

pub returns-clause-left : goal.returns-clause-left
returns-clause-left g c clean db left =
    let first = records_in (g.S.Store.view c.args.store.now.store).trees in
    let rows = c.args.rows.now in
    subst (λ (l : List Record). Adds first rows l) (sym (c.in_ok-commit.ensures.durable clean db left))
    (c.in_ok-append_all.ensures.added (omega (arith, clean, c.commit.ensures.clean)))
