use Rattle.std.proofs.Common.{List, arith, refl, subst, ◌∙◌}
use Rattle.std.proofs.lemmas.List.{take_all}
use Rattle.sqlite_trees.specs.View.{IsClean}
use Rattle.event_store.specs.Records.{records_in}
use Rattle.book_journal.specs.inner.Rows.{Adds}
use Rattle.book_journal.specs.declared.row.Row.{Row}
use Rattle.book_journal.proofs.Rows.{adds_next, adds_none, found_at}
use Rattle.book_journal.proofs.write.append_all.Goals as goal

pub loop-row-init : goal.loop-row-init
loop-row-init g c = record {
  added = λ _. adds_none (records_in (g.S.Store.view c.args.store.now.store).trees);
  committed = λ _. refl;
  shut = λ is_open. is_open;
  clean = omega arith;
}

pub loop-row-preserved : goal.loop-row-preserved
loop-row-preserved g c =
    let i = c.loop-row.row-index in
    let rows = c.args.rows.now in
    let row = c.row-item.result in
    let first = g.S.Store.view c.args.store.now.store in
    let mid = g.S.Store.view c.loop-row.store.store in
    let last = g.S.Store.view c.append.new.store.store in
    let found = found_at rows i row c.loop-row-test.true c.row-item.is in
    let before = c.loop-row.invariant in
    record {
      added = λ (clean : IsClean last). adds_next (records_in first.trees) (records_in mid.trees) (records_in last.trees) rows i row found
          (before.added (omega (arith, clean, c.append.ensures.clean))) (c.in_ok-append.ensures.added clean);
      committed = λ is_open. c.append.ensures.committed is_open ∙ before.committed (c.append.ensures.shut is_open);
      shut = λ is_open. before.shut (c.append.ensures.shut is_open);
      clean = omega (arith, before.clean, c.append.ensures.clean);
    }

pub returns-clause-added : goal.returns-clause-added
returns-clause-added g c clean =
    let first = g.S.Store.view c.args.store.now.store in
    let last = g.S.Store.view c.loop-row.store.store in
    subst (λ (l : List Row). Adds (records_in first.trees) l (records_in last.trees)) (take_all c.loop-row.row-index c.args.rows.now c.loop-row-test.false)
    (c.loop-row.invariant.added clean)
