use Rattle.std.proofs.Common.{◌≡◌, ◌++◌, List, ℕ, map, arith, refl, sym, subst, ◌∙◌}
use Rattle.std.specs.List.{AllByRecursion}
use Rattle.std.proofs.lemmas.List.{append-nil, take_all}
use Rattle.sqlite_trees.specs.View.{IsClean}
use Rattle.event_records.specs.declared.record.Record.{Record}
use Rattle.event_records.specs.inner.Encoding.{encoding}
use Rattle.event_records.specs.inner.Fields.{Fits}
use Rattle.service_store.specs.inner.Starting.{bodies_in}
use Rattle.service_store.proofs.Behind.{added_next, fits_next}
use Rattle.service_store.proofs.keep.append_all.Goals as goal

pub loop-item-init : goal.loop-item-init
loop-item-init g c = record {
  added = λ _. sym (append-nil (bodies_in (g.S.Store.view c.args.events.now.store).trees));
  fits = tt;
  clean = omega arith;
  first = refl;
}

pub loop-item-preserved : goal.loop-item-preserved
loop-item-preserved g c =
    let i = c.loop-item.item-index in
    let items = c.args.items.now in
    let item = c.item-item.result in
    let first = g.S.Store.view c.args.events.now.store in
    let mid = g.S.Store.view c.loop-item.events.store in
    let last = g.S.Store.view c.append_record.new.events.store in
    let before = c.loop-item.invariant in
    record {
      added = λ (clean : IsClean last). added_next (bodies_in first.trees) (bodies_in mid.trees) (bodies_in last.trees) items i item c.loop-item-test.true
          c.item-item.is (before.added (omega (arith, clean, c.append_record.ensures.clean))) (c.in_ok-append_record.ensures.added clean);
      fits = fits_next items i item c.loop-item-test.true c.item-item.is before.fits c.in_ok-append_record.ensures.fits;
      clean = omega (arith, before.clean, c.append_record.ensures.clean);
      first = c.append_record.ensures.first ∙ before.first;
    }

pub returns-clause-added : goal.returns-clause-added
returns-clause-added g c clean =
    let first = g.S.Store.view c.args.events.now.store in
    let last = g.S.Store.view c.loop-item.events.store in
    subst (λ (l : List Record). bodies_in last.trees ≡ bodies_in first.trees ++ map encoding l)
    (take_all c.loop-item.item-index c.args.items.now c.loop-item-test.false) (c.loop-item.invariant.added clean)

pub returns-clause-fits : goal.returns-clause-fits
returns-clause-fits g c =
    subst (AllByRecursion Fits) (take_all c.loop-item.item-index c.args.items.now c.loop-item-test.false) c.loop-item.invariant.fits
