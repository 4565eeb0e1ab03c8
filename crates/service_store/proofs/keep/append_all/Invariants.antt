use Rattle.std.proofs.Common.{◌≡◌, ◌≤◌, ◌++◌, map, take}
use Rattle.std.specs.List.{AllByRecursion}
use Rattle.sqlite_trees.specs.View.{IsClean, doubt}
use Rattle.event_records.specs.inner.Encoding.{encoding}
use Rattle.event_records.specs.inner.Fields.{Fits}
use Rattle.service_store.specs.inner.Starting.{bodies_in}
use Rattle.service_store.proofs.keep.append_all.Given as goal

abbrev pub invariant-loop-item : goal.invariant-loop-item
invariant-loop-item g l = record {
  added : IsClean (g.S.Store.view l.events.store)
      → bodies_in (g.S.Store.view l.events.store).trees ≡ bodies_in (g.S.Store.view l.fn.events.store).trees ++ map encoding (take l.item-index l.items);
  fits : AllByRecursion Fits (take l.item-index l.items);
  clean : doubt (g.S.Store.view l.fn.events.store).is_clean ≤ doubt (g.S.Store.view l.events.store).is_clean;
  first : l.events.first ≡ l.fn.events.first;
}
