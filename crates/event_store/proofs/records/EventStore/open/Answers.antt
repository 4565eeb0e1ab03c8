use Rattle.std.proofs.Common.{◌+◌, arith}
use Rattle.sqlite_trees.specs.View.{IsClean}
use Rattle.event_store.specs.Records.{EndsBefore}
use Rattle.event_store.proofs.RecordLemmas.{opened_sees, opened_keeps, opened_leaves}
use Rattle.event_store.proofs.ReadLemmas.{same_count}
use Rattle.event_store.proofs.records.EventStore.open.Goals as goal

pub invariant_of-events : goal.invariant_of-events
invariant_of-events g c =
    let first = c.args.first in
    let given = g.S.Store.view c.args.store in
    let mid = g.S.Store.view c.rollback.new.self in
    let new = g.S.Store.view c.read.new.store in
    let shut = g.met.S.Store.broken_if_shut c.read.new.store in
    let dirty = g.met.S.Store.shut_if_dirty c.read.new.store in
    let read = c.in-Ok-Some.ensures in
    let next = first + c.len.result in
    let less = c.read.ensures.quiet.clean in
    let holds : IsClean new → EndsBefore first next mid.trees = λ (h : IsClean new).
    let ok = rw (c.in-Ok-Some.field-0-is) at (read.ok h) in
    (ok.0, omega (arith, same_count _ _ ok.1, c.len.ensures)) in
    let keeps = opened_keeps first mid new less shut dirty given next c.rollback.ensures.undone read.same holds in
    record {
      sees = opened_sees first mid new less shut dirty next read.same holds;
      keeps = keeps;
      leaves = opened_leaves first mid new less shut dirty (g.S.Store.recovers c.read.new.store) next (g.met.S.Store.settled c.read.new.store) keeps read.sound read.same;
    }
