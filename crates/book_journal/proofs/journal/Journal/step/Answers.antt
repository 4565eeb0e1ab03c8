use Rattle.std.proofs.Common.{◌≡◌, false, true, Bool, List, [], length, refl, sym, subst, rules}
use Rattle.std.specs.Option.{is_some}
use Rattle.book_lock.specs.declared.copied.Copied.{Copied}
use Rattle.book_lock.specs.Durable.{changes_of}
use Rattle.book_lock.specs.Shares.{DeskView}
use Rattle.book_journal.specs.inner.Held.{AreHeld}
use Rattle.book_journal.specs.inner.Order.{IsInOrder}
use Rattle.book_journal.proofs.Steps.{held_all, in_order_after, in_order_copied, in_order_without_room}
use Rattle.book_journal.proofs.journal.Journal.step.Goals as goal

pub returns-then-is_empty-clause-held : goal.returns-then-is_empty-clause-held
returns-then-is_empty-clause-held g c =
    let store = c.self.inside.store.store in
    let new = c.copy_more.new in
    let failed = is_some c.self.inside.failure in
    let order = in_order_copied g.A.Sharing.opening g.A.Journaling.before (g.S.Store.view store) (g.S.Store.recovers store) c.self.inside.reader.seat new.reader.seat c.self.inside.unwritten.items new.unwritten.items failed c.self.inside.found_no_room
    c.self.invariant c.in_ok-copy_more.ensures.copied in
    let sound : failed ≡ false = search rules in
    let none : length new.unwritten.items ≡ 0 = search rules in
    held_all g.A.Sharing.opening g.A.Journaling.before (g.S.Store.view store) (g.S.Store.recovers store) new.reader.seat.seen new.unwritten.items failed c.self.inside.found_no_room order sound none

pub invariant_of-self-in_err-batch : goal.invariant_of-self-in_err-batch
invariant_of-self-in_err-batch g c =
    let store = c.self.inside.store.store in
    let new = c.copy_more.new in
    in_order_copied g.A.Sharing.opening g.A.Journaling.before (g.S.Store.view store) (g.S.Store.recovers store) c.self.inside.reader.seat new.reader.seat c.self.inside.unwritten.items new.unwritten.items (is_some c.self.inside.failure) c.self.inside.found_no_room
    c.self.invariant c.in_ok-copy_more.ensures.copied

pub publish-requires-clause-held : goal.publish-requires-clause-held
publish-requires-clause-held g c =
    let opening = g.A.Sharing.opening in
    let before = g.A.Journaling.before in
    let old = c.self.inside.store.store in
    let store = c.write_all.new.store.store in
    let copied = c.copy_more.new in
    let failed = is_some c.self.inside.failure in
    let sound : failed ≡ false = search rules in
    let wrote = c.in-Ok.ensures in
    let order = in_order_after opening before (g.S.Store.view old) (g.S.Store.view store) (g.S.Store.recovers old) (g.S.Store.recovers store) c.self.inside.reader.seat copied.reader.seat c.self.inside.unwritten.items copied.unwritten.items failed c.self.inside.found_no_room
    c.self.invariant c.in_ok-copy_more.ensures.copied sound c.write_all.ensures.clean wrote.open wrote.seen wrote.left in
    held_all opening before (g.S.Store.view store) (g.S.Store.recovers store) copied.reader.seat.seen [] false false order refl refl

pub publish-requires-clause-committed : goal.publish-requires-clause-committed
publish-requires-clause-committed g c =
    let opening = g.A.Sharing.opening in
    let before = g.A.Journaling.before in
    let old = c.self.inside.store.store in
    let store = c.write_all.new.store.store in
    let copied = c.copy_more.new in
    let failed = is_some c.self.inside.failure in
    let sound : failed ≡ false = search rules in
    let wrote = c.in-Ok.ensures in
    let order = in_order_after opening before (g.S.Store.view old) (g.S.Store.view store) (g.S.Store.recovers old) (g.S.Store.recovers store) c.self.inside.reader.seat copied.reader.seat c.self.inside.unwritten.items copied.unwritten.items failed c.self.inside.found_no_room
    c.self.invariant c.in_ok-copy_more.ensures.copied sound c.write_all.ensures.clean wrote.open wrote.seen wrote.left in
    c.requires.committed store (changes_of copied.reader.seat.seen) (held_all opening before (g.S.Store.view store) (g.S.Store.recovers store) copied.reader.seat.seen [] false false order refl refl)

pub invariant_of-self-in-Ok : goal.invariant_of-self-in-Ok
invariant_of-self-in-Ok g c =
    let opening = g.A.Sharing.opening in
    let before = g.A.Journaling.before in
    let old = c.self.inside.store.store in
    let store = c.write_all.new.store.store in
    let copied = c.copy_more.new in
    let failed = is_some c.self.inside.failure in
    let sound : failed ≡ false = search rules in
    let wrote = c.in-Ok.ensures in
    let order = in_order_after opening before (g.S.Store.view old) (g.S.Store.view store) (g.S.Store.recovers old) (g.S.Store.recovers store) c.self.inside.reader.seat copied.reader.seat c.self.inside.unwritten.items copied.unwritten.items failed c.self.inside.found_no_room
    c.self.invariant c.in_ok-copy_more.ensures.copied sound c.write_all.ensures.clean wrote.open wrote.seen wrote.left in
    subst (λ (d : DeskView). IsInOrder opening before (g.S.Store.view store) (g.S.Store.recovers store) d.seat.seen c.write_all.new.changes.items failed false) (sym {A = DeskView} c.publish.ensures)
    (subst (λ (l : List Copied). IsInOrder opening before (g.S.Store.view store) (g.S.Store.recovers store) copied.reader.seat.seen l failed false) (sym {A = List Copied} wrote.written)
    (subst (λ (b : Bool). IsInOrder opening before (g.S.Store.view store) (g.S.Store.recovers store) copied.reader.seat.seen [] b false) (sym {A = Bool} sound) order))

pub returns-in-Ok-clause-held : goal.returns-in-Ok-clause-held
returns-in-Ok-clause-held g c =
    let opening = g.A.Sharing.opening in
    let before = g.A.Journaling.before in
    let old = c.self.inside.store.store in
    let store = c.write_all.new.store.store in
    let copied = c.copy_more.new in
    let failed = is_some c.self.inside.failure in
    let sound : failed ≡ false = search rules in
    let wrote = c.in-Ok.ensures in
    let order = in_order_after opening before (g.S.Store.view old) (g.S.Store.view store) (g.S.Store.recovers old) (g.S.Store.recovers store) c.self.inside.reader.seat copied.reader.seat c.self.inside.unwritten.items copied.unwritten.items failed c.self.inside.found_no_room
    c.self.invariant c.in_ok-copy_more.ensures.copied sound c.write_all.ensures.clean wrote.open wrote.seen wrote.left in
    subst (λ (d : DeskView). AreHeld (g.S.Store.view store) (g.S.Store.recovers store) before (changes_of d.seat.seen)) (sym {A = DeskView} c.publish.ensures)
    (held_all opening before (g.S.Store.view store) (g.S.Store.recovers store) copied.reader.seat.seen [] false false order refl refl)

pub invariant_of-self-in-Err-Full : goal.invariant_of-self-in-Err-Full
invariant_of-self-in-Err-Full g c =
    let opening = g.A.Sharing.opening in
    let before = g.A.Journaling.before in
    let old = c.self.inside.store.store in
    let store = c.write_all.new.store.store in
    let copied = c.copy_more.new in
    let failed = is_some c.self.inside.failure in
    let no_room = c.self.inside.found_no_room in
    let sound : failed ≡ false = search rules in
    let order = in_order_copied opening before (g.S.Store.view old) (g.S.Store.recovers old) c.self.inside.reader.seat copied.reader.seat c.self.inside.unwritten.items copied.unwritten.items failed no_room
    c.self.invariant c.in_ok-copy_more.ensures.copied in
    let some : copied.unwritten.items ≡ [] → ⊥ = search rules in
    let held = in_order_without_room opening before (g.S.Store.view old) (g.S.Store.view store) (g.S.Store.recovers old) (g.S.Store.recovers store) copied.reader.seat.seen copied.unwritten.items no_room
    (subst (λ (b : Bool). IsInOrder opening before (g.S.Store.view old) (g.S.Store.recovers old) copied.reader.seat.seen copied.unwritten.items b no_room) sound order)
    some c.in-Err-Full.ensures.dropped (g.met.S.Store.shut_if_dirty old) (g.met.S.Store.stays old) (g.met.S.Store.settled store) in
    subst (λ (l : List Copied). IsInOrder opening before (g.S.Store.view store) (g.S.Store.recovers store) copied.reader.seat.seen l failed true) (sym {A = List Copied} c.in-Err-Full.ensures.kept)
    (subst (λ (b : Bool). IsInOrder opening before (g.S.Store.view store) (g.S.Store.recovers store) copied.reader.seat.seen copied.unwritten.items b true) (sym {A = Bool} sound) held)
