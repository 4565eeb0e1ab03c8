use Rattle.std.proofs.Common.{false, List, sym, subst}
use Rattle.book_lock.specs.declared.copied.Copied.{Copied}
use Rattle.book_journal.specs.inner.Order.{IsInOrder}
use Rattle.book_journal.proofs.Steps.{in_order_first}
use Rattle.book_journal.proofs.journal.Journal.new.Goals as goal

pub invariant_of-result : goal.invariant_of-result
invariant_of-result g c =
    let opening = g.A.Sharing.opening in
    let before = g.A.Journaling.before in
    let store = c.args.store.store in
    let seen = c.args.reader.seat.seen in
    subst (λ (l : List Copied). IsInOrder opening before (g.S.Store.view store) (g.S.Store.recovers store) seen l false false) (sym c.new.ensures.items)
    (in_order_first opening before (g.S.Store.view store) (g.S.Store.recovers store) seen c.requires.unread c.requires.durable c.requires.sees)
