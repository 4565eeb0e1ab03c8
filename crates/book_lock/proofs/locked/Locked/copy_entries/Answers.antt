use Rattle.std.specs.Prelude.{Option}
use Rattle.std.proofs.Common.{◌≡◌, ℕ, Some, ap, sym, refl, subst, ◌∙◌}
use Rattle.book_lock.specs.declared.unread.Position.{Position}
use Rattle.book_lock.specs.declared.unread.UnreadChanges.{UnreadChanges}
use Rattle.book_lock.specs.Journal.{Copies}
use Rattle.book_lock.specs.Log.{Log, SeatView}
use Rattle.book_lock.specs.Rises.{SharedBook}
use Rattle.book_lock.specs.Shares.{DeskView}
use Rattle.book_lock.specs.inner.Counts.{IsManned}
use Rattle.book_lock.specs.inner.Durable.{IsJournaled}
use Rattle.book_lock.specs.inner.Rises.{IsCountedIn}
use Rattle.book_lock.specs.inner.Unread.{IsUnread}
use Rattle.book_lock.proofs.Backlog.{copied_all, kept_anew, kept_still}
use Rattle.book_lock.proofs.Logging.{book_same}
use Rattle.book_lock.proofs.locked.Locked.copy_entries.Goals as goal

pub invariant_of-self : goal.invariant_of-self
invariant_of-self g c =
    let h : SharedBook = record { book = c.self.inside.book; opening = c.self.inside.opening; first = c.self.inside.first; admitted = c.self.inside.admitted } in
    let now : Log × ℕ = c.audit.new.log in
    let same : now ≡ c.self.inside.log = c.audit.ensures.same.1 in
    let back : c.self.inside.log ≡ now = sym same in
    let at : Position = record { next = c.reader.inside.next; prunings = c.reader.inside.prunings } in
    let last : UnreadChanges = c.add_unread-added.new.unread in
    let unread = subst (λ (k : Option UnreadChanges). IsUnread g.A.Sharing.opening c.self.inside.log.0 k) (sym c.take-kept.ensures.value) c.self.invariant.6.unread in
    let kept = kept_still g.A.Sharing.opening c.reader.inside.desk.seat.number c.reader.inside.desk.seat.seen c.self.inside.log.0 c.self.inside.book at c.take-kept.result c.unread_from-unread.result last c.self.invariant.2
    c.audit.ensures.agreed c.reader.invariant unread c.unread_from-unread.ensures c.add_unread-added.ensures in (
      c.self.invariant.0,
      subst (λ (l : Log × ℕ). IsCountedIn h l.0) back c.self.invariant.1,
      book_same g.A.Sharing.opening c.self.inside.log.0 now.0 c.self.inside.book c.self.inside.book c.self.invariant.2 (ap (λ (l : Log × ℕ). l.0) same) refl,
      ap (λ (l : Log × ℕ). l.1) same ∙ c.self.invariant.3,
      c.self.invariant.4,
      subst (λ (l : Log × ℕ). IsManned g.A.Sharing.desks g.A.Sharing.stations l.0) back c.self.invariant.5,
      subst (λ (l : Log × ℕ). IsJournaled g.A.Sharing.opening g.A.Sharing.committed l.0 c.self.inside.durable (Some last)) back
          (record { durable = c.self.invariant.6.durable; committed = c.self.invariant.6.committed; unread = kept }),
    )

pub invariant_of-self-2 : goal.invariant_of-self-2
invariant_of-self-2 g c =
    let h : SharedBook = record { book = c.self.inside.book; opening = c.self.inside.opening; first = c.self.inside.first; admitted = c.self.inside.admitted } in
    let now : Log × ℕ = c.observe.new.log in
    let same : now ≡ c.self.inside.log = c.observe.ensures.log ∙ c.audit.ensures.same.1 in
    let back : c.self.inside.log ≡ now = sym same in
    let last : UnreadChanges = c.add_unread-added.new.unread in
    let yes = c.if-not-is_complete.false in
    let kept = kept_anew g.A.Sharing.opening c.self.inside.log.0 c.self.inside.book last.to c.unread_from-anew.result c.self.invariant.2 (c.is_complete.ensures.next yes) (c.is_complete.ensures.prunings yes) c.unread_from-anew.ensures in (
      c.self.invariant.0,
      subst (λ (l : Log × ℕ). IsCountedIn h l.0) back c.self.invariant.1,
      book_same g.A.Sharing.opening c.self.inside.log.0 now.0 c.self.inside.book c.self.inside.book c.self.invariant.2 (ap (λ (l : Log × ℕ). l.0) same) refl,
      ap (λ (l : Log × ℕ). l.1) same ∙ c.self.invariant.3,
      c.self.invariant.4,
      subst (λ (l : Log × ℕ). IsManned g.A.Sharing.desks g.A.Sharing.stations l.0) back c.self.invariant.5,
      subst (λ (l : Log × ℕ). IsJournaled g.A.Sharing.opening g.A.Sharing.committed l.0 c.self.inside.durable (Some c.unread_from-anew.result)) back
          (record { durable = c.self.invariant.6.durable; committed = c.self.invariant.6.committed; unread = kept }),
    )

pub returns-clause-copies : goal.returns-clause-copies
returns-clause-copies g c =
    let at : Position = record { next = c.reader.inside.next; prunings = c.reader.inside.prunings } in
    let old : SeatView = c.reader.inside.desk.seat in
    let last : UnreadChanges = c.add_unread-added.new.unread in
    let yes = c.if-not-is_complete.false in
    let unread = subst (λ (k : Option UnreadChanges). IsUnread g.A.Sharing.opening c.self.inside.log.0 k) (sym c.take-kept.ensures.value) c.self.invariant.6.unread in
    let shown : c.observe.new.self.seat ≡ record { number = old.number; seen = c.self.inside.log.0 } =
    c.observe.ensures.seat ∙ (λ i. record { number = (c.audit.ensures.same.0 i).seat.number; seen = (c.audit.ensures.same.1 i).0 }) in
    subst (λ (d : DeskView). Copies g.A.Sharing.opening d.seat c.observe.new.self.seat last.copies.items) c.reader.view_is
    (copied_all g.A.Sharing.opening old c.observe.new.self.seat c.self.inside.log.0 c.self.inside.book at c.take-kept.result c.unread_from-unread.result last c.self.invariant.2 c.audit.ensures.agreed
    shown c.reader.invariant unread c.unread_from-unread.ensures c.add_unread-added.ensures (c.is_complete.ensures.next yes) (c.is_complete.ensures.prunings yes))
