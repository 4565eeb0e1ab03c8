use Rattle.std.proofs.Common.{refl, ◌≡◌, ap, sym, subst, ℕ, ◌∙◌, ◌++◌, ◌∷◌, []}
use Rattle.book_lock.specs.Rises.{SharedBook}
use Rattle.book_lock.specs.Durable.{changes_of}
use Rattle.book_lock.specs.Log.{Log}
use Rattle.book_lock.specs.Shares.{DeskView}
use Rattle.book_lock.proofs.Logging.{book_more}
use Rattle.book_lock.proofs.HandedIn.{durable_in, manned_none}
use Rattle.book_lock.proofs.Durability.{durable_may, durable_now}
use Rattle.book_lock.specs.declared.log_entry.LogEntry.{LogEntry}
use Rattle.book_lock.specs.declared.log_entry.LogEntry.TheVariants.{Durable}
use Rattle.book_lock.proofs.locked.Locked.publish_durable.Goals as goal

pub invariant_of-self : goal.invariant_of-self
invariant_of-self g c =
    let h : SharedBook = record { book = c.self.inside.book; opening = c.self.inside.opening; first = c.self.inside.first; admitted = c.self.inside.admitted } in
    let below = c.reader.inside.next in
    let x : ℕ × LogEntry = (c.self.inside.seat.0, Durable below) in
    let added : c.push.new.self.0 ≡ c.self.inside.log.0 ++ x ∷ [] =
    ap (λ (l : Log × ℕ). l.0) c.push.ensures.log ∙ ap (λ (l : Log × ℕ). l.0 ++ x ∷ []) c.audit.ensures.same.1 in
    let committed : g.A.Sharing.committed (changes_of c.reader.inside.desk.seat.seen) = subst (λ (d : DeskView). g.A.Sharing.committed (changes_of d.seat.seen)) (sym c.reader.view_is) c.requires.committed in
    let may = durable_may g.A.Sharing.opening c.reader.inside.desk.seat.number c.reader.inside.desk.seat.seen c.self.inside.log.0 c.self.inside.book below c.reader.inside.prunings c.self.invariant.2 c.audit.ensures.agreed c.reader.invariant in (
      c.self.invariant.0,
      durable_in h c.self.inside.seat.0 below c.self.inside.log.0 c.push.new.self.0 added c.self.invariant.1,
      book_more g.A.Sharing.opening c.self.inside.log.0 c.push.new.self.0 x c.self.inside.book c.self.inside.book c.self.invariant.2 may refl added,
      ap (λ (l : Log × ℕ). l.1) c.push.ensures.log ∙ (ap (λ (l : Log × ℕ). l.1) c.audit.ensures.same.1 ∙ c.self.invariant.3),
      c.self.invariant.4,
      manned_none g.A.Sharing.desks g.A.Sharing.stations c.self.inside.log.0 c.push.new.self.0 x c.self.invariant.5 added (refl, refl, refl),
      durable_now g.A.Sharing.opening g.A.Sharing.committed c.self.inside.log.0 c.push.new.self.0 c.reader.inside.desk.seat.number c.self.inside.seat.0 below c.self.inside.durable c.reader.inside.prunings c.reader.inside.desk.seat.seen c.self.inside.unread
          c.self.invariant.6 c.audit.ensures.agreed c.reader.invariant committed added,
    )
