use Rattle.std.proofs.Common.{◌≡◌, Some, sym, ◌∙◌}
use Rattle.book_lock.specs.declared.unread.UnreadChanges.{UnreadChanges}
use Rattle.book_lock.proofs.Backlog.{is_kept, unread_added}
use Rattle.book_lock.proofs.locked.Locked.keep_unread.Goals as goal

pub invariant_of-self-2 : goal.invariant_of-self-2
invariant_of-self-2 g c =
    let u : UnreadChanges = c.in-Some.unread in
    let kept : c.self.inside.unread ≡ Some u = sym c.take.ensures.value ∙ c.in-Some.is in
    let was = is_kept g.A.Sharing.opening c.self.inside.log.0 c.self.inside.unread u kept c.self.invariant.6.unread in
    let now = unread_added g.A.Sharing.opening c.self.inside.log.0 c.self.inside.book u c.add_unread-added.new.unread c.self.invariant.2 was c.add_unread-added.ensures in (
      c.self.invariant.0,
      c.self.invariant.1,
      c.self.invariant.2,
      c.self.invariant.3,
      c.self.invariant.4,
      c.self.invariant.5,
      record { durable = c.self.invariant.6.durable; committed = c.self.invariant.6.committed; unread = now },
    )
