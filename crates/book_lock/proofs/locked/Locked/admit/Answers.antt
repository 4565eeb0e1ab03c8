use Rattle.book_lock.specs.Rises.{SharedBook}
use Rattle.book_lock.proofs.Following.{admitting}
use Rattle.book_lock.specs.inner.Counts.{count_in, is_arrival, is_settlement, is_take}
use Rattle.book_lock.proofs.locked.Locked.admit.Goals as goal

pub invariant_of-self : goal.invariant_of-self
invariant_of-self g c =
    let h : SharedBook = record { book = c.self.inside.book; opening = c.self.inside.opening; first = c.self.inside.first; admitted = c.self.inside.admitted } in
    let n = admitting h _ g.A.Sharing.counts g.A.Sharing.first g.A.Sharing.channels
    (count_in is_arrival c.self.inside.log.0) (count_in is_take c.self.inside.log.0) (count_in is_settlement c.self.inside.log.0) c.self.invariant.0 c.self.invariant.1 in
    (n.0, n.1, c.self.invariant.2, c.self.invariant.3, c.self.invariant.4, c.self.invariant.5, c.self.invariant.6)
