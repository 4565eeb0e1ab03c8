use Rattle.std.proofs.Common.{refl, ◌∙◌, ap}
use Rattle.book_lock.specs.Rises.{SharedBook}
use Rattle.book_lock.proofs.Following.{unchanged}
use Rattle.book_core.specs.inner.Questions.{front_at}
use Rattle.book_lock.proofs.Logging.{book_same}
use Rattle.book_lock.specs.inner.Counts.{count_in, is_arrival, is_settlement, is_take}
use Rattle.book_lock.proofs.locked.Locked.front.Goals as goal

pub invariant_of-self : goal.invariant_of-self
invariant_of-self g c =
    let h : SharedBook = record { book = c.self.inside.book; opening = c.self.inside.opening; first = c.self.inside.first; admitted = c.self.inside.admitted } in
    let n = unchanged h c.front.new.self g.A.Sharing.counts g.A.Sharing.first g.A.Sharing.channels
    (count_in is_arrival c.self.inside.log.0) (count_in is_take c.self.inside.log.0) (count_in is_settlement c.self.inside.log.0)
    c.front.ensures.unchanged c.self.invariant.0 c.self.invariant.1 in
    (n.0, n.1, book_same g.A.Sharing.opening c.self.inside.log.0 c.self.inside.log.0 c.self.inside.book c.front.new.self c.self.invariant.2 refl c.front.ensures.unchanged, c.self.invariant.3, c.self.invariant.4, c.self.invariant.5, c.self.invariant.6)

pub returns-clause-front : goal.returns-clause-front
returns-clause-front g c = c.front.ensures.front ∙ ap (λ (h : SharedBook). front_at h.book c.args.d) c.self.view_is
