use Rattle.std.proofs.Common.{refl, ◌∙◌, ap}
use Rattle.book_lock.specs.Rises.{SharedBook}
use Rattle.book_lock.proofs.Following.{unchanged}
use Rattle.book_core.specs.inner.Questions.{first_live}
use Rattle.book_lock.proofs.Logging.{book_same}
use Rattle.book_lock.specs.inner.Counts.{count_in, is_arrival, is_settlement, is_take}
use Rattle.book_lock.proofs.locked.Locked.first_live.Goals as goal

pub invariant_of-self : goal.invariant_of-self
invariant_of-self g c =
    let h : SharedBook = record { book = c.self.inside.book; opening = c.self.inside.opening; first = c.self.inside.first; admitted = c.self.inside.admitted } in
    let n = unchanged h c.first_live.new.self g.A.Sharing.counts g.A.Sharing.first g.A.Sharing.channels
    (count_in is_arrival c.self.inside.log.0) (count_in is_take c.self.inside.log.0) (count_in is_settlement c.self.inside.log.0)
    c.first_live.ensures.unchanged c.self.invariant.0 c.self.invariant.1 in
    (n.0, n.1, book_same g.A.Sharing.opening c.self.inside.log.0 c.self.inside.log.0 c.self.inside.book c.first_live.new.self c.self.invariant.2 refl c.first_live.ensures.unchanged, c.self.invariant.3, c.self.invariant.4, c.self.invariant.5, c.self.invariant.6)

pub returns-clause-first : goal.returns-clause-first
returns-clause-first g c = c.first_live.ensures.first ∙ ap (λ (h : SharedBook). first_live h.book) c.self.view_is
