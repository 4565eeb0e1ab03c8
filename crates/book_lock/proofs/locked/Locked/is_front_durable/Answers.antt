use Rattle.std.proofs.Common.{◌≡◌, Some, sym, subst, ◌∙◌, ap}
use Rattle.event_log.specs.History.{History}
use Rattle.book_core.specs.inner.Questions.{front_at}
use Rattle.book_lock.specs.Durable.{ArrivedBelow, IsDurableBelow}
use Rattle.book_lock.specs.Log.{SeatView}
use Rattle.book_lock.specs.Rises.{SharedBook}
use Rattle.book_lock.proofs.Planning.{looked}
use Rattle.book_lock.proofs.locked.Locked.is_front_durable.Goals as goal

pub returns-clause-durable : goal.returns-clause-durable
returns-clause-durable g c = λ yes f there.
    let b : c.self.inside.book ≡ c.args.self.now.book = ap (λ (h : SharedBook). h.book) c.self.view_is in
    let at : c.front-front.result ≡ Some f = c.front-front.ensures.front ∙ (ap (λ (h : History). front_at h c.args.d) b ∙ there) in
    let arrived : ArrivedBelow c.front-front.new.self f.number c.self.inside.durable = c.has_arrived_below.ensures yes f at in
    record {
      below = c.self.inside.durable;
      arrived = subst (λ (h : History). ArrivedBelow h f.number c.self.inside.durable) (c.front-front.ensures.unchanged ∙ b) arrived;
      durable = subst (λ (s : SeatView). IsDurableBelow g.A.Sharing.opening s.seen c.self.inside.durable) (sym c.observe.ensures.seat) c.self.invariant.6.durable;
    }

pub returns-clause-looks : goal.returns-clause-looks
returns-clause-looks g c =
    looked g.A.Sharing.opening c.args.station.now.seat c.observe.new.self.seat c.self.inside.log.0 c.self.inside.book c.self.invariant.2 c.observe.ensures.agreed c.observe.ensures.seat
