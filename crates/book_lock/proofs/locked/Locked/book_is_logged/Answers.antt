use Rattle.std.proofs.Common.{ap, subst}
use Rattle.event_log.specs.History.{History}
use Rattle.book_lock.specs.Rises.{SharedBook}
use Rattle.book_lock.specs.Log.{IsLogged}
use Rattle.book_lock.proofs.locked.Locked.book_is_logged.Goals as goal

pub returns : goal.returns
returns g c =
    subst (λ (h : History). IsLogged g.A.Sharing.opening h) (ap (λ (h : SharedBook). h.book) c.self.view_is)
    (record { entries = c.self.inside.log.0; is_book = c.self.invariant.2 })
