use Rattle.std.proofs.Common.{◌≡◌, ap, subst}
use Rattle.event_log.specs.History.{History}
use Rattle.book_core.specs.Headline.{KeepsItsPromise}
use Rattle.book_lock.specs.Rises.{SharedBook}
use Rattle.book_lock.proofs.locked.Locked.promise.Goals as goal

pub returns : goal.returns
returns g c =
    let b : c.self.inside.book ≡ c.args.self.now.book = ap (λ (h : SharedBook). h.book) c.self.view_is in
    subst (λ (h : History). KeepsItsPromise h (g.S.RowStore.rows c.promise.result.0.now) c.promise.result.1.now) b c.promise.ensures
