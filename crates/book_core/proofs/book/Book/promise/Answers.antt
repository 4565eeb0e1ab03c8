use Rattle.std.proofs.Common.{subst}
use Rattle.book_core.specs.Headline.{KeepsItsPromise}
use Rattle.book_core.proofs.Promise.{promise-kept}
use Rattle.book_core.proofs.book.Book.promise.Goals as goal

pub returns : goal.returns
returns g c =
    subst (λ h. KeepsItsPromise h (g.S.RowStore.rows c.self.inside.rows) c.self.inside.counts) c.self.view_is
    (promise-kept _ _ _ _ _ _ c.self.invariant)
