use Rattle.std.proofs.Common.{refl}
use Rattle.row_store.specs.inner.Rows.{without}
use Rattle.play_books.proofs.Below.{below_more, below_changed, below_removed}
use Rattle.play_books.proofs.rows.call.play.Goals as goal

pub returns-then-unlink : goal.returns-then-unlink
returns-then-unlink g c = rw c.unlink.ensures.unlinked (below_more c.args.next _ (below_changed c.args.next c.in-Unlink.number (λ row. record row { mask = without c.in-Unlink.d row.mask }) (λ row. refl) _ c.requires))

pub returns-else-unlink : goal.returns-else-unlink
returns-else-unlink g c = rw c.unlink.ensures.unlinked (below_more c.args.next _ (below_changed c.args.next c.in-Unlink.number (λ row. record row { mask = without c.in-Unlink.d row.mask }) (λ row. refl) _ c.requires))

pub returns-in-Remove : goal.returns-in-Remove
returns-in-Remove g c = rw c.remove.ensures.removed (below_more c.args.next _ (below_removed c.args.next c.in-Remove.number _ c.requires))

pub returns-in-Some : goal.returns-in-Some
returns-in-Some g c =
    let written = rw c.in-Some.is at (c.get_mut.follows.holds c.in-Set.item) in
    rw written (below_more c.args.next _ (below_changed c.args.next c.in-Set.number (λ row. record row { item = c.in-Set.item }) (λ row. refl) _ c.requires))
