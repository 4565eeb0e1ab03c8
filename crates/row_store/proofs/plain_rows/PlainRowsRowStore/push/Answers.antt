use Rattle.std.specs.Result.{is_ok}
use Rattle.row_store.proofs.Places.{NumbersRise-push_if}
use Rattle.row_store.proofs.plain_rows.PlainRowsRowStore.push.Goals as goal

pub invariant_of-self : goal.invariant_of-self
invariant_of-self g c =
    let below = rw (← c.self.view_is) at c.requires in
    rw c.push.ensures.items (NumbersRise-push_if (is_ok c.push.result) c.self.inside.rows.items _ c.self.invariant below)
