use Rattle.std.proofs.Common.{ap, rules, refl}
use Rattle.row_store.proofs.Places.{only_at, find-missing, find-at}
use Rattle.row_store.proofs.plain_rows.PlainRowsRowStore.get.Goals as goal

pub returns-in_err-place : goal.returns-in_err-place
returns-in_err-place g c =
    let shown = ap (λ s. s.0) c.self.view_is in
    let missing = rw (c.deref.ensures.value, shown) at c.in_err-place.ensures.missing in
    let none = find-missing c.args.number c.args.self.now.0 missing in
    rw none (search rules)

pub returns : goal.returns
returns g c =
    let shown = ap (λ s. s.0) c.self.view_is in
    let only = only_at c.args.number c.in_ok-place.place c.self.inside.rows.items c.self.invariant (rw c.deref.ensures.value at c.in_ok-place.ensures.inside) (rw c.deref.ensures.value at c.in_ok-place.ensures.found) in
    let found = find-at c.args.number c.in_ok-place.place c.index.result.now c.self.inside.rows.items only in
    rw (← shown, found, ← c.index.ensures) refl
