use Rattle.std.proofs.Common.{ap, sym, refl}
use Rattle.row_store.proofs.Places.{only_at, find-missing, find-at, changed_at-at, numbers-changed_at}
use Rattle.row_store.proofs.plain_rows.PlainRowsRowStore.get_mut.Goals as goal

pub returns-in_err-place : goal.returns-in_err-place
returns-in_err-place g c =
    let shown = ap (λ s. s.0) c.self.view_is in
    let missing = rw (c.deref.ensures.value, shown) at c.in_err-place.ensures.missing in
    let none = find-missing c.args.number c.args.self.now.0 missing in
    rw c.from_residual.ensures ((refl, (λ w. tt), shown), record { writes_back = tt; item = rw none refl })

pub invariant_of-self-lent : goal.invariant_of-self-lent
invariant_of-self-lent g c = λ w.
    let only = only_at c.args.number c.in_ok-place.place c.self.inside.rows.items c.self.invariant (rw c.deref.ensures.value at c.in_ok-place.ensures.inside) (rw c.deref.ensures.value at c.in_ok-place.ensures.found) in
    let changed = changed_at-at c.args.number (λ row. record row { item = w }) c.in_ok-place.place c.index_mut-row.result.now c.self.inside.rows.items only in
    let same = numbers-changed_at c.args.number (λ row. record row { item = w }) (λ row. refl) c.self.inside.rows.items in
    rw (c.index_mut-row.ensures.value, ← changed, same) c.self.invariant

pub returns : goal.returns
returns g c =
    let shown = ap (λ s. s.0) c.self.view_is in
    let only = only_at c.args.number c.in_ok-place.place c.self.inside.rows.items c.self.invariant (rw c.deref.ensures.value at c.in_ok-place.ensures.inside) (rw c.deref.ensures.value at c.in_ok-place.ensures.found) in
    let found = find-at c.args.number c.in_ok-place.place c.index_mut-row.result.now c.self.inside.rows.items only in
    ((refl, (λ w. rw (c.index_mut-row.ensures.value, ← shown) (sym (changed_at-at c.args.number (λ row. record row { item = w }) c.in_ok-place.place c.index_mut-row.result.now c.self.inside.rows.items only))), refl), record { writes_back = tt; item = rw (← shown, found, ← c.index_mut-row.ensures.value) refl })
