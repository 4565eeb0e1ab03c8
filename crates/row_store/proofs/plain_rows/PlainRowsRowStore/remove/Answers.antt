use Rattle.std.proofs.Common.{ap, sym, rules, refl}
use Rattle.row_store.proofs.Places.{only_at, find-missing, find-at, removed-missing, removed-at, NumbersRise-removed}
use Rattle.row_store.proofs.plain_rows.PlainRowsRowStore.remove.Goals as goal

pub returns-in_err-place-clause-item : goal.returns-in_err-place-clause-item
returns-in_err-place-clause-item g c =
    let shown = ap (λ s. s.0) c.self.view_is in
    let missing = rw (c.deref.ensures.value, shown) at c.in_err-place.ensures.missing in
    let none = find-missing c.args.number c.args.self.now.0 missing in
    rw none (search rules)

pub returns-in_err-place-clause-removed : goal.returns-in_err-place-clause-removed
returns-in_err-place-clause-removed g c =
    let shown = ap (λ s. s.0) c.self.view_is in
    let missing = rw (c.deref.ensures.value, shown) at c.in_err-place.ensures.missing in
    sym (removed-missing c.args.number c.args.self.now.0 missing)

pub invariant_of-self : goal.invariant_of-self
invariant_of-self g c =
    let shown = ap (λ s. s.0) c.self.view_is in
    let only = only_at c.args.number c.in_ok-place.place c.self.inside.rows.items c.self.invariant (rw c.deref.ensures.value at c.in_ok-place.ensures.inside) (rw c.deref.ensures.value at c.in_ok-place.ensures.found) in
    rw (c.remove-item.ensures.items, ← removed-at c.args.number c.in_ok-place.place c.self.inside.rows.items only) (NumbersRise-removed c.args.number c.self.inside.rows.items c.self.invariant)

pub returns-clause-item : goal.returns-clause-item
returns-clause-item g c =
    let shown = ap (λ s. s.0) c.self.view_is in
    let only = only_at c.args.number c.in_ok-place.place c.self.inside.rows.items c.self.invariant (rw c.deref.ensures.value at c.in_ok-place.ensures.inside) (rw c.deref.ensures.value at c.in_ok-place.ensures.found) in
    let found = find-at c.args.number c.in_ok-place.place c.remove-item.result c.self.inside.rows.items only in
    rw (← shown, found, ← c.remove-item.ensures.value) refl

pub returns-clause-removed : goal.returns-clause-removed
returns-clause-removed g c =
    let shown = ap (λ s. s.0) c.self.view_is in
    let only = only_at c.args.number c.in_ok-place.place c.self.inside.rows.items c.self.invariant (rw c.deref.ensures.value at c.in_ok-place.ensures.inside) (rw c.deref.ensures.value at c.in_ok-place.ensures.found) in
    rw (c.remove-item.ensures.items, ← shown) (sym (removed-at c.args.number c.in_ok-place.place c.self.inside.rows.items only))
