use Rattle.std.proofs.Common.{ap, sym, refl}
use Rattle.row_store.specs.inner.Rows.{without}
use Rattle.row_store.proofs.Places.{only_at, changed_at-missing, changed_at-at, numbers-changed_at, is_linked-missing, is_linked-at}
use Rattle.row_store.proofs.plain_rows.PlainRowsRowStore.unlink.Goals as goal

pub returns-in_default-clause-stood : goal.returns-in_default-clause-stood
returns-in_default-clause-stood g c =
    let shown = ap (λ s. s.0) c.self.view_is in
    let missing = rw (c.deref.ensures.value, shown) at (rw c.in_default.is at c.place_of.ensures.missing) in
    sym (is_linked-missing c.args.number c.args.d c.args.self.now.0 missing)

pub returns-in_default-clause-unlinked : goal.returns-in_default-clause-unlinked
returns-in_default-clause-unlinked g c =
    let shown = ap (λ s. s.0) c.self.view_is in
    let missing = rw (c.deref.ensures.value, shown) at (rw c.in_default.is at c.place_of.ensures.missing) in
    sym (changed_at-missing c.args.number (λ row. record row { mask = without c.args.d row.mask }) c.args.self.now.0 missing)

pub invariant_of-self : goal.invariant_of-self
invariant_of-self g c =
    let shown = ap (λ s. s.0) c.self.view_is in
    let only = only_at c.args.number c.in-Some.place c.self.inside.rows.items c.self.invariant (rw c.deref.ensures.value at c.in-Some.ensures.inside) (rw c.deref.ensures.value at c.in-Some.ensures.found) in
    let changed = changed_at-at c.args.number (λ row. record row { mask = without c.args.d row.mask }) c.in-Some.place c.index_mut-row.result.now c.self.inside.rows.items only in
    let same = numbers-changed_at c.args.number (λ row. record row { mask = without c.args.d row.mask }) (λ row. refl) c.self.inside.rows.items in
    rw (c.leave.ensures, c.index_mut-row.ensures.value, ← changed, same) c.self.invariant

pub returns-clause-stood : goal.returns-clause-stood
returns-clause-stood g c =
    let shown = ap (λ s. s.0) c.self.view_is in
    let only = only_at c.args.number c.in-Some.place c.self.inside.rows.items c.self.invariant (rw c.deref.ensures.value at c.in-Some.ensures.inside) (rw c.deref.ensures.value at c.in-Some.ensures.found) in
    rw (← shown, is_linked-at c.args.number c.args.d c.in-Some.place c.index_mut-row.result.now c.self.inside.rows.items only, ← c.index_mut-row.ensures.value) c.stands_in-stood.ensures

pub returns-clause-unlinked : goal.returns-clause-unlinked
returns-clause-unlinked g c =
    let shown = ap (λ s. s.0) c.self.view_is in
    let only = only_at c.args.number c.in-Some.place c.self.inside.rows.items c.self.invariant (rw c.deref.ensures.value at c.in-Some.ensures.inside) (rw c.deref.ensures.value at c.in-Some.ensures.found) in
    rw (c.leave.ensures, c.index_mut-row.ensures.value, ← shown) (sym (changed_at-at c.args.number (λ row. record row { mask = without c.args.d row.mask }) c.in-Some.place c.index_mut-row.result.now c.self.inside.rows.items only))
