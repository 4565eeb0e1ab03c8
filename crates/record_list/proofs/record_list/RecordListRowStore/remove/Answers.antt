use Rattle.std.proofs.Common.{◌≡◌, rules, slice_index_or, sym, ap, ◌∙◌, refl}
use Rattle.std.specs.Prelude.{remove}
use Rattle.row_store.specs.inner.Rows.{removed}
use Rattle.record_list.proofs.Found.{found_at, absent_at}
use Rattle.record_list.proofs.Rising.{rows_like, node_there, dropped_there}
use Rattle.record_list.specs.inner.Chain.{rows_of}
use Rattle.record_list.proofs.record_list.RecordListRowStore.remove.Goals as goal

pub returns-in_err-index-clause-item : goal.returns-in_err-index-clause-item
returns-in_err-index-clause-item g c =
    let shown = ap (λ s. s.rows) c.self.view_is in
    let absent = absent_at c.args.number c.self.inside.links.nodes.items c.in_err-index.ensures.missing in
    rw (← shown, absent.row_is) (search rules)

pub returns-in_err-index-clause-removed : goal.returns-in_err-index-clause-removed
returns-in_err-index-clause-removed g c =
    let shown = ap (λ s. s.rows) c.self.view_is in
    let absent = absent_at c.args.number c.self.inside.links.nodes.items c.in_err-index.ensures.missing in
    rw (← shown) (sym absent.removed_is)

pub returns-clause-item : goal.returns-clause-item
returns-clause-item g c =
    let shown = ap (λ s. s.rows) c.self.view_is in
    let items = c.self.inside.links.nodes.items in
    let at = c.in_ok-index.ensures.found in
    let on = found_at c.args.number items c.self.invariant.rise at.0 in
    let taken = c.take_out-node.result in
    let node : taken ≡ on.node = c.take_out-node.ensures.value ∙ ap (λ k. slice_index_or items k taken) at.1 ∙ node_there c.args.number on.node taken items on.found in
    rw (← shown, on.row_is, ← node, ← c.item_of.ensures) refl

pub returns-clause-removed : goal.returns-clause-removed
returns-clause-removed g c =
    let shown = ap (λ s. s.rows) c.self.view_is in
    let items = c.self.inside.links.nodes.items in
    let at = c.in_ok-index.ensures.found in
    let on = found_at c.args.number items c.self.invariant.rise at.0 in
    rows_like (remove items c.in_ok-index.index) c.take_out-node.new.self.nodes.items c.take_out-node.ensures.items
    ∙ ap rows_of (ap (remove items) at.1 ∙ dropped_there c.args.number on.node items on.found) ∙ on.removed_is ∙ ap (removed c.args.number) shown
