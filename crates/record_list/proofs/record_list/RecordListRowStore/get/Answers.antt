use Rattle.std.proofs.Common.{◌≡◌, rules, slice_index_or, ap, ◌∙◌, refl}
use Rattle.record_list.proofs.Found.{found_at, absent_at}
use Rattle.record_list.proofs.Rising.{node_there}
use Rattle.record_list.proofs.record_list.RecordListRowStore.get.Goals as goal

pub returns-in_err-index : goal.returns-in_err-index
returns-in_err-index g c =
    let shown = ap (λ s. s.rows) c.self.view_is in
    let absent = absent_at c.args.number c.self.inside.links.nodes.items c.in_err-index.ensures.missing in
    rw (← shown, absent.row_is) (search rules)

pub returns : goal.returns
returns g c =
    let shown = ap (λ s. s.rows) c.self.view_is in
    let items = c.self.inside.links.nodes.items in
    let at = c.in_ok-index.ensures.found in
    let on = found_at c.args.number items c.self.invariant.rise at.0 in
    let node : c.index.result.now ≡ on.node = c.index.ensures ∙ ap (λ k. slice_index_or items k c.index.result.now) at.1 ∙ node_there c.args.number on.node c.index.result.now items on.found in
    rw (← shown, on.row_is, node) refl
