use Rattle.std.proofs.Common.{◌≡◌, slice_index_or, slice_set, ap, ◌∙◌, refl}
use Rattle.std.specs.VecDeque.{deque_with_item}
use Rattle.record_list.specs.declared.links.Node.{Node}
use Rattle.record_list.specs.inner.Chain.{entries, rows_of, items_at, change_node}
use Rattle.record_list.proofs.Change.{set_change}
use Rattle.record_list.proofs.Chains.{entries_kept}
use Rattle.record_list.proofs.Enter.{same_linked}
use Rattle.record_list.proofs.Found.{found_at, absent_at}
use Rattle.record_list.proofs.Rising.{node_there}
use Rattle.record_list.proofs.Store.{whole_changed}
use Rattle.record_list.proofs.record_list.RecordListRowStore.get_mut.Goals as goal

pub returns-in_err-index : goal.returns-in_err-index
returns-in_err-index g c =
    let shown = ap (λ s. s.rows) c.self.view_is in
    let absent = absent_at c.args.number c.self.inside.links.nodes.items c.in_err-index.ensures.missing in
    let none = absent.row_is in
    rw c.from_residual.ensures ((refl, (λ w. tt), shown), record { writes_back = tt; item = rw (← shown, none) refl })

-- the node with another item
abbrev with : {T : Type 0} → T → Node T → Node T
with w y = record y { item = w }

pub invariant_of-self-lent : goal.invariant_of-self-lent
invariant_of-self-lent g c = λ w.
    let s = c.self.inside.links in
    let x = c.index_mut-node.result.now in
    let at = c.in_ok-index.ensures.found in
    let on = found_at c.args.number s.nodes.items c.self.invariant.rise at.0 in
    let node : x ≡ on.node = c.index_mut-node.ensures.value ∙ ap (λ k. slice_index_or s.nodes.items k x) at.1 ∙ node_there c.args.number on.node x s.nodes.items on.found in
    let t = record s { nodes = deque_with_item s.nodes c.in_ok-index.index (with w x) } in
    let written : t.nodes.items ≡ change_node c.args.number (with w) s.nodes.items = ap (λ k. slice_set s.nodes.items k (with w x)) at.1 ∙ set_change c.args.number (with w) on.node (with w x) s.nodes.items on.found (ap (with w) node) in
    whole_changed s t c.args.number (with w) (λ row. record row { item = w }) c.self.invariant on (λ y. refl) (λ row. refl) (ap items_at written) (λ y m. m)
    (λ d lt. same_linked d s t (record { entries_same = ap (entries d) written ∙ entries_kept d c.args.number (with w) (λ y. refl) (λ y. refl) s.nodes.items; head_same = refl; tail_same = refl }) (c.self.invariant.linked d lt))

pub returns : goal.returns
returns g c =
    let shown = ap (λ s. s.rows) c.self.view_is in
    let s = c.self.inside.links in
    let x = c.index_mut-node.result.now in
    let at = c.in_ok-index.ensures.found in
    let on = found_at c.args.number s.nodes.items c.self.invariant.rise at.0 in
    let node : x ≡ on.node = c.index_mut-node.ensures.value ∙ ap (λ k. slice_index_or s.nodes.items k x) at.1 ∙ node_there c.args.number on.node x s.nodes.items on.found in
    ((refl, (λ w. rw (← shown) (ap rows_of (ap (λ k. slice_set s.nodes.items k (with w x)) at.1 ∙ set_change c.args.number (with w) on.node (with w x) s.nodes.items on.found (ap (with w) node)) ∙ on.changed_is (with w) (λ row. record row { item = w }) (λ y. refl))), refl), record { writes_back = tt; item = rw (← shown, on.row_is, node) refl })
