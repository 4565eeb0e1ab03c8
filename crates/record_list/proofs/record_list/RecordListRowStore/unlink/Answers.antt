use Rattle.std.proofs.Common.{◌≡◌, ◌<◌, arith, sym, ap, subst, ◌∙◌, refl, MatchOption}
use Rattle.std.specs.Option.{is_some}
use Rattle.row_store.specs.inner.Rows.{is_linked, unlinked, without}
use Rattle.record_list.specs.inner.Chain.{link_at, without_link, change_node}
use Rattle.record_list.proofs.Found.{found_at, absent_at}
use Rattle.record_list.proofs.Kept.{in_queue, linked_beyond, unlinked_beyond}
use Rattle.record_list.proofs.Rising.{rows_like}
use Rattle.record_list.proofs.Store.{marked_found, whole_changed, marks_left, left_items, left_linked}
use Rattle.record_list.proofs.record_list.RecordListRowStore.unlink.Goals as goal

pub returns-in_default-clause-stood : goal.returns-in_default-clause-stood
returns-in_default-clause-stood g c =
    let shown = ap (λ s. s.rows) c.self.view_is in
    let absent = absent_at c.args.number c.self.inside.links.nodes.items (rw c.in_default.is at c.index_of.ensures.missing) in
    rw (← shown) (sym (absent.linked_is c.args.d))

pub returns-in_default-clause-unlinked : goal.returns-in_default-clause-unlinked
returns-in_default-clause-unlinked g c =
    let shown = ap (λ s. s.rows) c.self.view_is in
    let absent = absent_at c.args.number c.self.inside.links.nodes.items (rw c.in_default.is at c.index_of.ensures.missing) in
    rw (← shown) (sym (absent.changed_is (λ row. record row { mask = without c.args.d row.mask })))

pub returns-then-d-ge-QUEUES-clause-stood : goal.returns-then-d-ge-QUEUES-clause-stood
returns-then-d-ge-QUEUES-clause-stood g c =
    let shown = ap (λ s. s.rows) c.self.view_is in
    rw (← shown) (sym (linked_beyond c.args.number c.args.d c.self.inside.links.nodes.items (omega arith) c.self.invariant.marked))

pub returns-then-d-ge-QUEUES-clause-unlinked : goal.returns-then-d-ge-QUEUES-clause-unlinked
returns-then-d-ge-QUEUES-clause-unlinked g c =
    let shown = ap (λ s. s.rows) c.self.view_is in
    rw (← shown) (sym (unlinked_beyond c.args.number c.args.d c.self.inside.links.nodes.items (omega arith) c.self.invariant.marked))

pub leave-requires-clause-held : goal.leave-requires-clause-held
leave-requires-clause-held g c = c.in-Some.ensures.found.0

pub invariant_of-self : goal.invariant_of-self
invariant_of-self g c =
    let s = c.self.inside.links in
    let lt : c.args.d < 32 = omega arith in
    let on = found_at c.args.number s.nodes.items c.self.invariant.rise c.in-Some.ensures.found.0 in
    let stood : c.leave.result ≡ is_some (link_at c.args.d on.node) = subst (λ o. MatchOption o ⊥ (λ n. c.leave.result ≡ is_some (link_at c.args.d n))) on.found c.leave.ensures.stood in
    whole_changed s c.leave.new.self c.args.number (without_link c.args.d) (λ row. record row { mask = without c.args.d row.mask }) c.self.invariant on (λ y. refl) (λ row. refl)
    (left_items c.args.d lt c.args.number on.node s c.leave.new.self c.leave.result on.found (marked_found c.args.number on.node s.nodes.items c.self.invariant.marked on.found) stood c.leave.ensures.items) (marks_left c.args.d lt) (left_linked c.args.d s c.leave.new.self c.self.invariant c.leave.ensures.linked c.leave.ensures.others)

pub returns-clause-stood : goal.returns-clause-stood
returns-clause-stood g c =
    let shown = ap (λ s. s.rows) c.self.view_is in
    let s = c.self.inside.links in
    let lt : c.args.d < 32 = omega arith in
    let on = found_at c.args.number s.nodes.items c.self.invariant.rise c.in-Some.ensures.found.0 in
    let stood : c.leave.result ≡ is_some (link_at c.args.d on.node) = subst (λ o. MatchOption o ⊥ (λ n. c.leave.result ≡ is_some (link_at c.args.d n))) on.found c.leave.ensures.stood in
    stood ∙ sym (in_queue c.args.d on.node lt (marked_found c.args.number on.node s.nodes.items c.self.invariant.marked on.found)) ∙ sym (on.linked_is c.args.d) ∙ ap (is_linked c.args.number c.args.d) shown

pub returns-clause-unlinked : goal.returns-clause-unlinked
returns-clause-unlinked g c =
    let shown = ap (λ s. s.rows) c.self.view_is in
    let s = c.self.inside.links in
    let lt : c.args.d < 32 = omega arith in
    let on = found_at c.args.number s.nodes.items c.self.invariant.rise c.in-Some.ensures.found.0 in
    let stood : c.leave.result ≡ is_some (link_at c.args.d on.node) = subst (λ o. MatchOption o ⊥ (λ n. c.leave.result ≡ is_some (link_at c.args.d n))) on.found c.leave.ensures.stood in
    rows_like (change_node c.args.number (without_link c.args.d) s.nodes.items) c.leave.new.self.nodes.items (left_items c.args.d lt c.args.number on.node s c.leave.new.self c.leave.result on.found (marked_found c.args.number on.node s.nodes.items c.self.invariant.marked on.found) stood c.leave.ensures.items)
    ∙ on.changed_is (without_link c.args.d) (λ row. record row { mask = without c.args.d row.mask }) (λ y. refl) ∙ ap (unlinked c.args.number c.args.d) shown
