use Rattle.std.proofs.Common.{sym, ap, ◌∙◌, arith}
use Rattle.row_store.specs.inner.Rows.{front_of}
use Rattle.record_list.proofs.Kept.{front_none, front_some, front_beyond}
use Rattle.record_list.proofs.record_list.RecordListRowStore.front.Goals as goal

pub returns-then-d-ge-QUEUES-clause-first : goal.returns-then-d-ge-QUEUES-clause-first
returns-then-d-ge-QUEUES-clause-first g c =
    let shown = ap (λ s. s.rows) c.self.view_is in
    rw (← shown) (sym (front_beyond c.args.d c.self.inside.links.nodes.items (omega arith) c.self.invariant.marked))

pub returns-in_err-at-clause-first : goal.returns-in_err-at-clause-first
returns-in_err-at-clause-first g c =
    let shown = ap (λ s. s.rows) c.self.view_is in
    c.from_residual.ensures ∙ rw (← shown) (sym (front_none c.args.d c.self.inside.links.nodes.items (omega arith) c.self.invariant.marked (sym c.in_err-at.was ∙ (c.self.invariant.linked c.args.d (omega arith)).1)))

pub returns-clause-first : goal.returns-clause-first
returns-clause-first g c =
    let shown = ap (λ s. s.rows) c.self.view_is in
    let on = front_some c.args.d c.in_ok-at.at c.self.inside.links.nodes.items (omega arith) c.self.invariant.marked (sym c.in_ok-at.was ∙ (c.self.invariant.linked c.args.d (omega arith)).1) in
    sym on ∙ ap (front_of c.args.d) shown
