use Rattle.std.proofs.Common.{◌<◌, ◌++◌, ◌∷◌, [], ap, ◌∙◌, subst, sym}
use Rattle.std.specs.Prelude.{All}
use Rattle.record_list.specs.inner.Chain.{items_at}
use Rattle.record_list.proofs.Kept.{whole_from}
use Rattle.record_list.proofs.Leave.{linked_like}
use Rattle.record_list.proofs.Store.{rise_pushed, hangs_pushed, linked_pushed, rows_pushed, whole_pushed}
use Rattle.record_list.proofs.record_list.RecordListRowStore.push.Goals as goal

pub enter_all-requires-clause-rise : goal.enter_all-requires-clause-rise
enter_all-requires-clause-rise g c = rise_pushed c.self.inside.links c.add.new.self c.self.invariant c.args.number c.args.mask (record { head = c.in-Ok.head; item = c.args.item }) c.in-Ok.ensures.row c.in-Ok-add.ensures.added c.in-Ok-add.ensures.rest.0 c.in-Ok-add.ensures.rest.1 (subst (λ rs. All (λ row. row.number < c.args.number) rs) (sym (ap (λ s. s.rows) c.self.view_is)) c.requires) c.in-Ok.ensures.links

pub enter_all-requires-clause-hangs : goal.enter_all-requires-clause-hangs
enter_all-requires-clause-hangs g c = hangs_pushed c.self.inside.links c.add.new.self c.self.invariant c.args.number c.args.mask (record { head = c.in-Ok.head; item = c.args.item }) c.in-Ok.ensures.row c.in-Ok-add.ensures.added c.in-Ok-add.ensures.rest.0 c.in-Ok-add.ensures.rest.1 (subst (λ rs. All (λ row. row.number < c.args.number) rs) (sym (ap (λ s. s.rows) c.self.view_is)) c.requires) c.in-Ok.ensures.links

pub enter_all-requires-clause-linked : goal.enter_all-requires-clause-linked
enter_all-requires-clause-linked g c = linked_pushed c.self.inside.links c.add.new.self c.self.invariant c.args.number c.args.mask (record { head = c.in-Ok.head; item = c.args.item }) c.in-Ok.ensures.row c.in-Ok-add.ensures.added c.in-Ok-add.ensures.rest.0 c.in-Ok-add.ensures.rest.1 (subst (λ rs. All (λ row. row.number < c.args.number) rs) (sym (ap (λ s. s.rows) c.self.view_is)) c.requires) c.in-Ok.ensures.links

pub invariant_of-self : goal.invariant_of-self
invariant_of-self g c = whole_pushed c.self.inside.links c.add.new.self c.self.invariant c.args.number c.args.mask (record { head = c.in-Ok.head; item = c.args.item }) c.in-Ok.ensures.row c.in-Ok-add.ensures.added c.in-Ok-add.ensures.rest.0 c.in-Ok-add.ensures.rest.1 (subst (λ rs. All (λ row. row.number < c.args.number) rs) (sym (ap (λ s. s.rows) c.self.view_is)) c.requires) c.in-Ok.ensures.links c.enter_all.new.self c.ranges.mask.fits c.enter_all.ensures.items c.enter_all.ensures.linked

pub invariant_of-self-in-Err : goal.invariant_of-self-in-Err
invariant_of-self-in-Err g c =
    let s = c.self.inside.links in
    let same = c.in-Err.ensures.added.1 in
    whole_from s.nodes.items c.add.new.self (ap items_at same) c.self.invariant.rise c.self.invariant.marked
    (λ d lt. linked_like d s c.add.new.self same c.in-Err.ensures.rest.0 c.in-Err.ensures.rest.1 (c.self.invariant.linked d lt))

pub returns-in-Ok-add-clause-ok : goal.returns-in-Ok-add-clause-ok
returns-in-Ok-add-clause-ok g c =
    let shown = ap (λ s. s.rows) c.self.view_is in
    rows_pushed c.self.inside.links c.add.new.self c.self.invariant c.args.number c.args.mask (record { head = c.in-Ok.head; item = c.args.item }) c.in-Ok.ensures.row c.in-Ok-add.ensures.added c.in-Ok-add.ensures.rest.0 c.in-Ok-add.ensures.rest.1 (subst (λ rs. All (λ row. row.number < c.args.number) rs) (sym (ap (λ s. s.rows) c.self.view_is)) c.requires) c.in-Ok.ensures.links c.enter_all.new.self c.enter_all.ensures.items
    ∙ ap (λ rs. rs ++ record { number = c.args.number; item = c.args.item; mask = c.args.mask } ∷ []) shown
