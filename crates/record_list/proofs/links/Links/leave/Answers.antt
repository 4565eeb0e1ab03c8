use Rattle.std.proofs.Common.{◌≡◌, min, ◌+◌, ◌-◌, ◌^◌, refl, sym, ap, ◌∙◌}
use Rattle.record_list.specs.inner.Held.{set_node}
use Rattle.record_list.specs.inner.Chain.{items_at, change_node, without_link}
use Rattle.record_list.specs.inner.Linked.{IsSameChain}
use Rattle.record_list.specs.inner.Visit.{with_visited}
use Rattle.record_list.proofs.Leave.{set_same, held_left, others_left, gap_left, linked_like, same_like, same_then}
use Rattle.record_list.proofs.Rising.{apart_of}
use Rattle.record_list.proofs.Store.{rise_left}
use Rattle.record_list.proofs.links.Links.leave.Goals as goal

pub returns-in_default-clause-linked : goal.returns-in_default-clause-linked
returns-in_default-clause-linked g c = linked_like c.args.d c.args.self.now (with_visited c.args.self.now c.args.at.number (min (c.args.self.now.visits + 1) (2 ^ 64 - 1)) c.visit-node.result.now) (set_same c.args.at.number c.visit-node.result.now c.args.self.now.nodes.items c.visit-node.ensures.value) refl refl c.requires.linked

pub returns-in_default-clause-others : goal.returns-in_default-clause-others
returns-in_default-clause-others g c = λ e ne. same_like e c.args.self.now (with_visited c.args.self.now c.args.at.number (min (c.args.self.now.visits + 1) (2 ^ 64 - 1)) c.visit-node.result.now) (set_same c.args.at.number c.visit-node.result.now c.args.self.now.nodes.items c.visit-node.ensures.value) refl refl

pub returns-in_default-clause-items : goal.returns-in_default-clause-items
returns-in_default-clause-items g c = ap items_at (set_same c.args.at.number c.visit-node.result.now c.args.self.now.nodes.items c.visit-node.ensures.value)

pub join-requires-clause-rise : goal.join-requires-clause-rise
join-requires-clause-rise g c = rw c.set.ensures (rise_left c.args.d c.args.at.number c.visit-node.result.now c.args.self.now.nodes.items c.requires.rise c.requires.held c.visit-node.ensures.value)

pub join-requires-clause-gap : goal.join-requires-clause-gap
join-requires-clause-gap g c = rw c.set.ensures (gap_left c.args.d c.args.at.number c.visit-node.result.now c.in-Some.link c.args.self.now (with_visited c.args.self.now c.args.at.number (min (c.args.self.now.visits + 1) (2 ^ 64 - 1)) (without_link c.args.d c.visit-node.result.now)) (apart_of c.args.self.now.nodes.items c.requires.rise) c.requires.linked c.visit-node.ensures.value (sym c.get.ensures ∙ c.in-Some.is) refl refl refl)

pub returns-clause-items : goal.returns-clause-items
returns-clause-items g c =
    let left : items_at (set_node c.args.at.number (record c.visit-node.result.now { head = c.set.new.self }) c.args.self.now.nodes.items) ≡ items_at (change_node c.args.at.number (without_link c.args.d) c.args.self.now.nodes.items) =
    rw c.set.ensures (ap items_at (held_left c.args.d c.args.at.number c.visit-node.result.now c.in-Some.link c.args.self.now (with_visited c.args.self.now c.args.at.number (min (c.args.self.now.visits + 1) (2 ^ 64 - 1)) (without_link c.args.d c.visit-node.result.now)) (apart_of c.args.self.now.nodes.items c.requires.rise) c.requires.linked c.visit-node.ensures.value (sym c.get.ensures ∙ c.in-Some.is) refl refl refl)) in
    c.join.ensures.items ∙ left

pub returns-clause-others : goal.returns-clause-others
returns-clause-others g c = λ e ne.
    let left : IsSameChain e c.args.self.now (with_visited c.args.self.now c.args.at.number (min (c.args.self.now.visits + 1) (2 ^ 64 - 1)) (record c.visit-node.result.now { head = c.set.new.self })) = rw c.set.ensures (others_left c.args.d c.args.at.number c.visit-node.result.now c.in-Some.link c.args.self.now (with_visited c.args.self.now c.args.at.number (min (c.args.self.now.visits + 1) (2 ^ 64 - 1)) (without_link c.args.d c.visit-node.result.now)) (apart_of c.args.self.now.nodes.items c.requires.rise) c.requires.linked c.visit-node.ensures.value (sym c.get.ensures ∙ c.in-Some.is) refl refl refl e ne) in
    same_then e c.args.self.now (with_visited c.args.self.now c.args.at.number (min (c.args.self.now.visits + 1) (2 ^ 64 - 1)) (record c.visit-node.result.now { head = c.set.new.self })) c.join.new.self left (c.join.ensures.others e ne)
