use Rattle.std.proofs.Common.{◌≡◌, IfSome, ap, ◌∙◌, subst, slice_index_or}
use Rattle.std.specs.Prelude.{OnSome, remove}
use Rattle.record_list.specs.inner.Chain.{items_at}
use Rattle.record_list.proofs.Store.{rise_taken, open_taken, whole_taken}
use Rattle.record_list.proofs.links.Links.take_out.Goals as goal

pub join_all-requires-clause-rise : goal.join_all-requires-clause-rise
join_all-requires-clause-rise g c =
    let s = c.args.self.now in
    let there = subst (λ o. IfSome o (λ y. y ≡ slice_index_or s.nodes.items c.args.index y)) c.unwrap-node.ensures c.remove.ensures.value in
    let gone = c.give_back.ensures.nodes ∙ subst (λ o. OnSome o (c.remove.new.self.items ≡ remove s.nodes.items c.args.index)) c.unwrap-node.ensures c.remove.ensures.items in
    rise_taken s c.give_back.new.self c.args.index c.unwrap-node.result c.requires.whole c.requires.within there gone c.give_back.ensures.rest.0 c.give_back.ensures.rest.1

pub join_all-requires-clause-gaps : goal.join_all-requires-clause-gaps
join_all-requires-clause-gaps g c =
    let s = c.args.self.now in
    let there = subst (λ o. IfSome o (λ y. y ≡ slice_index_or s.nodes.items c.args.index y)) c.unwrap-node.ensures c.remove.ensures.value in
    let gone = c.give_back.ensures.nodes ∙ subst (λ o. OnSome o (c.remove.new.self.items ≡ remove s.nodes.items c.args.index)) c.unwrap-node.ensures c.remove.ensures.items in
    open_taken s c.give_back.new.self c.args.index c.unwrap-node.result c.requires.whole c.requires.within there gone c.give_back.ensures.rest.0 c.give_back.ensures.rest.1

pub returns-clause-whole : goal.returns-clause-whole
returns-clause-whole g c =
    let s = c.args.self.now in
    let there = subst (λ o. IfSome o (λ y. y ≡ slice_index_or s.nodes.items c.args.index y)) c.unwrap-node.ensures c.remove.ensures.value in
    let gone = c.give_back.ensures.nodes ∙ subst (λ o. OnSome o (c.remove.new.self.items ≡ remove s.nodes.items c.args.index)) c.unwrap-node.ensures c.remove.ensures.items in
    whole_taken s c.give_back.new.self c.args.index c.unwrap-node.result c.requires.whole c.requires.within there gone c.give_back.ensures.rest.0 c.give_back.ensures.rest.1 c.join_all.new.self c.join_all.ensures.items c.join_all.ensures.linked

pub returns-clause-items : goal.returns-clause-items
returns-clause-items g c =
    let gone = c.give_back.ensures.nodes ∙ subst (λ o. OnSome o (c.remove.new.self.items ≡ remove c.args.self.now.nodes.items c.args.index)) c.unwrap-node.ensures c.remove.ensures.items in
    c.join_all.ensures.items ∙ ap items_at gone
