use Rattle.std.proofs.Common.{rules, slice_index_or, refl, sym, ap, ◌∙◌}
use Rattle.std.specs.VecDeque.{deque_with_item}
use Rattle.std.specs.declared.option.Option.TheVariants.{Some}
use Rattle.record_list.proofs.Rising.{node_there, index_held}
use Rattle.record_list.proofs.links.Links.visit.Goals as goal

pub returns : goal.returns
returns g c =
    let s = c.args.self.now in
    let number = c.args.at.number in
    let at = (index_held number c.index_of.result c.unwrap-index.result s.nodes.items c.unwrap-index.ensures c.index_of.ensures.found).1 in
    let held = c.requires.held in
    let value = c.index_mut.ensures.value ∙ ap (λ k. slice_index_or s.nodes.items k c.index_mut.result.now) at ∙ node_there number held.0 c.index_mut.result.now s.nodes.items held.1 in
    ((refl {a = c.index_mut.result.ghost_name}, λ w. λ i. record s { nodes = deque_with_item s.nodes (at i) w; visits = c.saturating_add-self.ensures i }), record { writes_back = tt; value = held.1 ∙ ap Some (sym value); fits = search rules })
