use Rattle.std.proofs.Common.{rules, refl, slice_set}
use Rattle.std.specs.declared.option.Option.TheVariants.{Some}
use Rattle.record_list.proofs.Enter.{last_held, linked_entered, members_entered, others_entered, items_entered}
use Rattle.record_list.proofs.Rising.{apart_of}
use Rattle.record_list.proofs.links.Links.enter.Goals as goal

pub point_on-requires-clause-held : goal.point_on-requires-clause-held
point_on-requires-clause-held g c = last_held c.args.d c.args.at c.args.self.now c.args.self.now c.args.self.now (apart_of c.args.self.now.nodes.items c.requires.rise) c.requires.hangs

pub returns-clause-linked : goal.returns-clause-linked
returns-clause-linked g c = linked_entered c.args.d c.args.at c.args.self.now c.point_on.new.self (record c.point_on.new.self { tails = slice_set c.point_on.new.self.tails c.args.d (Some c.args.at) }) (apart_of c.args.self.now.nodes.items c.requires.rise) c.requires.hangs c.point_on.ensures.nodes c.point_on.ensures.heads c.point_on.ensures.tails refl refl refl (search rules) (search rules)

pub returns-clause-members : goal.returns-clause-members
returns-clause-members g c = members_entered c.args.d c.args.at c.args.self.now c.point_on.new.self (record c.point_on.new.self { tails = slice_set c.point_on.new.self.tails c.args.d (Some c.args.at) }) (apart_of c.args.self.now.nodes.items c.requires.rise) c.requires.hangs c.point_on.ensures.nodes c.point_on.ensures.heads c.point_on.ensures.tails refl refl refl (search rules) (search rules)

pub returns-clause-others : goal.returns-clause-others
returns-clause-others g c = others_entered c.args.d c.args.at c.args.self.now c.point_on.new.self (record c.point_on.new.self { tails = slice_set c.point_on.new.self.tails c.args.d (Some c.args.at) }) (apart_of c.args.self.now.nodes.items c.requires.rise) c.requires.hangs c.point_on.ensures.nodes c.point_on.ensures.heads c.point_on.ensures.tails refl refl refl (search rules) (search rules)

pub returns-clause-items : goal.returns-clause-items
returns-clause-items g c = items_entered c.args.d c.args.at c.args.self.now c.point_on.new.self (record c.point_on.new.self { tails = slice_set c.point_on.new.self.tails c.args.d (Some c.args.at) }) (apart_of c.args.self.now.nodes.items c.requires.rise) c.requires.hangs c.point_on.ensures.nodes c.point_on.ensures.heads c.point_on.ensures.tails refl refl refl (search rules) (search rules)
