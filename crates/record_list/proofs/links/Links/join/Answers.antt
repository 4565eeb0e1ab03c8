use Rattle.std.proofs.Common.{rules}
use Rattle.record_list.specs.inner.Chain.{chain}
use Rattle.record_list.proofs.Join.{before_held, half_rises, after_is_held, linked_joined, members_joined, others_joined, items_joined}
use Rattle.std.specs.declared.option.Option.TheVariants.{None}
use Rattle.record_list.proofs.Rising.{apart_of}
use Rattle.record_list.proofs.links.Links.join.Goals as goal

pub point_on-requires-clause-held : goal.point_on-requires-clause-held
point_on-requires-clause-held g c = let gap = c.requires.gap in before_held c.args.d c.args.prev gap.front gap.on (chain gap.from gap.back None) c.args.self.now.nodes.items gap.linked gap.last

pub point_back-requires-clause-rise : goal.point_back-requires-clause-rise
point_back-requires-clause-rise g c = half_rises c.args.d c.args.prev c.args.next c.args.self.now c.point_on.new.self c.requires.rise c.point_on.ensures.nodes

pub point_back-requires-clause-held : goal.point_back-requires-clause-held
point_back-requires-clause-held g c = after_is_held c.args.d c.args.prev c.args.next c.args.self.now c.point_on.new.self (apart_of c.args.self.now.nodes.items c.requires.rise) c.requires.gap c.point_on.ensures.nodes

pub returns-clause-linked : goal.returns-clause-linked
returns-clause-linked g c = linked_joined c.args.d c.args.prev c.args.next c.args.self.now c.point_on.new.self c.point_back.new.self (apart_of c.args.self.now.nodes.items c.requires.rise) c.requires.gap c.point_on.ensures.nodes c.point_back.ensures.nodes c.point_on.ensures.heads c.point_back.ensures.heads c.point_on.ensures.tails c.point_back.ensures.tails (search rules) (search rules)

pub returns-clause-members : goal.returns-clause-members
returns-clause-members g c = members_joined c.args.d c.args.prev c.args.next c.args.self.now c.point_on.new.self c.point_back.new.self (apart_of c.args.self.now.nodes.items c.requires.rise) c.requires.gap c.point_on.ensures.nodes c.point_back.ensures.nodes c.point_on.ensures.heads c.point_back.ensures.heads c.point_on.ensures.tails c.point_back.ensures.tails (search rules) (search rules)

pub returns-clause-others : goal.returns-clause-others
returns-clause-others g c = others_joined c.args.d c.args.prev c.args.next c.args.self.now c.point_on.new.self c.point_back.new.self (apart_of c.args.self.now.nodes.items c.requires.rise) c.requires.gap c.point_on.ensures.nodes c.point_back.ensures.nodes c.point_on.ensures.heads c.point_back.ensures.heads c.point_on.ensures.tails c.point_back.ensures.tails (search rules) (search rules)

pub returns-clause-items : goal.returns-clause-items
returns-clause-items g c = items_joined c.args.d c.args.prev c.args.next c.args.self.now c.point_on.new.self c.point_back.new.self (apart_of c.args.self.now.nodes.items c.requires.rise) c.requires.gap c.point_on.ensures.nodes c.point_back.ensures.nodes c.point_on.ensures.heads c.point_back.ensures.heads c.point_on.ensures.tails c.point_back.ensures.tails (search rules) (search rules)
