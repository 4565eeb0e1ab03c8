use Rattle.std.proofs.Common.{rules, ◌∙◌, sym}
use Rattle.std.proofs.lemmas.Bool.{eqb-true}
use Rattle.record_list.proofs.Rising.{stands_there}
use Rattle.record_list.proofs.links.Links.stands_at.Goals as goal

pub returns-in-Some-clause-found : goal.returns-in-Some-clause-found
returns-in-Some-clause-found g c = λ yes. stands_there c.args.number c.args.index c.in-Some.node.now c.args.self.now.nodes.items c.requires (search rules) c.in-Some.ensures.lookup (sym c.number.ensures ∙ eqb-true c.number.result c.args.number yes)
