use Rattle.std.proofs.Common.{rules, ◌≡◌, ◌∙◌, None, ap, refl}
use Rattle.er7_tree.specs.Path.{header_place, raw}
use Rattle.er7_tree.proofs.HeaderName.{header_name}
use Rattle.er7_tree.proofs.message.Message.msh.Goals as goal
use Rattle.er7_tree.proofs.message.Message.msh.Goals.{in-None, in-Some}

pub returns-clause-value : goal.returns-clause-value
returns-clause-value c = elim c.match-component.branch [ in-None w ↦ search rules | in-Some w ↦ search rules ]

pub returns-clause-name : goal.returns-clause-name
returns-clause-name c = λ zero none.
    let place : header_place c.args.field c.args.component ≡ header_place 0 None = rw (zero, none) refl in
    returns-clause-value c ∙ ap (raw c.args.self.now) place ∙ header_name c.args.self.now c.raw.ensures.message
