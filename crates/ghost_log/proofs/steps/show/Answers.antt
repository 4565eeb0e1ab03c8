use Rattle.std.proofs.Common.{ℕ, List, [], ap, ◌∙◌}
use Rattle.std.proofs.lemmas.List.{append-nil}
use Rattle.ghost_log.specs.inner.Passes.{joint_view}
use Rattle.ghost_log.proofs.steps.show.Goals as goal

pub returns-clause-keeper : goal.returns-clause-keeper
returns-clause-keeper g c =
    c.add.ensures.keeper ∙ ap (λ (l : List (ℕ × g.row.E.Denot)). (joint_view l c.args.keeper.now.me.0.issued c.args.number l, [])) (append-nil c.args.keeper.now.me.0.log)
