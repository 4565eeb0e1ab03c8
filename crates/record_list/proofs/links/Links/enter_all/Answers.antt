use Rattle.std.proofs.Common.{rules, ◌∙◌, sym, subst, ◌+◌}
use Rattle.record_list.proofs.Entering.{Entered, step_entered, skip_entered}
use Rattle.record_list.proofs.links.Links.enter_all.Goals as goal
use Rattle.record_list.proofs.links.Links.enter_all.Goals.{then-stands, else-stands}

pub loop-d-preserved : goal.loop-d-preserved
loop-d-preserved g c = elim c.if-stands.branch [
  | then-stands w ↦ subst (λ t. Entered (c.loop-d.d + 1) c.args.self.now t) (sym w.self-is)
      (step_entered c.loop-d.d c.args.self.now c.loop-d.self w.enter.new.self c.loop-d.invariant w.enter.ensures.linked w.enter.ensures.members w.enter.ensures.others w.enter.ensures.items w.enter.ensures.visits w.enter.ensures.rises)
  | else-stands w ↦ subst (λ t. Entered (c.loop-d.d + 1) c.args.self.now t) (sym w.self-is)
      (skip_entered c.loop-d.d c.args.self.now c.loop-d.self c.loop-d.invariant (c.requires.linked c.loop-d.d (search rules) (sym c.stands.ensures ∙ w.if-stands.false)))
]
