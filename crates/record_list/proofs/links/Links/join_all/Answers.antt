use Rattle.std.proofs.Common.{rules, sym, subst, ◌∙◌, ◌+◌}
use Rattle.std.specs.declared.option.Option.TheVariants.{Some}
use Rattle.record_list.specs.inner.Linked.{IsOpen}
use Rattle.record_list.proofs.Closing.{Closed, same_open, step_closed, skip_closed}
use Rattle.record_list.proofs.links.Links.join_all.Goals as goal
use Rattle.record_list.proofs.links.Links.join_all.Goals.{in-Some, in_default}

pub join-requires-clause-rise : goal.join-requires-clause-rise
join-requires-clause-rise g c = c.loop-d.invariant.rise

pub join-requires-clause-gap : goal.join-requires-clause-gap
join-requires-clause-gap g c = same_open c.loop-d.d c.args.self.now c.loop-d.self (Some c.in-Some.link) (c.loop-d.invariant.rest c.loop-d.d (search rules)) (subst (IsOpen c.loop-d.d c.args.self.now) (sym c.get.ensures ∙ c.in-Some.is) (c.requires.gaps c.loop-d.d (search rules)))

pub loop-d-preserved : goal.loop-d-preserved
loop-d-preserved g c = elim c.match-get.branch [
  | in-Some w ↦ subst (λ t. Closed (c.loop-d.d + 1) c.args.self.now t) (sym w.self-is)
      (step_closed c.loop-d.d c.args.self.now c.loop-d.self w.join.new.self c.loop-d.invariant w.join.ensures.linked w.join.ensures.others w.join.ensures.items w.join.ensures.visits w.join.ensures.rises)
  | in_default w ↦ subst (λ t. Closed (c.loop-d.d + 1) c.args.self.now t) (sym w.self-is)
      (skip_closed c.loop-d.d c.args.self.now c.loop-d.self c.loop-d.invariant (subst (IsOpen c.loop-d.d c.args.self.now) (sym c.get.ensures ∙ w.in_default.is) (c.requires.gaps c.loop-d.d (search rules))))
]
