use Rattle.std.proofs.Common.{ap, ◌∙◌}
use Rattle.book_lock.specs.Shares.{DeskView}
use Rattle.book_lock.proofs.Planning.{looked}
use Rattle.book_lock.proofs.locked.Locked.plan_at.Goals as goal

pub returns-clause-looks : goal.returns-clause-looks
returns-clause-looks g c =
    looked g.A.Sharing.opening c.args.desk.now.seat c.remember.new.self.seat c.self.inside.log.0 c.self.inside.book c.self.invariant.2 c.observe.ensures.agreed
    (ap (λ (d : DeskView). d.seat) c.remember.ensures ∙ c.observe.ensures.seat)

pub returns-in_err-try_clone-clause-looks : goal.returns-in_err-try_clone-clause-looks
returns-in_err-try_clone-clause-looks g c =
    looked g.A.Sharing.opening c.args.desk.now.seat c.remember.new.self.seat c.self.inside.log.0 c.self.inside.book c.self.invariant.2 c.observe.ensures.agreed
    (ap (λ (d : DeskView). d.seat) c.remember.ensures ∙ c.observe.ensures.seat)
