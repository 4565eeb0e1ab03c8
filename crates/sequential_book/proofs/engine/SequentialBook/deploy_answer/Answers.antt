use Rattle.std.proofs.Common.{◌≡◌, ◌≤◌, ◌<◌, true, false, None, Some, sym, ◌∙◌, ap, arith}
use Rattle.event_log.specs.Deployment.{deployments, first_lost, same_channels}
use Rattle.sequential_book.proofs.Deploying.{said-channels, said-many, said-none, said-used}
use Rattle.sequential_book.proofs.engine.SequentialBook.deploy_answer.Goals as goal

pub returns-then-not-same_channels : goal.returns-then-not-same_channels
returns-then-not-same_channels c =
    let force = c.deref.ensures ∙ c.plan.ensures in
    said-channels c.args.self.now c.args.plan.now (ap (λ p. same_channels p c.args.plan.now) (sym force) ∙ (sym c.same_channels.ensures ∙ c.if-not-same_channels.true))

pub returns-in-Some : goal.returns-in-Some
returns-in-Some c =
    let force = c.deref.ensures ∙ c.plan.ensures in
    said-used c.args.self.now c.args.plan.now c.in-Some.d (ap (λ p. same_channels p c.args.plan.now) (sym force) ∙ (sym c.same_channels.ensures ∙ c.if-not-same_channels.false)) (sym c.in_ok-d.ensures ∙ c.in-Some.is)

pub returns-in-None : goal.returns-in-None
returns-in-None c =
    let force = c.deref.ensures ∙ c.plan.ensures in
    said-none c.args.self.now c.args.plan.now (ap (λ p. same_channels p c.args.plan.now) (sym force) ∙ (sym c.same_channels.ensures ∙ c.if-not-same_channels.false)) (sym c.in_ok-d.ensures ∙ c.in-None.is) (omega (arith, c.deployments.ensures, c.if-deployments.true))

pub returns-in-None-2 : goal.returns-in-None-2
returns-in-None-2 c =
    let force = c.deref.ensures ∙ c.plan.ensures in
    said-many c.args.self.now c.args.plan.now (ap (λ p. same_channels p c.args.plan.now) (sym force) ∙ (sym c.same_channels.ensures ∙ c.if-not-same_channels.false)) (sym c.in_ok-d.ensures ∙ c.in-None-2.is) (omega (arith, c.deployments.ensures, c.if-deployments.false))
