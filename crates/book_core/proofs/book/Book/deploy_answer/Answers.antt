use Rattle.std.proofs.Common.{◌≡◌, sym, ◌∙◌, ap, arith}
use Rattle.event_log.specs.Deployment.{deployments, same_channels}
use Rattle.event_log.specs.History.{plan_in_force}
use Rattle.book_core.proofs.KeepingDeployments.{said-channels, said-many, said-none, said-used}
use Rattle.book_core.proofs.book.Book.deploy_answer.Goals as goal

pub returns-then-not-same_channels : goal.returns-then-not-same_channels
returns-then-not-same_channels g c =
    let force = c.deref.ensures ∙ (c.plan.ensures ∙ ap plan_in_force c.self.view_is) in
    said-channels c.args.self.now c.args.plan.now (ap (λ p. same_channels p c.args.plan.now) (sym force) ∙ (sym c.same_channels.ensures ∙ c.if-not-same_channels.true))

pub returns-in-Some : goal.returns-in-Some
returns-in-Some g c =
    let force = c.deref.ensures ∙ (c.plan.ensures ∙ ap plan_in_force c.self.view_is) in
    said-used c.args.self.now c.args.plan.now c.in-Some.d (ap (λ p. same_channels p c.args.plan.now) (sym force) ∙ (sym c.same_channels.ensures ∙ c.if-not-same_channels.false)) (sym c.first_lost.ensures ∙ c.in-Some.is)

pub returns-in-None : goal.returns-in-None
returns-in-None g c =
    let force = c.deref.ensures ∙ (c.plan.ensures ∙ ap plan_in_force c.self.view_is) in
    let many : c.deployments.result ≡ deployments c.args.self.now = c.deployments.ensures ∙ ap deployments c.self.view_is in
    said-none c.args.self.now c.args.plan.now (ap (λ p. same_channels p c.args.plan.now) (sym force) ∙ (sym c.same_channels.ensures ∙ c.if-not-same_channels.false)) (sym c.first_lost.ensures ∙ c.in-None.is)
    (omega (arith, many, c.if-deployments-lt-DEPLOYMENTS_MAX.true))

pub returns-in-None-2 : goal.returns-in-None-2
returns-in-None-2 g c =
    let force = c.deref.ensures ∙ (c.plan.ensures ∙ ap plan_in_force c.self.view_is) in
    let many : c.deployments.result ≡ deployments c.args.self.now = c.deployments.ensures ∙ ap deployments c.self.view_is in
    said-many c.args.self.now c.args.plan.now (ap (λ p. same_channels p c.args.plan.now) (sym force) ∙ (sym c.same_channels.ensures ∙ c.if-not-same_channels.false)) (sym c.first_lost.ensures ∙ c.in-None-2.is)
    (omega (arith, many, c.if-deployments-lt-DEPLOYMENTS_MAX.false))
