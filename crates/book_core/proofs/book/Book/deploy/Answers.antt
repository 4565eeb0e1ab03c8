use Rattle.std.proofs.Common.{◌≡◌, ◌<◌, None, sym, ◌∙◌, ap, subst, arith}
use Rattle.std.specs.Arc.{arc_value}
use Rattle.plan_text.specs.Entries.{IsPlan}
use Rattle.event_log.specs.declared.entry.Entry.TheVariants.{Deploy}
use Rattle.event_log.specs.Deployment.{deploy_answer, deployments}
use Rattle.event_log.specs.History.{History, followed_by}
use Rattle.event_log.proofs.Events.{Deployable}
use Rattle.event_log.specs.Room.{is_over_limit, owed}
use Rattle.book_core.proofs.KeepingDeployments.{deployed-few, deployed-owed, has-room, kept-deployed, never-memory}
use Rattle.book_core.proofs.book.Book.deploy.Goals as goal

pub returns-in-Some-clause-memory : goal.returns-in-Some-clause-memory
returns-in-Some-clause-memory g c = λ memory.
    absurd (never-memory c.args.self.now (arc_value c.args.plan) c.in-Some.refusal (ap (deploy_answer c.args.self.now) (sym c.deref.ensures) ∙ (sym c.deploy_answer.ensures ∙ c.in-Some.is)) memory)

pub deploy-requires-clause-few : goal.deploy-requires-clause-few
deploy-requires-clause-few g c =
    let h = c.self.inside.log.history in
    let plan = arc_value c.args.plan in
    let good : IsPlan plan = subst IsPlan c.deref-2.ensures c.rules.ensures in
    let said : deploy_answer h plan ≡ None = ap (λ g. deploy_answer g plan) c.self.view_is ∙ (ap (deploy_answer c.args.self.now) (sym c.deref.ensures) ∙ (sym c.deploy_answer.ensures ∙ c.in_default.is)) in
    let may : Deployable h plan = record { good = good; allowed = said; room = has-room (is_over_limit h 0) c.room.result c.room.ensures c.if-not-room.false } in
    subst (λ (k : History). deployments k < 1000) (sym c.reserve.ensures.history) (deployed-few _ _ _ _ _ _ c.self.invariant plan may)

pub deploy-requires-clause-owed : goal.deploy-requires-clause-owed
deploy-requires-clause-owed g c =
    let h = c.self.inside.log.history in
    let plan = arc_value c.args.plan in
    let good : IsPlan plan = subst IsPlan c.deref-2.ensures c.rules.ensures in
    let said : deploy_answer h plan ≡ None = ap (λ g. deploy_answer g plan) c.self.view_is ∙ (ap (deploy_answer c.args.self.now) (sym c.deref.ensures) ∙ (sym c.deploy_answer.ensures ∙ c.in_default.is)) in
    let may : Deployable h plan = record { good = good; allowed = said; room = has-room (is_over_limit h 0) c.room.result c.room.ensures c.if-not-room.false } in
    subst (λ (k : History). owed (followed_by k (Deploy plan)) ≡ owed k) (sym c.reserve.ensures.history) (deployed-owed _ _ _ _ _ _ c.self.invariant plan may)

pub invariant_of-self-2 : goal.invariant_of-self-2
invariant_of-self-2 g c =
    let h = c.self.inside.log.history in
    let plan = arc_value c.args.plan in
    let good : IsPlan plan = subst IsPlan c.deref-2.ensures c.rules.ensures in
    let said : deploy_answer h plan ≡ None = ap (λ g. deploy_answer g plan) c.self.view_is ∙ (ap (deploy_answer c.args.self.now) (sym c.deref.ensures) ∙ (sym c.deploy_answer.ensures ∙ c.in_default.is)) in
    let may : Deployable h plan = record { good = good; allowed = said; room = has-room (is_over_limit h 0) c.room.result c.room.ensures c.if-not-room.false } in
    rw (c.deploy.ensures.history, c.reserve.ensures.history)
    (kept-deployed _ _ _ _ _ _ c.self.invariant plan may c.deploy.new.self.room (omega (arith, c.in_ok-reserve.ensures.ok, c.deploy.ensures.room)))
