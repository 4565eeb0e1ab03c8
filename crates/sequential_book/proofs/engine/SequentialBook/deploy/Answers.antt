use Rattle.std.proofs.Common.{◌≡◌, None, length, sym, ◌∙◌, ap, subst}
use Rattle.std.specs.Arc.{arc_value}
use Rattle.plan_text.specs.Entries.{IsPlan, PlanEntry}
use Rattle.event_log.specs.Deployment.{deploy_answer}
use Rattle.event_log.proofs.Events.{Deployable}
use Rattle.event_log.proofs.Deploying.{channels-same}
use Rattle.sequential_book.proofs.Following.{channels-kept}
use Rattle.sequential_book.proofs.engine.SequentialBook.deploy.Goals as goal

pub book-requires-clause-judgeable : goal.book-requires-clause-judgeable
book-requires-clause-judgeable c =
    let plan = arc_value c.args.plan in
    let good : IsPlan plan = subst IsPlan c.deref-2.ensures c.rules-2.ensures in
    let said : deploy_answer c.args.self.now plan ≡ None = ap (deploy_answer c.args.self.now) (sym c.deref.ensures) ∙ (sym c.in_ok-refusal.ensures ∙ c.in_default.is) in
    let may : Deployable c.args.self.now plan = record { good = good; allowed = said; room = sym c.in_ok-is_over_limit.ensures ∙ c.if-branch.false } in
    ap (λ (p : PlanEntry). length p.channels) c.new.ensures ∙ (channels-same c.args.self.now plan may ∙ channels-kept c.args.self.now c.rules.ensures)
