use Rattle.std.proofs.Common.{rules, refl, sym, ◌≡◌, ◌∙◌, ap, ℕ, Ok, ◌++◌, ◌∷◌, []}
use Rattle.std.specs.Prelude.{length}
use Rattle.std.specs.Arc.{arc_value}
use Rattle.plan_text.specs.Entries.{PlanEntry}
use Rattle.event_log.specs.declared.entry.Entry.TheVariants.{Deploy}
use Rattle.event_log.specs.History.{followed_by, plan_in_force}
use Rattle.event_log.proofs.Deploying.{channels-same}
use Rattle.event_log.specs.Event.{Does, MemoryIsLast, deploy}
use Rattle.event_log.proofs.Events.{deployable, does-follow}
use Rattle.event_log.proofs.Following.{plan-followed_by}
use Rattle.book_lock.specs.Rises.{SharedBook}
use Rattle.book_lock.specs.declared.log_entry.LogEntry.TheVariants.{Booked}
use Rattle.book_lock.specs.Log.{Log}
use Rattle.book_lock.proofs.Logging.{book_called, called_own, own_none}
use Rattle.book_lock.proofs.HandedIn.{counted_next, manned_none}
use Rattle.book_lock.proofs.Durability.{durable_more}
use Rattle.book_lock.proofs.locked.Locked.deploy.Goals as goal

pub invariant_of-self-2 : goal.invariant_of-self-2
invariant_of-self-2 g c =
    let h : SharedBook = record { book = c.self.inside.book; opening = c.self.inside.opening; first = c.self.inside.first; admitted = c.self.inside.admitted } in
    let plan : PlanEntry = arc_value c.args.plan in
    let rise = c.three_sums.ensures.deployment h.book plan c.rules.ensures.sound (does-follow (deploy (arc_value c.args.plan)) c.self.inside.book c.deploy.new.self tt c.in_ok-deploy.ensures.does) in
    let same : length (plan_in_force (followed_by h.book (Deploy plan))).channels ≡ length (plan_in_force h.book).channels =
    ap (λ (p : PlanEntry). length p.channels) (plan-followed_by h.book (Deploy plan)) ∙ channels-same h.book plan (deployable h.book plan (does-follow (deploy (arc_value c.args.plan)) c.self.inside.book c.deploy.new.self tt c.in_ok-deploy.ensures.does)) in
    let added : c.push.new.self.0 ≡ c.self.inside.log.0 ++ (c.observe.new.seat.0, Booked (Deploy plan)) ∷ [] =
    (ap (λ (l : Log × ℕ). l.0) c.push.ensures.log ∙ ((λ i. c.observe.new.self.0 ++ (c.observe.new.seat.0, Booked (Deploy ((c.plan.ensures ∙ (ap plan_in_force c.in_ok-deploy.ensures.does.booked ∙ plan-followed_by c.self.inside.book (Deploy (arc_value c.args.plan)))) i))) ∷ []) ∙ ap (λ (l : Log × ℕ). l.0 ++ (c.observe.new.seat.0, Booked (Deploy plan)) ∷ []) c.observe.ensures.same)) in
    let n = counted_next h (Deploy plan) c.deploy.new.self g.A.Sharing.counts g.A.Sharing.first g.A.Sharing.channels c.observe.new.seat.0 c.self.inside.log.0 c.push.new.self.0
    c.in_ok-deploy.ensures.does.booked same c.self.invariant.0 c.self.invariant.1 rise added in
    (n.0, n.1, book_called g.A.Sharing.opening c.self.inside.log.0 c.push.new.self.0 c.observe.new.seat.0 (deploy plan) c.self.inside.book c.deploy.new.self (Ok tt) c.self.invariant.2 c.in_ok-deploy.ensures.does added, ap (λ (l : Log × ℕ). l.1) c.push.ensures.log ∙ (ap (λ (l : Log × ℕ). l.1) c.observe.ensures.same ∙ c.self.invariant.3), c.self.invariant.4, manned_none g.A.Sharing.desks g.A.Sharing.stations c.self.inside.log.0 c.push.new.self.0 (c.observe.new.seat.0, Booked (Deploy plan)) c.self.invariant.5 added (refl, refl, refl), durable_more g.A.Sharing.opening g.A.Sharing.committed c.self.inside.log.0 c.push.new.self.0 (c.observe.new.seat.0, Booked (Deploy plan)) c.self.inside.durable c.self.inside.unread c.self.invariant.6 refl added)

pub returns-clause-channels : goal.returns-clause-channels
returns-clause-channels g c = channels-same c.self.inside.book (arc_value c.args.plan) (deployable c.self.inside.book (arc_value c.args.plan) (does-follow (deploy (arc_value c.args.plan)) c.self.inside.book c.deploy.new.self tt c.in_ok-deploy.ensures.does)) ∙ c.self.invariant.0.channels_are

pub returns-clause-call : goal.returns-clause-call
returns-clause-call g c =
    called_own g.A.Sharing.opening (deploy (arc_value c.args.plan)) c.self.inside.seat c.observe.new.seat c.push.new.seat c.self.inside.log.0 c.observe.new.self.0 c.push.new.self.0 c.self.inside.book c.deploy.new.self (Ok tt) c.self.invariant.2
    c.observe.ensures.agreed c.in_ok-deploy.ensures.does c.in_ok-deploy.ensures.memory c.observe.ensures.seat (ap (λ (l : Log × ℕ). l.0) c.observe.ensures.same) (ap (λ (l : Log × ℕ). l.0) c.push.ensures.log ∙ (λ i. c.observe.new.self.0 ++ (c.observe.new.seat.0, Booked (Deploy ((c.plan.ensures ∙ (ap plan_in_force c.in_ok-deploy.ensures.does.booked ∙ plan-followed_by c.self.inside.book (Deploy (arc_value c.args.plan)))) i))) ∷ [])) c.push.ensures.seat

pub returns-in_err-deploy-clause-call : goal.returns-in_err-deploy-clause-call
returns-in_err-deploy-clause-call g c =
    let does : Does (deploy (arc_value c.args.plan)) c.self.inside.book c.deploy.new.self c.from_residual.result = search rules in
    let memory : MemoryIsLast (deploy (arc_value c.args.plan)) c.self.inside.book c.from_residual.result = search rules in
    called_own g.A.Sharing.opening (deploy (arc_value c.args.plan)) c.self.inside.seat c.observe.new.seat c.observe.new.seat c.self.inside.log.0 c.self.inside.log.0 c.self.inside.log.0 c.self.inside.book c.deploy.new.self c.from_residual.result c.self.invariant.2
    c.observe.ensures.agreed does memory c.observe.ensures.seat refl (own_none c.observe.new.seat.0 (deploy (arc_value c.args.plan)) c.from_residual.result c.self.inside.log.0 c.from_residual.ensures.0) (c.observe.ensures.seat ∙ (λ i. (sym (ap (λ (s : ℕ × Log). s.0) c.observe.ensures.seat) i, c.self.inside.log.0)))
