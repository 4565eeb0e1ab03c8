use Rattle.std.proofs.Common.{rules, true, ◌≡◌, ◌+◌, length, length-append, [], ◌∷◌, refl, sym, ◌∙◌, ap, arith}
use Rattle.std.specs.Arc.{arc_value}
use Rattle.std.specs.Result.{is_ok}
use Rattle.event_log.specs.declared.entry.Entry.TheVariants.{Deploy}
use Rattle.event_log.specs.History.{History, of_snapshot, followed_by}
use Rattle.event_log.specs.inner.Kept.{Kept}
use Rattle.event_log.specs.Room.{owed}
use Rattle.event_log.proofs.Following.{accepted-kept, deployments-more, message_count-same, plan-followed_by}
use Rattle.event_log.proofs.log.Log.deploy.Goals as goal

pub invariant_of-self : goal.invariant_of-self
invariant_of-self c =
    let h : History = of_snapshot c.self.inside.opening c.self.inside.entries.items in
    let is : h ≡ c.args.self.now.history = ap (λ (k : Kept). k.history) c.self.view_is in
    let ok : is_ok c.push.result ≡ true = search rules in
    let entry : c.new.result ≡ arc_value c.args.plan = c.new.ensures ∙ c.requires.same in
    rw (c.push.ensures.items, ok, entry) (record {
      plan_is = sym (plan-followed_by h (Deploy (arc_value c.args.plan)));
      deployments_are = ap (λ n. n + 1) c.self.invariant.deployments_are ∙ sym (deployments-more h (arc_value c.args.plan));
      owed_is = c.self.invariant.owed_is ∙ (ap owed is ∙ (sym c.requires.owed ∙ ap (λ (g : History). owed (followed_by g (Deploy (arc_value c.args.plan)))) (sym is)));
      within = omega (arith, c.requires.within, c.self.invariant.owed_is, ap owed is, length-append h.entries (Deploy (arc_value c.args.plan) ∷ []), ap (λ (g : History). length g.entries) is, ap (λ (g : History). g.opening.events_max) is);
      few = c.self.invariant.few;
      few_places = c.self.invariant.few_places;
      few_messages = c.self.invariant.few_messages;
      messages_are = c.self.invariant.messages_are ∙ sym (message_count-same h (followed_by h (Deploy (arc_value c.args.plan))) refl (accepted-kept h (Deploy (arc_value c.args.plan)) refl));
    })
