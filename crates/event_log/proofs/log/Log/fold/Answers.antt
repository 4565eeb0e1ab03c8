use Rattle.std.proofs.Common.{rules, ◌≡◌, ◌+◌, length, refl, sym, ◌∙◌, ap, arith}
use Rattle.std.specs.Arc.{arc_value}
use Rattle.std.specs.Option.{option_map_or}
use Rattle.event_log.specs.Folding.{closing}
use Rattle.event_log.specs.History.{History, begun, of_snapshot}
use Rattle.event_log.specs.inner.Kept.{Kept}
use Rattle.event_log.specs.Room.{owed}
use Rattle.event_log.proofs.Totals.{accepted-entries}
use Rattle.event_log.proofs.log.Log.fold.Goals as goal

pub invariant_of-self : goal.invariant_of-self
invariant_of-self c =
    let h : History = of_snapshot c.self.inside.opening c.self.inside.entries.items in
    let is : h ≡ c.args.self.now.history = ap (λ (k : Kept). k.history) c.self.view_is in
    let many : c.len.result ≡ length c.self.inside.entries.items = search rules in
    let closed : c.advance.new.self ≡ closing h c.args.forgotten c.args.remembered.items
    = c.advance.ensures ∙ (λ i. record {
      plan = (ap (λ d. option_map_or (λ p. arc_value p) d h.opening.plan) c.take.ensures.value ∙ c.self.invariant.plan_is) i;
      events_max = h.opening.events_max;
      places = h.opening.places + many i;
      messages = c.self.invariant.messages_are i;
      deployments = c.self.invariant.deployments_are i;
      prunings = h.opening.prunings + 1;
      forgotten = c.args.forgotten;
      remembered = c.args.remembered.items;
    }) in
    let few = c.self.invariant.few in
    let within = c.self.invariant.within in
    let places = ap (λ (g : History). g.opening.places) is in
    let messages = ap (λ (g : History). g.opening.messages) is in
    let prunings = ap (λ (g : History). g.opening.prunings) is in
    rw (c.in_ok-entries.ensures.items, c.take.ensures.after, closed) (record {
      plan_is = refl;
      deployments_are = omega (arith, c.self.invariant.deployments_are);
      messages_are = omega (arith, c.self.invariant.messages_are);
      owed_is = c.self.invariant.owed_is
          ∙ (ap owed is ∙ (sym c.requires.owed ∙ ap (λ (g : History). owed (begun (closing g c.args.forgotten c.args.remembered.items))) (sym is)));
      within = omega arith;
      few = few;
      few_places = omega (arith, c.requires.few_places, c.requires.few_prunings);
      few_messages = omega (arith, c.requires.few_places, c.requires.few_prunings, c.requires.few_messages, accepted-entries h);
    })
