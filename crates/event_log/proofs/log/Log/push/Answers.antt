use Rattle.std.proofs.Common.{rules, Bool, true, false, refl, ℕ, ◌≤◌, cond, ◌≡◌, length, length-append, [], ◌∷◌, sym, ◌∙◌, ap, arith}
use mir.Val.{bool_byte}
use Rattle.std.specs.Result.{is_ok}
use Rattle.event_log.specs.inner.Counting.{is_acceptance}
use Rattle.event_log.specs.History.{History, of_snapshot, followed_by, plan_in_force}
use Rattle.event_log.specs.inner.Kept.{Kept}
use Rattle.event_log.specs.Room.{owed}
use Rattle.event_log.proofs.Following.{accepts-one, deployments-kept, message_count-push, plan-kept}
use Rattle.event_log.proofs.Totals.{accepted-entries}
use Rattle.event_log.proofs.log.Log.push.Goals as goal

-- a truth value as a number
as-number : (b : Bool) → ◌≡◌ {A = ℕ} (bool_byte b) (cond b 1 0)
as-number true = refl
as-number false = refl

-- it is a small one
byte-small : (b : Bool) → bool_byte b ≤ 1
byte-small true = omega arith
byte-small false = omega arith

pub overflow_add-self : goal.overflow_add-self
overflow_add-self c =
    let h : History = of_snapshot c.self.inside.opening c.self.inside.entries.items in
    let byte : c.from.result ≡ bool_byte c.accepts.result = c.from.ensures in
    omega (arith, c.self.invariant.messages_are, c.self.invariant.within, c.self.invariant.few, c.self.invariant.few_messages, accepted-entries h, byte, byte-small c.accepts.result)

pub invariant_of-self : goal.invariant_of-self
invariant_of-self c =
    let h : History = of_snapshot c.self.inside.opening c.self.inside.entries.items in
    let is : h ≡ c.args.self.now.history = ap (λ (k : Kept). k.history) c.self.view_is in
    let more : ◌≡◌ {A = ℕ} c.from.result (cond (is_acceptance c.args.entry) 1 0) = c.from.ensures ∙ (as-number c.accepts.result ∙ ap (λ (b : Bool). cond {A = ℕ} b 1 0) c.accepts.ensures) in
    let ok : is_ok c.push.result ≡ true = search rules in
    rw (c.push.ensures.items, ok) (record {
      plan_is = c.self.invariant.plan_is ∙ sym (plan-kept h c.args.entry c.requires.deploys_none);
      deployments_are = c.self.invariant.deployments_are ∙ sym (deployments-kept h c.args.entry c.requires.deploys_none);
      owed_is = c.requires.owed ∙ ap (λ (g : History). owed (followed_by g c.args.entry)) (sym is);
      within = omega (arith, c.requires.within, length-append h.entries (c.args.entry ∷ []), ap (λ (g : History). length g.entries) is, ap (λ (g : History). g.opening.events_max) is);
      few = c.self.invariant.few;
      few_places = c.self.invariant.few_places;
      few_messages = c.self.invariant.few_messages;
      messages_are = omega (arith, c.self.invariant.messages_are, message_count-push h c.args.entry, accepts-one (plan_in_force h) c.args.entry, more);
    })
