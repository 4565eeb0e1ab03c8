use Rattle.std.proofs.Common.{◌-◌, refl, sym, ◌∙◌, ap, subst, arith}
use Rattle.std.specs.List.{range_with_len}
use Rattle.book_lock.specs.Rises.{SharedBook}
use Rattle.book_lock.specs.inner.Showing.{IsGauge}
use Rattle.book_lock.proofs.locked.Locked.gauge.Goals as goal

pub returns : goal.returns
returns g c =
    subst (λ (h : SharedBook). IsGauge h (record {
      held = c.held.result;
      owed = c.owed.result;
      events_max = c.events_max.result;
      messages = c.message_count.result;
      first = c.first_remembered.result;
      prunings = c.prunings.result;
      deployments = c.deployments.result;
      admitted = c.self.inside.admitted;
    })) c.self.view_is
    (record {
      held = c.held.ensures.value;
      owed = c.owed.ensures;
      events_max = c.events_max.ensures;
      within = omega (arith, c.held.ensures.value, c.held.ensures.within, c.owed.ensures, c.events_max.ensures);
      messages = c.message_count.ensures;
      first = omega (arith, c.first_remembered.ensures.within, c.message_count.ensures);
      rest = c.first_remembered.ensures.rest ∙ ap (λ m. range_with_len c.first_remembered.result (m - c.first_remembered.result)) (sym c.message_count.ensures);
      prunings = c.prunings.ensures;
      deployments = c.deployments.ensures;
      admitted = refl;
    })
