use Rattle.std.proofs.Common.{◌≡◌, ◌↔◌, None, subst, sym}
use Rattle.std.specs.Arc.{arc_value}
use Rattle.sqlite_store.specs.FileStore.{recovers, view}
use Rattle.event_log.specs.History.{plan_in_force}
use Rattle.sqlite_trees.specs.View.{IsClean}
use Rattle.event_store.specs.Records.{AreDurable, records_in}
use Rattle.book_recovery.specs.inner.File.{IsRecovered}
use Rattle.service_store.specs.inner.Starting.{bodies_in}
use Rattle.service_store.proofs.open.go_on.Goals as goal

moved : {X : Type 0} (x y : X) (P : X → Type 0) → x ≡ y → P y → P x
moved x y P is holds = subst P (sym is) holds

pub returns-in-Ok-of_bound-clause-recovered : goal.returns-in-Ok-of_bound-clause-recovered
returns-in-Ok-of_bound-clause-recovered g c =
    moved c.in-Ok-of_bound.started _ (λ s. IsClean (view s.store.store) → IsRecovered (bodies_in (view s.store.store).trees) s.book)
    c.in-Ok-of_bound.ensures.same c.in-Ok.ensures.recovered

pub returns-in-Ok-of_bound-clause-durable : goal.returns-in-Ok-of_bound-clause-durable
returns-in-Ok-of_bound-clause-durable g c =
    moved c.in-Ok-of_bound.started _ (λ s. AreDurable (view s.store.store) (recovers s.store.store) (records_in (view s.store.store).trees))
    c.in-Ok-of_bound.ensures.same c.in-Ok.ensures.durable

pub returns-in-Ok-of_bound-clause-plan : goal.returns-in-Ok-of_bound-clause-plan
returns-in-Ok-of_bound-clause-plan g c =
    moved c.in-Ok-of_bound.started _ (λ s. (s.kept_plan ≡ None) ↔ (plan_in_force s.book ≡ arc_value c.args.request.plan))
    c.in-Ok-of_bound.ensures.same c.in-Ok.ensures.plan

pub returns-in-Ok-of_bound-clause-bound : goal.returns-in-Ok-of_bound-clause-bound
returns-in-Ok-of_bound-clause-bound g c =
    moved c.in-Ok-of_bound.started _ (λ s. s.book.opening.events_max ≡ c.args.request.events_max)
    c.in-Ok-of_bound.ensures.same c.in-Ok-of_bound.ensures.bound
