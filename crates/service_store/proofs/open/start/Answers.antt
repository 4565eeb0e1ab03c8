use Rattle.std.proofs.Common.{◌≡◌, ◌↔◌, None, Result, Ok, Err, IfOk, subst, sym}
use Rattle.std.specs.Arc.{arc_value}
use Rattle.sqlite_store.specs.FileStore.{recovers, view}
use Rattle.event_log.specs.History.{plan_in_force}
use Rattle.sqlite_trees.specs.View.{IsClean}
use Rattle.event_store.specs.Records.{AreDurable, records_in}
use Rattle.book_recovery.specs.inner.File.{IsRecovered}
use Rattle.service_store.specs.inner.Starting.{bodies_in}
use Rattle.service_store.proofs.open.start.Goals as goal

-- what holds of a value holds of what has it
carried : {T E X : Type 0} (r : Result T E) (part : T → X) (x : X) (P : X → Type 0) → P x → IfOk r (λ s. part s ≡ x) → IfOk r (λ s. P (part s))
carried (Ok s) part x P holds is = subst P (sym is) holds
carried (Err e) part x P holds is = tt

pub returns-in-Ok-clause-recovered : goal.returns-in-Ok-clause-recovered
returns-in-Ok-clause-recovered g c =
    carried c.with_numbers.result (λ s. s.started) c.in-Ok.file.started
    (λ s. IsClean (view s.store.store) → IsRecovered (bodies_in (view s.store.store).trees) s.book) c.in-Ok.ensures.recovered c.with_numbers.ensures.started

pub returns-in-Ok-clause-durable : goal.returns-in-Ok-clause-durable
returns-in-Ok-clause-durable g c =
    carried c.with_numbers.result (λ s. s.started) c.in-Ok.file.started
    (λ s. AreDurable (view s.store.store) (recovers s.store.store) (records_in (view s.store.store).trees)) c.in-Ok.ensures.durable c.with_numbers.ensures.started

pub returns-in-Ok-clause-plan : goal.returns-in-Ok-clause-plan
returns-in-Ok-clause-plan g c =
    carried c.with_numbers.result (λ s. s.started) c.in-Ok.file.started
    (λ s. (s.kept_plan ≡ None) ↔ (plan_in_force s.book ≡ arc_value c.args.request.plan)) c.in-Ok.ensures.plan c.with_numbers.ensures.started
