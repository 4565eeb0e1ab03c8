use Rattle.std.proofs.Common.{◌≡◌, ◌↔◌, None, Result, Ok, Err, IfOk, List, ℕ, length, arith, ap, subst}
use Rattle.plan_text.specs.Entries.{PlanEntry}
use Rattle.event_log.specs.History.{plan_in_force}
use Rattle.service_store.specs.declared.open.NextFile.TheVariants.{Kept}
use Rattle.service_store.proofs.open.start_file.Goals as goal

-- what is never so is so only where anything else is
otherwise : {T E : Type 0} (r : Result T E) (P Q : T → Type 0) → IfOk r (λ s. P s → ⊥) → IfOk r (λ s. P s → Q s)
otherwise (Ok s) P Q never = λ p. absurd (never p)
otherwise (Err e) P Q never = tt

pub go_on-requires-clause-version : goal.go_on-requires-clause-version
go_on-requires-clause-version g c = omega (arith, ap (λ (v : List ℕ). length v) c.in-Ok.ensures.version)

pub returns-then-is_followed-clause-plan : goal.returns-then-is_followed-clause-plan
returns-then-is_followed-clause-plan g c =
    subst (λ (p : PlanEntry). IfOk c.go_on.result (λ s. (s.started.kept_plan ≡ None) ↔ (plan_in_force s.started.book ≡ p)))
    c.in-Ok.ensures.plan c.go_on.ensures.plan

pub returns-then-is_followed-clause-left : goal.returns-then-is_followed-clause-left
returns-then-is_followed-clause-left g c =
    otherwise c.go_on.result (λ s. s.next ≡ Kept) (λ s. s.started.interrupted ≡ 0) c.go_on.ensures.followed
