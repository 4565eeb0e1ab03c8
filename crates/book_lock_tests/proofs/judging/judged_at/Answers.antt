use Rattle.std.proofs.Common.{Option, None, Some, IfSome, sym, subst}
use Rattle.plan_text.specs.Entries.{PlanEntry}
use Rattle.book_lock.specs.inner.Planning.{WasInForce}
use Rattle.book_lock_tests.proofs.judging.judged_at.Goals as goal

-- what follows of the value follows where there is one
moved : {T : Type 0} {P Q : T → Type 0} → ((x : T) → P x → Q x) → (r : Option T) → IfSome r P → IfSome r Q
moved f None h = tt
moved f (Some x) h = f x h

pub returns-clause-by_plan : goal.returns-clause-by_plan
returns-clause-by_plan g c =
    moved (λ judged is. subst (λ (p : PlanEntry). WasInForce g.A.Sharing.opening c.plan_at.new.desk.seat.seen c.plan_at.new.desk.deployed p) (sym is) c.in-Ok.ensures.in_force) c.judged.result c.judged.ensures.by_plan
