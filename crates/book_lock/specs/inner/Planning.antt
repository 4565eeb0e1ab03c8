-- The plan by which messages are judged at a desk.
use Rattle.std.specs.Prelude.{◌≡◌, ◌++◌, ℕ}
use Rattle.plan_text.specs.Entries.{PlanEntry}
use Rattle.event_log.specs.Deployment.{deployments}
use Rattle.event_log.specs.History.{History, plan_in_force}
use Rattle.book_lock.specs.Log.{Log, after_log}

-- A plan that was in force after some of the entries that a seat has seen, when that
-- many plans had been deployed in all.
pub record WasInForce (opening : History) (seen : Log) (count : ℕ) (plan : PlanEntry) : Type 0 where
  pub before : Log
  pub since : Log
  pub is_seen : seen ≡ before ++ since
  pub counted : deployments (after_log opening before) ≡ count
  pub in_force : plan ≡ plan_in_force (after_log opening before)
