use Rattle.std.proofs.Common.{◌≡◌, ◌≤◌, ◌*◌, take}
use Rattle.judge_core.specs.Delivering.{destinations_of}
use Rattle.event_log.specs.Room.{committed_by_new}
use Rattle.event_log.proofs.answers.committed_by_new.Given as goal

-- so far: the deliveries before the index, of which each owes at most 201
pub record SoFar (l : goal.Live-loop-delivery) : Type 0 where
  pub owed_is : l.owed ≡ committed_by_new l.plan (destinations_of (take l.delivery-index l.deliveries))
  pub few : l.owed ≤ l.delivery-index * 201

abbrev pub invariant-loop-delivery : goal.invariant-loop-delivery
invariant-loop-delivery l = SoFar l
