use Rattle.std.proofs.Common.{◌≡◌, ◌≤◌, ◌*◌}
use Rattle.std.specs.Prelude.{sum_by}
use Rattle.std.specs.List.{range_with_len}
use Rattle.std.specs.Option.{option_map_or}
use Rattle.event_log.specs.Answers.{attempts_max}
use Rattle.event_log.specs.History.{plan_in_force, slot}
use Rattle.event_log.specs.Room.{slot_owed}
use Rattle.sequential_book.proofs.engine.SequentialBook.message_owes.Given as goal

-- so far: the slots at the destinations below d, of which each owes at most 202
pub record SoFar (l : goal.Live-loop-d) : Type 0 where
  pub owes_is : l.owes ≡ sum_by (λ d. option_map_or (slot_owed (attempts_max (plan_in_force l.self) d)) (slot l.self l.number d) 0) (range_with_len 0 l.d)
  pub few : l.owes ≤ l.d * 202

abbrev pub invariant-loop-d : goal.invariant-loop-d
invariant-loop-d l = SoFar l
