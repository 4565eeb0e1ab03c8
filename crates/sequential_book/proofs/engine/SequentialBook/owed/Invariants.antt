use Rattle.std.proofs.Common.{◌≡◌, ◌≤◌, ◌*◌}
use Rattle.std.specs.Prelude.{sum_by}
use Rattle.std.specs.List.{range_with_len}
use Rattle.event_log.specs.Answers.{attempts_max}
use Rattle.event_log.specs.History.{plan_in_force, slot}
use Rattle.event_log.specs.Room.{message_total, slot_owed}
use Rattle.sequential_book.proofs.engine.SequentialBook.owed.Given as goal

-- so far: the messages of lesser numbers, of which each owes at most 6464
pub record SoFar (l : goal.Live-loop-number) : Type 0 where
  pub owed_is : l.owed ≡ sum_by (λ n. message_total (λ d. slot_owed (attempts_max (plan_in_force l.self) d)) (slot l.self n)) (range_with_len 0 l.number)
  pub few : l.owed ≤ l.number * 6464

abbrev pub invariant-loop-number : goal.invariant-loop-number
invariant-loop-number l = SoFar l
