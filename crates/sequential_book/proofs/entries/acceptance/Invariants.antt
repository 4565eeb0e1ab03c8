use Rattle.std.proofs.Common.{◌≡◌, length, drop}
use Rattle.std.specs.Prelude.{slice_get}
use Rattle.std.specs.Arc.{arc_value}
use Rattle.event_log.specs.History.{accepted_from}
use Rattle.sequential_book.proofs.entries.acceptance.Given as goal

-- so far: the message is among those that the rest brings, and the plan in force has as many channels
pub record SoFar (l : goal.Live-loop-entry) : Type 0 where
  pub brought : slice_get (accepted_from (arc_value l.in_force) (drop l.entry-index l.entries)) l.left ≡ slice_get (accepted_from (arc_value l.plan) l.entries) l.number
  pub channels : length (arc_value l.in_force).channels ≡ length (arc_value l.plan).channels

abbrev pub invariant-loop-entry : goal.invariant-loop-entry
invariant-loop-entry l = SoFar l
