-- How a message fares in a channel: at its filter, at its steps, and on each route.
use Rattle.std.specs.Prelude.{◌≡◌, ℕ, Bool, true, false, if◌then◌else◌, List, [], Option, None, Some, Result, Ok, Err, map}
use Rattle.er7_tree.specs.Tree.{Tree}
use Rattle.hl7_transform.specs.declared.fault.StepFault.{StepFault}
use Rattle.hl7_transform.specs.declared.fault.StepFault.TheVariants as fault
use Rattle.hl7_transform.specs.Step.{after_steps}
use Rattle.judge_core.specs.Judging.{passes}
use Rattle.plan_text.specs.Entries.{ChannelEntry, RouteEntry}
use Rattle.dry_run.specs.declared.explanation.Explanation.{Explanation}
use Rattle.dry_run.specs.declared.explanation.Changed.{Changed as What}
use Rattle.dry_run.specs.declared.explanation.Changed.TheVariants as what
use Rattle.dry_run.specs.declared.explanation.Stopped.{Stopped}
use Rattle.dry_run.specs.declared.explanation.Way.{Way}

-- the step that can't be taken, if one can't
abbrev pub stop_of : Result Tree StepFault → Option Stopped
stop_of (Ok t) = None
stop_of (Err (fault.Stopped place cause)) = Some (record { place = place; cause = cause })
stop_of (Err fault.NoMemory) = None

-- what steps made of a message is this
abbrev pub Steps : Result Tree StepFault → What → Type 0
Steps after_them (what.Taken t) = after_them ≡ Ok t
Steps after_them (what.Stopped s) = after_them ≡ Err (fault.Stopped s.place s.cause)

-- how a message fares on a route
abbrev pub way : Tree → RouteEntry → Way
way t r =
    record { to = r.to; passes = passes t r.filter; stop = if passes t r.filter then stop_of (after_steps r.steps t) else None }

-- how what a channel's steps made of a message fares on each route
abbrev pub ways : List RouteEntry → Result Tree StepFault → List Way
ways routes (Ok t) = map (way t) routes
ways routes (Err stop) = []

-- how a message fares in a channel
pub record Explains (c : ChannelEntry) (t : Tree) (it : Explanation) : Type 0 where
  pub passes_is : it.passes ≡ passes t c.filter
  pub stop_is : it.stop ≡ (if passes t c.filter then stop_of (after_steps c.steps t) else None)
  pub ways_are : it.ways.items ≡ (if passes t c.filter then ways c.routes (after_steps c.steps t) else [])
