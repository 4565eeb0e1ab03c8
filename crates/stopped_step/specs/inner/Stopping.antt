-- The step at which a message stops that a channel refuses for a step (profile).
use Rattle.std.specs.Prelude.{ℕ, ◌+◌, if◌then◌else◌, List, [], ◌∷◌, Option, None, Some, Result, Ok, Err}
use Rattle.std.specs.Option.{option_or}
use Rattle.er7_tree.specs.Tree.{Tree}
use Rattle.hl7_transform.specs.declared.fault.StepFault.{StepFault}
use Rattle.hl7_transform.specs.declared.fault.StepFault.TheVariants.{Stopped, NoMemory}
use Rattle.hl7_transform.specs.Step.{after_steps}
use Rattle.judge_core.specs.Judging.{passes}
use Rattle.plan_text.specs.Entries.{ChannelEntry, RouteEntry}
use Rattle.stopped_step.specs.declared.StoppedStep.{StoppedStep}

-- the step at which the steps of a route stop, or those of the channel where it is no route
abbrev pub stop_by : Option ℕ → Result Tree StepFault → Option StoppedStep
stop_by route (Ok t) = None
stop_by route (Err (Stopped step cause)) = Some (record { route = route; step = step; cause = cause })
stop_by route (Err NoMemory) = None

-- the first stop of these routes, of which the first has this index; a route whose filter is false has none
abbrev pub stop_in : ℕ → Tree → List RouteEntry → Option StoppedStep
stop_in index t [] = None
stop_in index t (r ∷ rs) =
    if passes t r.filter then option_or (stop_by (Some index) (after_steps r.steps t)) (stop_in (index + 1) t rs)
    else stop_in (index + 1) t rs

-- the first stop on the way through a channel: in its own steps, else in those of a route
abbrev pub stop_after : List RouteEntry → Result Tree StepFault → Option StoppedStep
stop_after routes (Ok t) = stop_in 0 t routes
stop_after routes (Err stop) = stop_by None (Err stop)

abbrev pub stop_of : ChannelEntry → Tree → Option StoppedStep
stop_of channel t = stop_after channel.routes (after_steps channel.steps t)
