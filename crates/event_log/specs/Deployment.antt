-- Whether a plan may replace the one in force.
use Rattle.std.specs.Prelude.{ℕ, ◌+◌, Bool, false, not, ◌&&◌, ◌==◌, nat_lt, if◌then◌else◌, length, find, slice_get, Option, None, Some}
use Rattle.std.specs.Cmp.Lexicographic.{pointwise}
use Rattle.std.specs.List.{range_with_len}
use Rattle.std.specs.Option.{option_map_or}
use Rattle.std.specs.Str.{bytes_eq}
use Rattle.plan_text.specs.Entries.{ChannelEntry, DestinationEntry, PlanEntry}
use Rattle.event_log.specs.declared.refusal.DeployRefusal.{DeployRefusal}
use Rattle.event_log.specs.declared.refusal.DeployRefusal.TheVariants.{ChannelsDiffer, DestinationInUse, TooMany}
use Rattle.event_log.specs.History.{History, deployed, plan_in_force, queue}

-- how many plans were deployed in all
abbrev pub deployments : History → ℕ
deployments h = h.opening.deployments + length (deployed h)

abbrev pub same_name : ChannelEntry → ChannelEntry → Bool
same_name old new = bytes_eq old.name new.name

-- whether two plans have channels of the same names, in the same order
abbrev pub same_channels : PlanEntry → PlanEntry → Bool
same_channels old new = pointwise same_name old.channels new.channels

-- whether a destination stays: it keeps its name and its attempts
abbrev pub stays : Option DestinationEntry → Option DestinationEntry → Bool
stays (Some old) (Some new) = bytes_eq old.name new.name && (old.attempts == new.attempts)
stays (Some old) None = false
stays None new = false

-- whether messages are still to be delivered to d, which a plan doesn't keep as it is
abbrev pub is_lost : History → PlanEntry → ℕ → Bool
is_lost h plan d = nat_lt 0 (length (queue h d)) && not (stays (slice_get (plan_in_force h).destinations d) (slice_get plan.destinations d))

-- the first destination that would be lost
abbrev pub first_lost : History → PlanEntry → Option ℕ
first_lost h plan = find (is_lost h plan) (range_with_len 0 32)

-- why a plan isn't deployed, if there is room and memory for it: nothing where it is
unfoldable pub deploy_answer : History → PlanEntry → Option DeployRefusal
deploy_answer h plan =
    if same_channels (plan_in_force h) plan then
    option_map_or (λ d. Some (DestinationInUse d)) (first_lost h plan)
    (if nat_lt (deployments h) 1000 then None else Some TooMany)
    else Some ChannelsDiffer
