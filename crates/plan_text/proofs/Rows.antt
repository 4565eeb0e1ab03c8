-- Worked plans, read from their text.
use Rattle.std.specs.Prelude.{◌≡◌, refl, ℕ, List, [], codes, Result, Ok, Err}
use Rattle.std.proofs.Common.{sym, ◌∙◌}
use Rattle.std.specs.Fmt.{digits}
use Rattle.toml.proofs.OnLiterals.{toml_on_literals}
use Rattle.plan_text.specs.declared.fault.PlanFaultKind.TheVariants as name
use Rattle.plan_text.specs.declared.fault.PlanFault.{PlanFault}
use Rattle.plan_text.specs.inner.BuiltIn.{built_in_text, built_in}
use Rattle.plan_text.specs.Entries.{PlanEntry}
use Rattle.plan_text.specs.Fault.{fault_at}
use Rattle.plan_text.specs.Destinations.{sending, destination, destinations}
use Rattle.plan_text.specs.Conditions.{condition_key, with_one_key, condition, filter_at}
use Rattle.plan_text.specs.Steps.{step_key, step_by, step, steps_at}
use Rattle.plan_text.specs.Channels.{way_at, route, routes_at, entries_at, taken_at, channel}
use Rattle.plan_text.specs.Document.{plan_of, plan_in}

-- the text of the built-in plan is read as that plan
pub built_in-reads : plan_in built_in_text ≡ Ok built_in
unfolding toml_on_literals plan_in plan_of destinations destination sending channel taken_at entries_at way_at filter_at steps_at routes_at route digits
built_in-reads = refl

abbrev plan_as : PlanEntry → Result PlanEntry PlanFault
plan_as p = Ok p

-- so what is read of it is that plan
pub built_in-is : (text : List ℕ) (p : PlanEntry) → text ≡ built_in_text → plan_in text ≡ Ok p → p ≡ built_in
built_in-is text p is read =
    let same : plan_as p ≡ plan_as built_in = sym (rw is at read) ∙ built_in-reads in cc

pub empty-faults : plan_in [] ≡ Err (fault_at name.Missing (codes "destination"))
unfolding toml_on_literals plan_in plan_of destinations
empty-faults = refl

pub no_attempts-faults : plan_in (codes "[[destination]]\nname = \"LAB\"\naddress = \"a\"\nattempts = 0\n") ≡ Err (fault_at name.BadRange (codes "destination[0].attempts"))
unfolding toml_on_literals plan_in plan_of destinations destination sending digits
no_attempts-faults = refl

pub retry-faults : plan_in (codes "[[destination]]\nname = \"LAB\"\naddress = \"a\"\nretry = 1\n") ≡ Err (fault_at name.UnknownKey (codes "destination[0].retry"))
unfolding toml_on_literals plan_in plan_of destinations destination sending digits
retry-faults = refl

-- the least of two unknown keys by its bytes
pub zeal-faults : plan_in (codes "zeal = 1\nZeal = 2\n") ≡ Err (fault_at name.UnknownKey (codes "Zeal"))
unfolding toml_on_literals plan_in plan_of
zeal-faults = refl

pub no_channel-faults : plan_in (codes "destination = []\nchannel = []\n") ≡ Err (fault_at name.Missing (codes "channel"))
unfolding toml_on_literals plan_in plan_of destinations
no_channel-faults = refl

-- faults of a filter, a step and a route, each behind the same keys of a channel
pub empty_filter-faults : plan_in (codes "destination = []\n[[channel]]\nname = \"ADT\"\nlisten = \"x\"\ntypes = []\nprocessing = []\nversions = []\nfilter = {}\n") ≡ Err (fault_at name.Missing (codes "channel[0].filter"))
unfolding toml_on_literals plan_in plan_of destinations channel taken_at entries_at way_at filter_at condition with_one_key condition_key digits
empty_filter-faults = refl

pub levels-faults : plan_in (codes "destination = []\n[[channel]]\nname = \"ADT\"\nlisten = \"x\"\ntypes = []\nprocessing = []\nversions = []\nsteps = [{ copy = [\"PID-3\", \"PID-4.1\"] }]\n") ≡ Err (fault_at name.BadPath (codes "channel[0].steps[0].copy"))
unfolding toml_on_literals plan_in plan_of destinations channel taken_at entries_at way_at filter_at steps_at step step_key step_by digits
levels-faults = refl

pub control_id-faults : plan_in (codes "destination = []\n[[channel]]\nname = \"ADT\"\nlisten = \"x\"\ntypes = []\nprocessing = []\nversions = []\nsteps = [{ set = [\"MSH-10\", \"1\"] }]\n") ≡ Err (fault_at name.ForbiddenWrite (codes "channel[0].steps[0].set"))
unfolding toml_on_literals plan_in plan_of destinations channel taken_at entries_at way_at filter_at steps_at step step_key step_by digits
control_id-faults = refl

pub unknown_name-faults : plan_in (codes "destination = []\n[[channel]]\nname = \"ADT\"\nlisten = \"x\"\ntypes = []\nprocessing = []\nversions = []\n[[channel.route]]\nto = \"X\"\n") ≡ Err (fault_at name.UnknownName (codes "channel[0].route[0].to"))
unfolding toml_on_literals plan_in plan_of destinations channel taken_at entries_at way_at filter_at steps_at routes_at route digits
unknown_name-faults = refl
