-- The channels of a plan.
use Rattle.std.specs.Prelude.{ℕ, List, [], ◌∷◌, Bool, codes, Option, Some, None, Result, Ok, Err, if◌then◌else◌, ◌==◌, position}
use Rattle.std.specs.List.{list_any}
use Rattle.std.specs.Str.{bytes_eq}
use Rattle.toml.specs.Data.{Data, string, Members, get_member}
use Rattle.hl7_filter.specs.Condition.{Condition}
use Rattle.hl7_transform.specs.Step.{Edit}
use Rattle.plan_text.specs.declared.fault.PlanFaultKind.{PlanFaultKind}
use Rattle.plan_text.specs.declared.fault.PlanFaultKind.TheVariants as name
use Rattle.plan_text.specs.declared.fault.PlanFault.{PlanFault}
use Rattle.plan_text.specs.declared.channel.MessageType.{MessageType}
use Rattle.plan_text.specs.declared.channel.ProcessingId.{ProcessingId}
use Rattle.plan_text.specs.declared.channel.VersionId.{VersionId}
use Rattle.er7_tree.specs.Tree.{◌>>=◌}
use Rattle.plan_text.specs.Fault.{told}
use Rattle.plan_text.specs.Entries.{DestinationEntry, RouteEntry, ChannelEntry}
use Rattle.plan_text.specs.Keys.{key, key_path, required, only_keys, table_at, list, list_within, each, each_after}
use Rattle.plan_text.specs.Conditions.{filter_at}
use Rattle.plan_text.specs.Steps.{steps_at}
use Rattle.plan_text.specs.Kinds.{is_one_named, new_name, text_as, text_within, message_type, processing_id, version_id}

-- the index of the destination of this name
abbrev pub destination_index : List DestinationEntry → List ℕ → Option ℕ
destination_index ds s = position (λ d. bytes_eq d.name s) ds

-- one of these leads to the destination at an index
abbrev pub leads_to : List RouteEntry → ℕ → Bool
leads_to routes n = list_any (λ r. r.to == n) routes

-- an index that no route before leads to
abbrev pub new_place : List RouteEntry → Option ℕ → Result ℕ PlanFaultKind
new_place before None = Err name.UnknownName
new_place before (Some n) = if leads_to before n then Err name.DoubleName else Ok n

-- the name of a destination that no route before leads to
abbrev pub route_to : List DestinationEntry → List RouteEntry → Data → Result ℕ PlanFaultKind
route_to ds before (string s) = new_place before (destination_index ds s)
route_to ds before _ = Err name.BadRange

-- which messages go on, and what is done with them
unfoldable pub way_at : List ℕ → Members → Result (Option Condition × List Edit) PlanFault
way_at at t = do
  filter ← filter_at (key_path at (codes "filter")) (get_member (codes "filter") t)
  steps ← steps_at (key_path at (codes "steps")) (get_member (codes "steps") t)
  Ok (filter, steps)

abbrev pub route_keys : List (List ℕ)
route_keys = codes "to" ∷ codes "filter" ∷ codes "steps" ∷ []

-- a table of [[channel.route]], behind those before it
unfoldable pub route : List DestinationEntry → List RouteEntry → List ℕ → Data → Result RouteEntry PlanFault
route ds before at d = do
  t ← table_at at d
  known ← only_keys route_keys at t
  to ← key at t (codes "to") (required (route_to ds before))
  way ← way_at at t
  Ok (record { to = to; filter = way.0; steps = way.1 })

-- the routes of a channel, none where they are left out
unfoldable pub routes_at : List DestinationEntry → List ℕ → Option Data → Result (List RouteEntry) PlanFault
routes_at ds at None = Ok []
routes_at ds at (Some d) = told at (list d) >>= each_after (route ds) at []

-- a text of a form, at a path
abbrev pub text_entry_at : {A : Type 0} → (List ℕ → Option A) → List ℕ → Data → Result A PlanFault
text_entry_at form at d = told at (text_as form d)

-- a list of texts of a form, at most 256
unfoldable pub entries_at : {A : Type 0} → (List ℕ → Option A) → List ℕ → Option Data → Result (List A) PlanFault
entries_at form at d = told at (required (list_within 256) d) >>= each (text_entry_at form) at

-- one of these has the name
abbrev pub channel_has_name : List ChannelEntry → List ℕ → Bool
channel_has_name cs name = is_one_named (λ c. c.name) cs name

-- the messages that a channel takes
unfoldable pub taken_at : List ℕ → Members → Result (List MessageType × (List ProcessingId × List VersionId)) PlanFault
taken_at at t = do
  types ← entries_at message_type (key_path at (codes "types")) (get_member (codes "types") t)
  processing ← entries_at processing_id (key_path at (codes "processing")) (get_member (codes "processing") t)
  versions ← entries_at version_id (key_path at (codes "versions")) (get_member (codes "versions") t)
  Ok (types, (processing, versions))

abbrev pub channel_keys : List (List ℕ)
channel_keys =
    codes "name" ∷ codes "listen" ∷ codes "types" ∷ codes "processing" ∷ codes "versions" ∷ codes "filter" ∷ codes "steps"
    ∷ codes "route" ∷ []

-- a table of [[channel]], behind those before it
unfoldable pub channel : List DestinationEntry → List ChannelEntry → List ℕ → Data → Result ChannelEntry PlanFault
channel ds before at d = do
  t ← table_at at d
  known ← only_keys channel_keys at t
  name ← key at t (codes "name") (required (new_name (channel_has_name before)))
  listen ← key at t (codes "listen") (required (text_within 1 255))
  taken ← taken_at at t
  way ← way_at at t
  routes ← routes_at ds (key_path at (codes "route")) (get_member (codes "route") t)
  Ok (record {
    name = name;
    listen = listen;
    types = taken.0;
    processing = taken.1.0;
    versions = taken.1.1;
    filter = way.0;
    steps = way.1;
    routes = routes;
  })
