-- The plan of a TOML document.
use Rattle.std.specs.Prelude.{ℕ, List, [], ◌∷◌, codes, Option, Some, None, Result, Ok, Err}
use Rattle.toml.specs.Data.{Data, array, Members, Items, no_items}
use Rattle.toml.specs.Parse.{parse_document}
use Rattle.plan_text.specs.declared.fault.PlanFaultKind.{PlanFaultKind}
use Rattle.plan_text.specs.declared.fault.PlanFaultKind.TheVariants as name
use Rattle.plan_text.specs.declared.fault.PlanFault.{PlanFault}
use Rattle.er7_tree.specs.Tree.{◌>>=◌}
use Rattle.plan_text.specs.Fault.{fault_at}
use Rattle.plan_text.specs.Entries.{PlanEntry}
use Rattle.plan_text.specs.Keys.{key, required, only_keys, list_within, each_after}
use Rattle.plan_text.specs.Destinations.{destinations}
use Rattle.plan_text.specs.Channels.{channel}

-- a list of at least one member and at most n
abbrev pub some_within : ℕ → Data → Result Items PlanFaultKind
some_within most (array no_items) = Err name.Missing
some_within most d = list_within most d

-- the plan of a document, or its first fault
unfoldable pub plan_of : Members → Result PlanEntry PlanFault
plan_of t = do
  known ← only_keys (codes "destination" ∷ codes "channel" ∷ []) [] t
  ds ← destinations t
  cs ← key [] t (codes "channel") (required (some_within 64)) >>= each_after (channel ds) (codes "channel") []
  Ok (record { destinations = ds; channels = cs })

-- no document is a fault of the whole text
abbrev pub of_document : Option Members → Result PlanEntry PlanFault
of_document None = Err (fault_at name.NotToml [])
of_document (Some t) = plan_of t

-- the plan of a text
unfoldable pub plan_in : List ℕ → Result PlanEntry PlanFault
plan_in s = of_document (parse_document s)
