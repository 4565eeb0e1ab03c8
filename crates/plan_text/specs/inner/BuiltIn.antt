-- The built-in plan.
use Rattle.std.specs.Prelude.{ℕ, List, [], ◌∷◌, codes, None}
use Rattle.plan_text.specs.declared.destination.Await.TheVariants as await
use Rattle.plan_text.specs.declared.channel.MessageType.TheVariants as type
use Rattle.plan_text.specs.declared.channel.ProcessingId.TheVariants as processing
use Rattle.plan_text.specs.declared.channel.VersionId.TheVariants as version
use Rattle.plan_text.specs.Entries.{DestinationEntry, ChannelEntry, PlanEntry}

-- its text
abbrev pub built_in_text : List ℕ
built_in_text = codes "[[destination]]\nname = \"LAB\"\naddress = \"127.0.0.1:6661\"\n\n[[channel]]\nname = \"ADT\"\nlisten = \"127.0.0.1:6660\"\ntypes = [\"ADT\"]\nprocessing = [\"P\", \"T\"]\nversions = [\"2.5.1\"]\n[[channel.route]]\nto = \"LAB\"\n"

-- [[destination]]
-- name = "LAB"
-- address = "127.0.0.1:6661"
abbrev pub lab : DestinationEntry
lab = record { name = codes "LAB"; address = codes "127.0.0.1:6661"; attempts = 3; interval = 10; timeout = 30; wait = await.Ack }

-- [[channel]]
-- name = "ADT"
-- listen = "127.0.0.1:6660"
-- types = ["ADT"]
-- processing = ["P", "T"]
-- versions = ["2.5.1"]
-- [[channel.route]]
-- to = "LAB"
abbrev pub adt : ChannelEntry
adt = record {
  name = codes "ADT";
  listen = codes "127.0.0.1:6660";
  types = type.Code (codes "ADT") ∷ [];
  processing = processing.Production ∷ processing.Training ∷ [];
  versions = version.Exactly (codes "2.5.1") ∷ [];
  filter = None;
  steps = [];
  routes = record { to = 0; filter = None; steps = [] } ∷ [];
}

abbrev pub built_in : PlanEntry
built_in = record { destinations = lab ∷ []; channels = adt ∷ [] }
