-- The texts of a message for its destinations, as they are kept.
use Rattle.std.specs.Prelude.{List, [], ◌∷◌}
use Rattle.std.specs.Arc.{arc_value}
use Rattle.judge_core.specs.declared.delivery.Delivery.{Delivery}
use Rattle.judge_core.specs.declared.delivery.Outgoing.{Outgoing}
use Rattle.judge_core.specs.declared.delivery.Outgoing.TheVariants.{Nowhere, One, Several}
use Rattle.judge_core.specs.declared.delivery.Kept.{Kept}
use Rattle.judge_core.specs.declared.delivery.Kept.TheVariants.{One as KeptOne, Several as KeptSeveral}
use Rattle.judge_core.specs.declared.delivery.KeptDeliveries.{KeptDeliveries}
use Rattle.judge_core.specs.declared.delivery.KeptDeliveries.TheVariants.{One as PackedOne, Several as PackedSeveral}

-- all that were found, in their order
abbrev pub listed : Outgoing → List Delivery
listed Nowhere = []
listed (One delivery) = delivery ∷ []
listed (Several all) = all.items

-- all that are kept, in their order
abbrev pub kept : Kept → List Delivery
kept (KeptOne delivery) = delivery ∷ []
kept (KeptSeveral all) = (arc_value all).items

-- all that an owner of very many keeps, in their order
abbrev pub unpacked : KeptDeliveries → List Delivery
unpacked (PackedOne destination payload) = record { destination = destination; payload = payload } ∷ []
unpacked (PackedSeveral all) = all
