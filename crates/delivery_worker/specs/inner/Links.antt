-- What contracts see of a link over TCP, and of the way that it leads.
use Rattle.std.specs.Prelude.{ℕ, Option, None, Some, slice_get}
use Rattle.plan_text.specs.Entries.{DestinationEntry, PlanEntry}

-- how many calls of a link failed, and the index in the plan of the destination that it leads to
pub record LinkView : Type 0 where
  pub faults : ℕ
  pub leads_to : ℕ

-- the destination with an index, as a plan has it, if there is one
abbrev pub destination_at : Option PlanEntry → ℕ → Option DestinationEntry
destination_at None index = None
destination_at (Some plan) index = slice_get plan.destinations index
