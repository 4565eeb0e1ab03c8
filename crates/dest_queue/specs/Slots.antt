-- The slots of one message, one for each destination that it names.
use Rattle.std.specs.Prelude.{ℕ, ◌==◌, Bool, List, Option, find}
use Rattle.std.specs.Option.{option_map}
use Rattle.dest_queue.specs.declared.SlotState.{SlotState}
use Rattle.dest_queue.specs.declared.slots.Slot.{Slot}

-- whether the slot is that of d
abbrev pub is_at : ℕ → Slot → Bool
is_at d slot = slot.destination == d

-- the state at d
abbrev pub state_at : ℕ → List Slot → Option SlotState
state_at d slots = option_map (λ (slot : Slot). slot.state) (find (is_at d) slots)
