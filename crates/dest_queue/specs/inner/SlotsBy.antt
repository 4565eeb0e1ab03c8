-- The slots of a message as a function of its destinations.
use Rattle.std.specs.Prelude.{ℕ, ◌==◌, Bool, List, map}
use Rattle.std.specs.List.{list_any}
use Rattle.dest_queue.specs.declared.SlotState.{SlotState}
use Rattle.dest_queue.specs.declared.slots.Slot.{Slot}

-- the slots of these destinations in these states
abbrev pub slots_by : (ℕ → SlotState) → List ℕ → List Slot
slots_by state ds = map (λ d. record { destination = d; state = state d }) ds

-- whether d is one of the destinations
abbrev pub is_among : ℕ → List ℕ → Bool
is_among d ds = list_any (λ e. e == d) ds
