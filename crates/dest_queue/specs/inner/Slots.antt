-- What proofs use beside the page Slots.
use Rattle.std.specs.Prelude.{ℕ, ◌==◌, ◌&&◌, Bool, true, if◌then◌else◌, List, map}
use Rattle.std.specs.Int.{bit_at}
use Rattle.std.specs.List.{list_any}
use Rattle.dest_queue.specs.declared.SlotState.{SlotState}
use Rattle.dest_queue.specs.declared.SlotState.TheVariants.{Waiting, Failed}
use Rattle.dest_queue.specs.declared.FailCause.TheVariants.{Cancelled}
use Rattle.dest_queue.specs.declared.slots.Slot.{Slot}
use Rattle.dest_queue.specs.States.{is_waiting}
use Rattle.dest_queue.specs.Slots.{is_at}

-- the slot of a message that has not been taken yet
abbrev pub new_slot : ℕ → Slot
new_slot d = record { destination = d; state = Waiting 0 0 }

-- the slots, that at d in another state
abbrev pub with_state : ℕ → SlotState → List Slot → List Slot
with_state d state slots = map (λ (slot : Slot). if is_at d slot then record slot { state = state } else slot) slots

-- whether the message waits at d
abbrev pub waits_at : ℕ → List Slot → Bool
waits_at d slots = list_any (λ (slot : Slot). is_at d slot && is_waiting slot.state) slots

-- whether a mask names d: its bit d is set
abbrev pub has_bit : ℕ → ℕ → Bool
has_bit mask d = bit_at mask d == 1

-- every destination
abbrev pub everywhere : ℕ → Bool
everywhere d = true

-- the slots, those cancelled that wait at one of these destinations
abbrev pub cancelled : (ℕ → Bool) → List Slot → List Slot
cancelled among slots = map (λ (slot : Slot). if among slot.destination && is_waiting slot.state then record slot { state = Failed Cancelled } else slot) slots
