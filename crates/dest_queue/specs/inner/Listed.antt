-- The slots of a message as they are held.
use Rattle.std.specs.Prelude.{ℕ, List, [], ◌∷◌, Option, None, Some}
use Rattle.dest_queue.specs.declared.SlotState.{SlotState}
use Rattle.dest_queue.specs.declared.SlotState.TheVariants.{Waiting, InFlight, Delivered, Failed}
use Rattle.dest_queue.specs.declared.slots.Slot.{Slot}
use Rattle.dest_queue.specs.declared.slots.SlotList.{SlotList}
use Rattle.dest_queue.specs.declared.slots.SlotList.TheVariants.{Nowhere, Waiting as OneWaiting, InFlight as OneInFlight, Delivered as OneDelivered, Failed as OneFailed, Several}

-- a slot at d
abbrev at : ℕ → SlotState → Slot
at d state = record { destination = d; state = state }

-- all of them, in order
abbrev pub listed : SlotList → List Slot
listed Nowhere = []
listed (OneWaiting d attempts due) = at d (Waiting attempts due) ∷ []
listed (OneInFlight d attempt) = at d (InFlight attempt) ∷ []
listed (OneDelivered d) = at d Delivered ∷ []
listed (OneFailed d cause) = at d (Failed cause) ∷ []
listed (Several list) = list.value.items

-- the only one, where it is held without a list
abbrev pub single : SlotList → Option Slot
single Nowhere = None
single (OneWaiting d attempts due) = Some (at d (Waiting attempts due))
single (OneInFlight d attempt) = Some (at d (InFlight attempt))
single (OneDelivered d) = Some (at d Delivered)
single (OneFailed d cause) = Some (at d (Failed cause))
single (Several list) = None
