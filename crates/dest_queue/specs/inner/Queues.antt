-- What proofs use beside the page Queues.
use Rattle.std.specs.Prelude.{ℕ, ◌<◌, ◌&&◌, Bool, false, if◌then◌else◌, List, Option, option_and_then, filter, fold}
use Rattle.std.specs.List.{range_with_len}
use Rattle.std.specs.Option.{option_map, option_map_or}
use Rattle.row_store.specs.declared.Row.{Row}
use Rattle.row_store.specs.Rows.{item_at}
use Rattle.row_store.specs.inner.Rows.{front_of, without}
use Rattle.dest_queue.specs.declared.slots.Queued.{Queued}
use Rattle.dest_queue.specs.declared.slots.Slot.{Slot}
use Rattle.dest_queue.specs.declared.SlotState.{SlotState}
use Rattle.dest_queue.specs.declared.SlotState.TheVariants.{Waiting, InFlight, Delivered, Failed}
use Rattle.dest_queue.specs.States.{is_live}
use Rattle.dest_queue.specs.inner.Slots.{with_state, waits_at, cancelled}
use Rattle.dest_queue.specs.Queues.{slot_of}

-- the number at the front of queue d, and its slot there
abbrev pub front_state : {T : Type 0} → ℕ → List (Row (Queued T)) → Option (ℕ × SlotState)
front_state d rows = option_and_then (λ number. option_map (λ state. (number, state)) (slot_of number d rows)) (front_of d rows)

-- whether a slot waits, with fewer attempts than that
abbrev pub WaitsBelow : ℕ → SlotState → Type 0
WaitsBelow max (Waiting attempts due) = attempts < max
WaitsBelow max (InFlight attempt) = ⊥
WaitsBelow max Delivered = ⊥
WaitsBelow max (Failed cause) = ⊥

-- the row, its slot at d in that state
abbrev pub put : {T : Type 0} → ℕ → SlotState → Row (Queued T) → Row (Queued T)
put d state row = record row { item = record row.item { slots = with_state d state row.item.slots } }

-- the same, and the row leaves queue d where that state is settled for good; else it keeps its position
abbrev pub settle : {T : Type 0} → ℕ → SlotState → Row (Queued T) → Row (Queued T)
settle d state row = record (put d state row) { mask = if is_live state then row.mask else without d row.mask }

-- a mask without each of these
abbrev pub without_each : List ℕ → ℕ → ℕ
without_each ds mask = fold (λ mask d. without d mask) mask ds

-- those of these destinations at which a message waits, in rising order
unfoldable pub waiting_at : (ℕ → Bool) → List Slot → List ℕ
waiting_at among slots = filter (λ d. among d && waits_at d slots) (range_with_len 0 32)

-- the row, each slot cancelled that waits at one of these destinations, out of the queues where it waited
abbrev pub cancel : {T : Type 0} → (ℕ → Bool) → Row (Queued T) → Row (Queued T)
cancel among row = record row { item = record row.item { slots = cancelled among row.item.slots }; mask = without_each (waiting_at among row.item.slots) row.mask }

-- whether that number waits at d
abbrev pub waits_in : {T : Type 0} → ℕ → ℕ → List (Row (Queued T)) → Bool
waits_in number d rows = option_map_or (λ message. waits_at d message.slots) (item_at number rows) false
