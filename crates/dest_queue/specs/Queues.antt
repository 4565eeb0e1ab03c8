-- The slots in rows, and what the calls on slots do to rows.
use Rattle.std.specs.Prelude.{ℕ, List, Option, option_and_then}
use Rattle.row_store.specs.declared.Row.{Row}
use Rattle.row_store.specs.Rows.{item_at}
use Rattle.dest_queue.specs.declared.slots.Queued.{Queued}
use Rattle.dest_queue.specs.declared.SlotState.{SlotState}
use Rattle.dest_queue.specs.Slots.{state_at}

-- the slot of a number at d
abbrev pub slot_of : {T : Type 0} → ℕ → ℕ → List (Row (Queued T)) → Option SlotState
slot_of number d rows = option_and_then (λ message. state_at d message.slots) (item_at number rows)
