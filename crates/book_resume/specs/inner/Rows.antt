-- The rows of remembered arrivals.
use Rattle.std.specs.Prelude.{◌≡◌, ◌<◌, ◌++◌, [], ◌∷◌, ℕ, Bool, false, List, All, Contains, Option, None, Some}
use Rattle.std.specs.List.{AllByRecursion, filter_map}
use Rattle.std.specs.Option.{option_map_or}
use Rattle.row_store.specs.declared.Row.{Row}
use Rattle.row_store.specs.Rows.{is_in_queue, row_numbers as numbers_of}
use Rattle.dest_queue.specs.declared.slots.Queued.{Queued}
use Rattle.dest_queue.specs.declared.slots.Slot.{Slot}
use Rattle.dest_queue.specs.Slots.{state_at}
use Rattle.dest_queue.specs.States.{is_live}
use Rattle.event_log.specs.History.{Remembered, control_id_of}
use Rattle.event_log.specs.inner.History.{number_of}
use Rattle.book_core.specs.declared.letter.Outbound.{Outbound}

-- whether a message with these slots is still to be delivered to d
abbrev pub lives_at : ℕ → List Slot → Bool
lives_at d slots = option_map_or is_live (state_at d slots) false

-- a row is that of an arrival: its slots as they are remembered, the queues where it is still to be delivered, and what is sent
pub record IsRowOf (r : Remembered) (row : Row (Queued Outbound)) : Type 0 where
  pub number : number_of r ≡ Some row.number
  pub slots : row.item.slots ≡ r.slots
  pub queues : (d : ℕ) → d < 32 → is_in_queue d row ≡ lives_at d r.slots
  pub control_id : row.item.content.control_id ≡ control_id_of r.raw
  pub channel : row.item.content.channel ≡ r.channel
  pub raw : row.item.content.raw ≡ r.raw
  pub deliveries : row.item.content.deliveries ≡ r.deliveries

-- the row of an arrival was added
pub record AddsRow (r : Remembered) (old new : List (Row (Queued Outbound))) : Type 0 where
  pub row : Row (Queued Outbound)
  pub is : IsRowOf r row
  pub added : new ≡ old ++ row ∷ []

-- the row of an arrival was added, if it has a number
abbrev pub AddsNumbered : Option ℕ → Remembered → List (Row (Queued Outbound)) → List (Row (Queued Outbound)) → Type 0
AddsNumbered None r old new = new ≡ old
AddsNumbered (Some n) r old new = AddsRow r old new

-- there is room at the end for a number, if there is one
abbrev pub HasRoomFor : Option ℕ → List (Row (Queued Outbound)) → Type 0
HasRoomFor None rows = Unit {0}
HasRoomFor (Some n) rows = All (λ row. row.number < n) rows

-- a row is that of one of these arrivals
pub record IsRowAmong (arrivals : List Remembered) (row : Row (Queued Outbound)) : Type 0 where
  pub arrival : Remembered
  pub among : Contains arrivals arrival
  pub is : IsRowOf arrival row

-- rows are those of arrivals: of each that was accepted, in order
pub record AreRowsOf (arrivals : List Remembered) (rows : List (Row (Queued Outbound))) : Type 0 where
  pub numbers : numbers_of rows ≡ filter_map number_of arrivals
  pub each : AllByRecursion (IsRowAmong arrivals) rows
