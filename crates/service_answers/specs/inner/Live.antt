-- Where a message is still to be delivered, by what a shared book says of it.
use Rattle.std.specs.Prelude.{ℕ, Bool, true, false, Option, None, slice_get, option_and_then}
use Rattle.std.specs.Option.{option_map_or}
use Rattle.book_lock.specs.declared.message.Found.{Found}
use Rattle.book_lock.specs.declared.message.Found.TheVariants.{ToCome, Forgotten, Kept}
use Rattle.dest_queue.specs.declared.SlotState.{SlotState}
use Rattle.dest_queue.specs.declared.SlotState.TheVariants.{InFlight}
use Rattle.dest_queue.specs.States.{is_waiting}

-- the state of a message at destination d, where it is kept and goes there
abbrev pub state_at : Found → ℕ → Option SlotState
state_at (Kept m) d = option_and_then (λ state. state) (slice_get m.states d)
state_at ToCome d = None
state_at Forgotten d = None

-- whether it waits there
abbrev pub waits_at : Found → ℕ → Bool
waits_at found d = option_map_or is_waiting (state_at found d) false

-- whether a slot is in flight
abbrev pub is_in_flight : SlotState → Bool
is_in_flight (InFlight attempt) = true
is_in_flight _ = false

-- whether it is in flight there
abbrev pub flies_at : Found → ℕ → Bool
flies_at found d = option_map_or is_in_flight (state_at found d) false
