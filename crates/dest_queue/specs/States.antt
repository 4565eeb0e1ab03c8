-- The states of a slot: a message at one of its destinations.
use Rattle.std.specs.Prelude.{ℕ, ◌+◌, ◌==◌, Bool, true, false, if◌then◌else◌, Option, None, Some, Result, Ok, Err}
use Rattle.dest_queue.specs.declared.SlotState.{SlotState}
use Rattle.dest_queue.specs.declared.SlotState.TheVariants.{Waiting, InFlight, Delivered, Failed}
use Rattle.dest_queue.specs.declared.FailCause.TheVariants.{Rejected, Exhausted}
use Rattle.dest_queue.specs.declared.Outcome as outcome
use Rattle.dest_queue.specs.declared.Outcome.TheVariants as outcomes
use Rattle.dest_queue.specs.declared.SettleRefusal.{SettleRefusal}
use Rattle.dest_queue.specs.declared.SettleRefusal.TheVariants.{NotInFlight, NoSlot}

-- whether a slot waits
abbrev pub is_waiting : SlotState → Bool
is_waiting (Waiting attempts due) = true
is_waiting (InFlight attempt) = false
is_waiting Delivered = false
is_waiting (Failed cause) = false

-- whether a slot is in its destination's queue: it waits or is in flight
abbrev pub is_live : SlotState → Bool
is_live (Waiting attempts due) = true
is_live (InFlight attempt) = true
is_live Delivered = false
is_live (Failed cause) = false

-- what an attempt's outcome makes of a slot: a retry is due after the interval, and none follows the last attempt
abbrev pub state_after : outcome.Outcome → ℕ → ℕ → ℕ → ℕ → SlotState
state_after outcomes.Delivered attempt now max interval = Delivered
state_after outcomes.Again attempt now max interval = if attempt == max then Failed Exhausted else Waiting attempt (now + interval)
state_after outcomes.Rejected attempt now max interval = Failed Rejected

-- the answer to a settlement of an attempt: it has to be the one in flight
abbrev pub slot_answer : Option SlotState → outcome.Outcome → ℕ → ℕ → ℕ → ℕ → Result SlotState SettleRefusal
slot_answer None outcome attempt now max interval = Err NoSlot
slot_answer (Some (InFlight a)) outcome attempt now max interval =
    if a == attempt then Ok (state_after outcome attempt now max interval) else Err (NotInFlight (InFlight a))
slot_answer (Some (Waiting a due)) outcome attempt now max interval = Err (NotInFlight (Waiting a due))
slot_answer (Some Delivered) outcome attempt now max interval = Err (NotInFlight Delivered)
slot_answer (Some (Failed cause)) outcome attempt now max interval = Err (NotInFlight (Failed cause))
