-- The states of slots as a history keeps them, in few bytes.
use Rattle.std.specs.Prelude.{◌+◌, ◌*◌, ◌<◌}
use Rattle.dest_queue.specs.declared.SlotState.{SlotState}
use Rattle.dest_queue.specs.declared.SlotState.TheVariants.{Waiting, InFlight, Delivered, Failed}
use Rattle.dest_queue.specs.declared.kept.Kept.{Kept}
use Rattle.dest_queue.specs.declared.kept.Kept.TheVariants as kept

-- the state that is kept: a moment is kept by its quotient and its remainder by 2 ^ 32
abbrev pub state_of : Kept → SlotState
state_of (kept.Waiting attempts high low) = Waiting attempts (high * 4294967296 + low)
state_of (kept.InFlight attempt) = InFlight attempt
state_of kept.Delivered = Delivered
state_of (kept.Failed cause) = Failed cause

-- where a state waits, the bytes that it is kept in have room for its attempts and for its moment
abbrev pub IsKeepable : SlotState → Type 0
IsKeepable (Waiting attempts due) = (attempts < 256) × (due < 281474976710656)
IsKeepable (InFlight attempt) = Unit {0}
IsKeepable Delivered = Unit {0}
IsKeepable (Failed cause) = Unit {0}
