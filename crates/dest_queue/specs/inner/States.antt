-- What proofs use beside the page States.
use Rattle.std.specs.Prelude.{ℕ, ◌+◌}
use Rattle.dest_queue.specs.declared.SlotState.{SlotState}
use Rattle.dest_queue.specs.declared.SlotState.TheVariants.{Waiting, InFlight, Delivered, Failed}
use Rattle.dest_queue.specs.declared.SettleRefusal.{SettleRefusal}
use Rattle.dest_queue.specs.declared.SettleRefusal.TheVariants.{NotInFlight, NoSlot}

-- the attempt that a take of a slot would be
abbrev pub next_attempt : SlotState → ℕ
next_attempt (Waiting attempts due) = attempts + 1
next_attempt (InFlight attempt) = attempt + 1
next_attempt Delivered = 0
next_attempt (Failed cause) = 0

-- the number of a refusal
abbrev pub refusal_code : SettleRefusal → ℕ
refusal_code (NotInFlight state) = 1
refusal_code NoSlot = 2
