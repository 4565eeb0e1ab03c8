-- What a call that opens a door counts as.
use Rattle.std.specs.Prelude.{ℕ, Bool, true, false, Result, Ok, Err}
use Rattle.engine_workers.specs.declared.door.DoorFault.{DoorFault}
use Rattle.engine_workers.specs.declared.door.DoorFault.TheVariants.{Device, NoMemory}

-- Whether the device failed: a refusal for memory is no fault of the device's.
abbrev pub is_device_fault : {X : Type 0} → Result X DoorFault → Bool
is_device_fault (Ok _) = false
is_device_fault (Err Device) = true
is_device_fault (Err NoMemory) = false

-- what contracts see of a door over TCP: how many calls failed, and the index of its channel in the plan
pub record DoorView : Type 0 where
  pub faults : ℕ
  pub channel : ℕ
