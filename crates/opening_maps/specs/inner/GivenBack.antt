-- What was in flight when a process ended waits again.
use Rattle.std.specs.Prelude.{◌+◌, ◌-◌, ◌<◌, All, map}
use Rattle.dest_queue.specs.declared.SlotState.{SlotState}
use Rattle.dest_queue.specs.declared.SlotState.TheVariants.{Waiting, InFlight, Delivered, Failed}
use Rattle.dest_queue.specs.declared.slots.Slot.{Slot}
use Rattle.stat_count.specs.declared.DestinationCounts.{DestinationCounts}
use Rattle.event_log.specs.History.{Remembered, Snapshot}

-- a state, given back: what is in flight waits again, due at once, and the attempt that is under way is not counted
abbrev pub state_given_back : SlotState → SlotState
state_given_back (Waiting attempts due) = Waiting attempts due
state_given_back (InFlight attempt) = Waiting (attempt - 1) 0
state_given_back Delivered = Delivered
state_given_back (Failed cause) = Failed cause

-- the same of a slot, of the slots of an arrival, and of all arrivals that an opening remembers
abbrev pub slot_given_back : Slot → Slot
slot_given_back s = record s { state = state_given_back s.state }

abbrev pub arrival_given_back : Remembered → Remembered
arrival_given_back r = record r { slots = map slot_given_back r.slots }

abbrev pub given_back : Snapshot → Snapshot
given_back o = record o { remembered = map arrival_given_back o.remembered }

-- the counters of a destination, where what was in flight waits again
abbrev pub counts_given_back : DestinationCounts → DestinationCounts
counts_given_back c = record c { waiting = c.waiting + c.inflight; inflight = 0 }

-- an attempt under way is counted from 1; so it is in each history, and a good opening doesn't say it
abbrev pub IsStarted : SlotState → Type 0
IsStarted (Waiting attempts due) = Unit {0}
IsStarted (InFlight attempt) = 0 < attempt
IsStarted Delivered = Unit {0}
IsStarted (Failed cause) = Unit {0}

abbrev pub AreStarted : Snapshot → Type 0
AreStarted o = All (λ r. All (λ s. IsStarted s.state) r.slots) o.remembered
