-- Why an arrival is not booked.
use Rattle.book_core.specs.declared.receipt.NotBooked.{NotBooked}
use Rattle.book_core.specs.declared.receipt.NotBooked.TheVariants.{NoMemory, Full, PlanChanged}
use Rattle.event_log.specs.Event.{ArriveRefusal, full, no_memory, plan_changed}

-- the refusal as one of an arrival
abbrev pub arrive_refusal : NotBooked → ArriveRefusal
arrive_refusal NoMemory = no_memory
arrive_refusal Full = full
arrive_refusal PlanChanged = plan_changed
