-- Attempts that a stop interrupted: how many there are, and which were the last of their messages.
use Rattle.std.specs.Prelude.{ℕ, Bool, nat_lt, count_by, Option, None, Some}
use Rattle.dest_queue.specs.declared.SlotState.{SlotState}
use Rattle.dest_queue.specs.declared.SlotState.TheVariants.{Waiting, InFlight, Delivered, Failed}
use Rattle.stat_count.specs.declared.DestinationCounts.{DestinationCounts}
use Rattle.event_log.specs.declared.entry.Ticket.{Ticket}
use Rattle.event_log.specs.Counting.{counted}
use Rattle.event_log.specs.History.{History, slot}
use Rattle.event_records.specs.declared.record.Record.{Record}
use Rattle.event_records.specs.declared.record.Record.TheVariants.{Arrival, Take, Settle, Cancel, Deploy, Prune}

-- an attempt, where the message's slot has failed
abbrev pub failed_by : Ticket → Option SlotState → Option Ticket
failed_by ticket None = None
failed_by ticket (Some (Waiting attempts due)) = None
failed_by ticket (Some (InFlight attempt)) = None
failed_by ticket (Some Delivered) = None
failed_by ticket (Some (Failed cause)) = Some ticket

-- an attempt, where its message has failed at its destination
abbrev pub failed_at : History → Ticket → Option Ticket
failed_at h ticket = failed_by ticket (slot h ticket.number ticket.destination)

-- the attempt that a record settles, where its message has failed at its destination
abbrev pub failed_in : History → Record → Option Ticket
failed_in h (Arrival conn channel raw told) = None
failed_in h (Take destination now) = None
failed_in h (Settle ticket outcome now) = failed_at h ticket
failed_in h (Cancel number among) = None
failed_in h (Deploy document) = None
failed_in h (Prune before) = None

-- whether a message is in flight at a destination with these counters, and at how many destinations one is
abbrev pub is_flying : DestinationCounts → Bool
is_flying c = nat_lt 0 c.inflight

unfoldable pub flying : History → ℕ
flying h = count_by is_flying (counted h).destinations
