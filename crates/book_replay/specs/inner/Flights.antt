-- Attempts that were in flight are settled as ones to be made again.
use Rattle.std.specs.Prelude.{ℕ, List, Option, None, Some, filter_map, option_and_then}
use Rattle.std.specs.List.{range_with_len}
use Rattle.dest_queue.specs.declared.Outcome.TheVariants.{Again}
use Rattle.dest_queue.specs.declared.SlotState.{SlotState}
use Rattle.dest_queue.specs.declared.SlotState.TheVariants.{Waiting, InFlight, Delivered, Failed}
use Rattle.event_log.specs.declared.entry.Ticket.{Ticket}
use Rattle.event_log.specs.History.{History}
use Rattle.event_records.specs.declared.record.Record.{Record}
use Rattle.event_records.specs.declared.record.Record.TheVariants.{Settle}
use Rattle.book_core.specs.declared.questions.Front.{Front}
use Rattle.book_core.specs.inner.Questions.{front_at}

-- the attempt that is in flight, if the message of this number is in flight at a destination
abbrev pub flight_in : ℕ → ℕ → SlotState → Option Ticket
flight_in d n (Waiting attempts due) = None
flight_in d n (InFlight attempt) = Some (record { number = n; destination = d; attempt = attempt })
flight_in d n Delivered = None
flight_in d n (Failed cause) = None

-- the attempt that is in flight at the front of queue d
abbrev pub flight_at : History → ℕ → Option Ticket
flight_at h d = option_and_then (λ (front : Front). flight_in d front.number front.state) (front_at h d)

-- the attempts that are in flight at the fronts of the 32 queues
abbrev pub flights : History → List Ticket
flights h = filter_map (flight_at h) (range_with_len 0 32)

-- the settlement of an attempt, at a moment, as one to be made again
abbrev pub settled_again : ℕ → Ticket → Record
settled_again now ticket = Settle ticket Again now
