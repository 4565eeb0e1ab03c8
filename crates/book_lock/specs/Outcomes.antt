-- What the slots of a closed book say of its log: a message is delivered where a seat settled it so, and an attempt that was
-- taken and not settled is in flight.
use Rattle.std.specs.Prelude.{◌≡◌, ◌⊎◌, ℕ, ◌<◌, List, None, Some, slice_get}
use Rattle.dest_queue.specs.declared.Outcome.{Outcome}
use Rattle.dest_queue.specs.declared.Outcome.TheVariants as outcome
use Rattle.dest_queue.specs.declared.SlotState.{SlotState}
use Rattle.dest_queue.specs.declared.SlotState.TheVariants.{InFlight, Delivered}
use Rattle.event_log.specs.declared.entry.Entry.TheVariants as entry
use Rattle.event_log.specs.declared.entry.Ticket.{Ticket}
use Rattle.event_log.specs.History.{History, message_at, slot}
use Rattle.book_lock.specs.declared.log_entry.LogEntry.TheVariants as log
use Rattle.book_lock.specs.Log.{Linearizes, Log, SeatView}

-- the entry at this index settles the ticket with this outcome, by some seat, at some moment
pub record SettlesAt (entries : Log) (index : ℕ) (ticket : Ticket) (outcome : Outcome) : Type 0 where
  pub seat : ℕ
  pub now : ℕ
  pub state : SlotState
  pub is : slice_get entries index ≡ Some (seat, log.Booked (entry.Settle outcome ticket now state))

-- somewhere in the log a seat settled an attempt for message n at d with this outcome
pub record SettledAs (entries : Log) (n d : ℕ) (outcome : Outcome) : Type 0 where
  pub index : ℕ
  pub ticket : Ticket
  pub settles : SettlesAt entries index ticket outcome
  pub message : ticket.number ≡ n
  pub destination : ticket.destination ≡ d

-- somewhere in the log a seat took this ticket, and no later entry settles it
pub record IsUnsettled (entries : Log) (ticket : Ticket) : Type 0 where
  pub index : ℕ
  pub seat : ℕ
  pub now : ℕ
  pub taken : slice_get entries index ≡ Some (seat, log.Booked (entry.Take ticket now))
  pub unsettled : (later : ℕ) (outcome : Outcome) → index < later → SettlesAt entries later ticket outcome → ⊥

-- a slot that is delivered was so at the opening, or a seat settled it as delivered
abbrev pub DeliveredIsSettled : History → Log → History → Type 0
DeliveredIsSettled opening entries book = (n d : ℕ) →
    slot book n d ≡ Some Delivered → (slot opening n d ≡ Some Delivered) ⊎ SettledAs entries n d outcome.Delivered

-- a slot that a seat settled as delivered is so, unless its message is forgotten
abbrev pub SettledIsDelivered : Log → History → Type 0
SettledIsDelivered entries book = (n d : ℕ) →
    SettledAs entries n d outcome.Delivered → (slot book n d ≡ Some Delivered) ⊎ (message_at book n ≡ None)

-- a slot is in flight with an attempt
abbrev pub IsInFlight : History → Ticket → Type 0
IsInFlight h ticket = slot h ticket.number ticket.destination ≡ Some (InFlight ticket.attempt)

-- an attempt that is in flight was so at the opening, or a seat took it and none settled it afterwards
abbrev pub InFlightIsUnsettled : History → Log → History → Type 0
InFlightIsUnsettled opening entries book = (ticket : Ticket) →
    IsInFlight book ticket → IsInFlight opening ticket ⊎ IsUnsettled entries ticket

-- an attempt that a seat took and none settled is in flight
abbrev pub UnsettledIsInFlight : Log → History → Type 0
UnsettledIsInFlight entries book = (ticket : Ticket) → IsUnsettled entries ticket → IsInFlight book ticket

-- The log accounts for the slots of a closed book: what is delivered was settled so, what was settled as delivered is so, and
-- what is in flight is just what was taken and not settled, but for what the opening brought.
pub record IsAccountedFor (opening : History) (seats : ℕ) (seen : List SeatView) (book : History) : Type 0 where
  pub one_history : Linearizes opening seats seen book
  pub delivered : DeliveredIsSettled opening one_history.entries book
  pub settled : SettledIsDelivered one_history.entries book
  pub in_flight : InFlightIsUnsettled opening one_history.entries book
  pub unsettled : UnsettledIsInFlight one_history.entries book
