-- Who made the calls of a closed book's log: each arrival was booked at one of the desks that the book was closed with, and
-- each take and each settlement was made at one of the stations.
use Rattle.std.specs.Prelude.{◌≡◌, ℕ, List, Some, map, slice_get}
use Rattle.std.specs.List.{Contains}
use Rattle.dest_queue.specs.declared.Outcome.{Outcome}
use Rattle.event_log.specs.declared.entry.Entry.TheVariants as entry
use Rattle.event_log.specs.declared.entry.Ticket.{Ticket}
use Rattle.event_log.specs.declared.entry.Told.{Told}
use Rattle.event_log.specs.History.{History}
use Rattle.book_lock.specs.declared.log_entry.LogEntry.TheVariants as log
use Rattle.book_lock.specs.Log.{Log, SeatView}
use Rattle.book_lock.specs.Outcomes.{IsAccountedFor, SettlesAt}
use Rattle.book_lock.specs.Shares.{DeskView, StationView, seats_of}

-- one of these seats has this number
abbrev pub HasNumber : List SeatView → ℕ → Type 0
HasNumber seats number = Contains (map (λ s. s.number) seats) number

-- each arrival of the log was booked at one of these desks, and each take and each settlement was made at one of these
-- stations
pub record AreCallers (entries : Log) (desks : List DeskView) (stations : List StationView) : Type 0 where
  pub arrivals : (index seat conn channel : ℕ) (raw : List ℕ) (told : Told) →
      slice_get entries index ≡ Some (seat, log.Booked (entry.Arrival conn channel raw told)) →
      HasNumber (map (λ d. d.seat) desks) seat
  pub takes : (index seat now : ℕ) (ticket : Ticket) →
      slice_get entries index ≡ Some (seat, log.Booked (entry.Take ticket now)) →
      HasNumber (map (λ s. s.seat) stations) seat
  pub settlements : (index : ℕ) (ticket : Ticket) (outcome : Outcome)
      (settles : SettlesAt entries index ticket outcome) →
      HasNumber (map (λ s. s.seat) stations) settles.seat

-- A book that was closed with these desks and stations: its log accounts for its slots, and these made the calls.
pub record IsClosedBy (opening : History) (seats : ℕ) (desks : List DeskView) (stations : List StationView)
    (book : History) : Type 0 where
  pub accounted : IsAccountedFor opening seats (seats_of desks stations) book
  pub callers : AreCallers accounted.one_history.entries desks stations
