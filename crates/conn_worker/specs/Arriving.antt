-- The arrivals at a seat of a shared book, one call after another, and what they add to the book's log.
use Rattle.std.specs.Prelude.{◌≡◌, ◌≤◌, Some, List, [], ◌∷◌, ◌++◌, map, ℕ, Ok, Err}
use mathlib.Core.List.{IsPrefix}
use Rattle.judge_core.specs.Judging.{Judgement}
use Rattle.event_log.specs.History.{History, next_place}
use Rattle.book_core.specs.Receiving.{repeat_of}
use Rattle.book_core.specs.declared.receipt.NotBooked.{NotBooked}
use Rattle.book_core.specs.declared.receipt.Receipt.{Receipt}
use Rattle.ghost_log.specs.Seats.{entries_of}
use Rattle.book_lock.specs.declared.log_entry.LogEntry.{LogEntry}
use Rattle.book_lock.specs.declared.log_entry.LogEntry.TheVariants as log_entry
use Rattle.book_lock.specs.Durable.{IsDurableBelow}
use Rattle.book_lock.specs.Log.{Arrives, IsLegalLog, Log, Looks, SeatView, after_log}
use Rattle.conn_core.specs.Booking.{arrival_by}

-- the log's entry of the arrival that a receipt is of
abbrev pub arrival_entry : Receipt → LogEntry
arrival_entry receipt = log_entry.Booked (arrival_by receipt)

-- Arrivals at a seat, one after another, from its first view to its last, with the receipts of those that were booked, in
-- their order. A refused arrival has no receipt. Between them the seat may look at the book, which books nothing.
pub data ArrivesInTurn (opening : History) : SeatView → SeatView → List Receipt → Type 0 where
  no_arrival : (seat : SeatView) → ArrivesInTurn opening seat seat []
  booked_first : (old between new : SeatView) (conn : ℕ) (judged : Judgement)
      (receipt : Receipt) (receipts : List Receipt)
      → Arrives opening conn judged old between (Ok receipt)
      → ArrivesInTurn opening between new receipts
      → ArrivesInTurn opening old new (receipt ∷ receipts)
  refused_first : (old between new : SeatView) (conn : ℕ) (judged : Judgement)
      (refusal : NotBooked) (receipts : List Receipt)
      → Arrives opening conn judged old between (Err refusal)
      → ArrivesInTurn opening between new receipts
      → ArrivesInTurn opening old new receipts
  looked_first : (old between new : SeatView) (receipts : List Receipt)
      → Looks opening old between
      → ArrivesInTurn opening between new receipts
      → ArrivesInTurn opening old new receipts

-- What was booked at a seat since an earlier view of it: the entries that it added to the log since are those of the
-- arrivals of these receipts, in their order, and no others. Each arrival was answered as the sequential engine answers it
-- at that moment, and its receipt has the index that was then the next one of the book.
pub record BooksInLog (opening : History) (old new : SeatView) (receipts : List Receipt) : Type 0 where
  pub number : new.number ≡ old.number
  pub own : entries_of old.number new.seen ≡ entries_of old.number old.seen ++ map arrival_entry receipts
  pub seen : IsPrefix old.seen new.seen
  pub legal : IsLegalLog opening old.seen → IsLegalLog opening new.seen
  pub in_turn : ArrivesInTurn opening old new receipts

-- ---- repeats that are not booked

-- A message of these bytes on this channel repeats one that the book had at a moment that a seat has seen: its key (the channel
-- and MSH-10) was known with these very bytes, accepted or filtered.
pub record IsKnownIn (opening : History) (seen : Log) (channel : ℕ) (raw : List ℕ) : Type 0 where
  pub before : Log
  pub since : Log
  pub is_seen : seen ≡ before ++ since
  pub first : ℕ
  pub repeats : repeat_of (after_log opening before) channel raw ≡ Some first

-- The same, and all that the book had at that moment is durable, by what the seat has seen since.
pub record IsDurablyKnown (opening : History) (seen : Log) (channel : ℕ) (raw : List ℕ) : Type 0 where
  pub known : IsKnownIn opening seen channel raw
  pub below : ℕ
  pub behind : next_place (after_log opening known.before) ≤ below
  pub durable : IsDurableBelow opening seen below
