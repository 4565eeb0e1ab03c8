-- How a message that is delivered was sent: a station took it as the book had it, sent it in one block, and read that it was
-- accepted, where its destination acknowledges.
use Rattle.std.specs.Prelude.{◌≡◌, ◌⊎◌, ℕ, true, List, Some, length, map, slice_get, take}
use Rattle.std.specs.List.{Contains}
use Rattle.mllp_frame.specs.Framing.{block_bytes}
use Rattle.dest_queue.specs.declared.Outcome.TheVariants as outcome
use Rattle.dest_queue.specs.declared.SlotState.TheVariants as slot_state
use Rattle.event_log.specs.History.{History, control_id, payload, plan_in_force, slot}
use Rattle.event_log.specs.declared.entry.Entry.TheVariants as entry
use Rattle.event_log.specs.declared.entry.Ticket.{Ticket}
use Rattle.event_log.specs.declared.entry.Told.{Told}
use Rattle.book_core.specs.Sending.{awaits_ack}
use Rattle.book_core.specs.declared.receipt.Receipt.{Receipt}
use Rattle.ghost_log.specs.Seats.{entries_of}
use Rattle.book_lock.specs.Callers.{AreCallers}
use Rattle.book_lock.specs.Log.{IsBookOf, Log, SeatView, after_log}
use Rattle.book_lock.specs.declared.log_entry.LogEntry.TheVariants as log
use Rattle.book_lock.specs.Outcomes.{SettlesAt}
use Rattle.book_lock.specs.Shares.{DeskView, StationView}
use Rattle.conn_worker.specs.Arriving.{BooksInLog, arrival_entry}
use Rattle.delivery_worker.specs.Answers.{answer_in, outcome_of}
use Rattle.delivery_worker.specs.Delivering.{Attempt, IsSendingOf, Sending, sent_in}
use Rattle.delivery_worker.specs.Turns.{DeliversInLog, StationTurn}

-- ---- a message that was sent

-- the book just before the entry at this index of a log
abbrev pub book_before : History → Log → ℕ → History
book_before opening entries index = after_log opening (take index entries)

-- A sending of message n to d as this book has it: its control id, its text for d, and whether d acknowledges.
abbrev pub IsSendingFrom : History → ℕ → ℕ → Sending → Type 0
IsSendingFrom book n d s =
    IsSendingOf s (control_id book n) (payload book n d) (awaits_ack (plan_in_force book) d)

-- A sending of one block. Where the destination acknowledges, the answers that were read after it say that the message is
-- accepted.
pub record IsAccepted (s : Sending) : Type 0 where
  pub block : sent_in s ≡ block_bytes s.payload
  pub answered : s.ack ≡ true → outcome_of s.control_id (map answer_in s.read) ≡ outcome.Delivered

-- A turn that sent message n to d. At this index of the log the seat took the message, the last sending of the attempt is of
-- what the book had just before, and it was accepted.
pub record WasSent (opening : History) (entries : Log) (seat n d : ℕ)
    (turn : StationTurn) : Type 0 where
  pub index : ℕ
  pub taken : slice_get entries index
      ≡ Some (seat, log.Booked (entry.Take turn.job.ticket turn.taken_at))
  pub message : turn.job.ticket.number ≡ n
  pub destination : turn.job.ticket.destination ≡ d
  pub sending : IsSendingFrom (book_before opening entries index) n d turn.attempt.last
  pub accepted : IsAccepted turn.attempt.last

-- ---- what was done at a desk and at a station

-- the seat of a desk or a station that has made no call
abbrev pub IsUnused : SeatView → Type 0
IsUnused seat = length (entries_of seat.number seat.seen) ≡ 0

-- A desk's work: from a view of its seat with no entry of its own to the last view, it booked the arrivals of these receipts,
-- and made no other call.
pub record DeskWork (opening : History) : Type 0 where
  pub first : SeatView
  pub last : SeatView
  pub receipts : List Receipt
  pub unused : IsUnused first
  pub books : BooksInLog opening first last receipts

-- A station's work: from a view of its seat with no entry of its own to the last view, it made these attempts for one
-- destination, each in a turn, and made no other call.
pub record StationWork (opening : History) : Type 0 where
  pub destination : ℕ
  pub first : SeatView
  pub last : SeatView
  pub attempts : List Attempt
  pub unused : IsUnused first
  pub delivers : DeliversInLog opening destination first last attempts

-- one of the turns of a station sent message n to its destination
pub record HasSent {opening : History} (entries : Log) (n : ℕ) (work : StationWork opening) : Type 0 where
  pub turn : StationTurn
  pub is_own : Contains work.delivers.turns turn
  pub was_sent : WasSent opening entries work.last.number n work.destination turn

-- what a station settled as delivered is for its destination, and one of its turns sent it
abbrev pub SettledIsSent : {opening : History} → Log → StationWork opening → Type 0
SettledIsSent entries work = (index : ℕ) (ticket : Ticket)
    (settles : SettlesAt entries index ticket outcome.Delivered) → settles.seat ≡ work.last.number →
    (ticket.destination ≡ work.destination) × HasSent entries ticket.number work

-- ---- a closed book

-- at one of these stations message n was sent to d
pub record SentByOne {opening : History} (entries : Log) (works : List (StationWork opening))
    (n d : ℕ) : Type 0 where
  pub work : StationWork opening
  pub is_one : Contains works work
  pub destination : work.destination ≡ d
  pub sent : HasSent entries n work

-- each message that is delivered at d was so at the opening, or one of these stations sent it to d
abbrev pub EveryDeliveredWasSent : {opening : History} →
    Log → List (StationWork opening) → History → Type 0
EveryDeliveredWasSent {opening} entries works book = (n d : ℕ) →
    slot book n d ≡ Some slot_state.Delivered →
    (slot opening n d ≡ Some slot_state.Delivered) ⊎ SentByOne entries works n d

-- A closed book whose deliveries are traced. One legal log makes it of the opening; and each message that is delivered, and
-- was not at the opening, was sent at one of these stations.
pub record IsSent (opening : History) (works : List (StationWork opening)) (book : History) : Type 0 where
  pub entries : Log
  pub is_book : IsBookOf opening entries book
  pub delivered : EveryDeliveredWasSent entries works book

-- A book that was closed with these desks and stations, and is traced to them. Each arrival of its log was booked at one of
-- the desks, and each take and each settlement was made at one of the stations. These did the works, in their order, by
-- which the messages were sent.
pub record IsTracedTo (opening : History) (desks : List DeskView) (stations : List StationView)
    (works : List (StationWork opening)) (book : History) : Type 0 where
  pub sent : IsSent opening works book
  pub callers : AreCallers sent.entries desks stations
  pub works_are : map (λ w. w.last) works ≡ map (λ s. s.seat) stations

-- each arrival of a log is that of one of these receipts
abbrev pub EveryArrivalHasReceipt : Log → List Receipt → Type 0
EveryArrivalHasReceipt entries receipts =
    (index seat conn channel : ℕ) (raw : List ℕ) (told : Told) →
    slice_get entries index ≡ Some (seat, log.Booked (entry.Arrival conn channel raw told)) →
    Contains (map arrival_entry receipts) (log.Booked (entry.Arrival conn channel raw told))

-- each of these receipts is that of an arrival of a log
abbrev pub EveryReceiptHasArrival : Log → List Receipt → Type 0
EveryReceiptHasArrival entries receipts = (receipt : Receipt) → Contains receipts receipt →
    Contains (map (λ x. x.1) entries) (arrival_entry receipt)

-- A closed book whose messages are traced: its deliveries, and its arrivals, which are those of these receipts.
pub record IsTraced (opening : History) (receipts : List Receipt)
    (works : List (StationWork opening)) (book : History) : Type 0 where
  pub sent : IsSent opening works book
  pub arrivals : EveryArrivalHasReceipt sent.entries receipts
  pub receipts_are : EveryReceiptHasArrival sent.entries receipts
