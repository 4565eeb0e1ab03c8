-- What serving a connection reads, books and writes.
use Rattle.std.specs.Prelude.{◌≡◌, ℕ, List, [], ◌++◌, map, Option, count_by, IfErr}
use Rattle.std.specs.List.{AllByRecursion}
use Rattle.std.specs.Result.{is_err}
use Rattle.std.specs.Io.KnownBytes.{Consumes, Appends, IsAtEnd}
use Rattle.book_core.specs.declared.receipt.Receipt.{Receipt}
use Rattle.mllp_frame.specs.Event.{FramingEvent}
use Rattle.mllp_frame.specs.Framing.{blocks}
use Rattle.conn_core.specs.Booking.{IfRepeat}
use Rattle.conn_core.specs.Messages.{booked, is_break, is_stray_block, is_unreadable_block, message_by, messages_of}
use Rattle.conn_core.specs.Replies.{Answer, replies}
use Rattle.conn_worker.specs.declared.report.ServeReport.{ServeReport}
use Rattle.conn_worker.specs.declared.report.ServeEnd.TheVariants.{End}

-- A report is of these events, of which the messages got these answers, and the booked ones these receipts.
pub record ReportsServing {K : Type 0} (conn channel : ℕ) (events : List FramingEvent) (answers : List Answer) (receipts : List Receipt)
    (r : ServeReport K) : Type 0 where
  pub messages : messages_of events ≡ map (λ a. a.raw) answers
  pub booked : map message_by receipts ≡ booked conn channel answers
  pub unbooked : r.unbooked ≡ count_by (λ a. is_err a.outcome) answers
  pub unreadable_ones : r.unreadable ≡ count_by is_unreadable_block events
  pub stray_ones : r.strays ≡ count_by is_stray_block events
  pub broken_ones : r.breaks ≡ count_by is_break events

-- a message that was answered as a repeat without being booked is known, as `knows` says it of its bytes
abbrev pub IsKnownIfRepeated : (List ℕ → Type 0) → Answer → Type 0
IsKnownIfRepeated knows a = IfErr a.outcome (IfRepeat (knows a.raw))

-- A prefix of the events read was handled and reported, and a prefix of their replies was written. What was answered as a repeat
-- without being booked is known, as `knows` says it: its key (the channel and MSH-10) with its very bytes. At the
-- reader's end nothing is left out: all that it had was read, all events were handled and all replies written.
pub record Serves {K : Type 0} (knows : List ℕ → Type 0) (conn channel : ℕ) (to_read left held holds : Option (List ℕ)) (receipts : List Receipt)
    (r : ServeReport K) : Type 0 where
  pub read : List ℕ
  pub reads : Consumes to_read left read
  pub handled : List FramingEvent
  pub later : List FramingEvent
  pub events : blocks read ≡ handled ++ later
  pub answers : List Answer
  pub known : AllByRecursion (IsKnownIfRepeated knows) answers
  pub tells : ReportsServing conn channel handled answers receipts r
  pub written : List ℕ
  pub unwritten : List ℕ
  pub replies : replies conn answers ≡ written ++ unwritten
  pub wrote : Appends held holds written
  pub whole : r.end ≡ End → IsAtEnd left × (later ≡ []) × (unwritten ≡ [])

-- The receipts of a connection that was served so are those of the messages that were booked, as `books` says it, and were
-- handed in, as `has` says it.
pub record ServesAndBooks {K : Type 0} (books : List Receipt → Type 0) (knows : List ℕ → Type 0) (has : K → List Receipt → Type 0)
    (conn channel : ℕ) (to_read left held holds : Option (List ℕ)) (r : ServeReport K) : Type 0 where
  pub receipts : List Receipt
  pub serves : Serves knows conn channel to_read left held holds receipts r
  pub booked : books receipts
  pub kept : has r.receipts receipts
