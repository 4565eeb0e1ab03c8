-- The turns of a station in the log of the shared book: the job that each took, the attempt to deliver it, and its settlement.
use Rattle.std.specs.Prelude.{◌≡◌, ℕ, List, [], ◌∷◌, ◌++◌, Result, Ok, Err, All, flat_map, map}
use mathlib.Core.List.{IsPrefix}
use Rattle.dest_queue.specs.declared.SettleRefusal.{SettleRefusal}
use Rattle.dest_queue.specs.declared.SlotState.{SlotState}
use Rattle.event_log.specs.History.{History}
use Rattle.event_log.specs.Event.{Event, Refusal, Reply, entry_of}
use Rattle.event_log.specs.Event as event
use Rattle.event_log.specs.declared.entry.Entry.TheVariants as entry
use Rattle.book_core.specs.declared.letter.Job.{Job}
use Rattle.ghost_log.specs.Seats.{entries_of}
use Rattle.book_lock.specs.Log.{Calls, IsLegalLog, SeatView, Takes}
use Rattle.book_lock.specs.declared.log_entry.LogEntry.{LogEntry}
use Rattle.book_lock.specs.declared.log_entry.LogEntry.TheVariants as log
use Rattle.delivery_worker.specs.Delivering.{Attempt, IsSendingOf, attempt_outcome}

-- a turn of a station: the job that it took and the moment of that, the attempt to deliver it, and the moment at which that
-- was settled, with the book's reply
pub record StationTurn : Type 0 where
  pub job : Job
  pub taken_at : ℕ
  pub attempt : Attempt
  pub settled_at : ℕ
  pub reply : Result SlotState SettleRefusal

-- the settlement of a turn: by what the attempt came to
abbrev pub settlement : StationTurn → Event
settlement t = event.settle t.job.ticket (attempt_outcome t.attempt) t.settled_at

-- the entry of an event, where that was booked
abbrev pub booked_as : (e : Event) → Result (Reply e) (Refusal e) → List LogEntry
booked_as e (Ok reply) = log.Booked (entry_of e reply) ∷ []
booked_as e (Err refusal) = []

-- the entries of a turn: its take, and its settlement unless the book refused that
abbrev pub entries_in : StationTurn → List LogEntry
entries_in t = log.Booked (entry.Take t.job.ticket t.taken_at) ∷ booked_as (settlement t) t.reply

-- A turn for destination d, from one view of its seat to another: it took a job that is as the book had it then, it attempted
-- to send that job, and the settlement by the attempt's outcome had the sequential engine's reply.
pub record TakesTurn (opening : History) (d : ℕ) (old new : SeatView)
    (t : StationTurn) : Type 0 where
  pub between : SeatView
  pub takes : Takes opening d t.taken_at old between (Ok t.job)
  pub sends : IsSendingOf t.attempt.last t.job.control_id t.job.payload t.job.ack
  pub settles : Calls opening (settlement t) between new t.reply

-- A turn that was taken while a seat went on from one view to another.
pub record IsTurnWithin (opening : History) (d : ℕ) (old new : SeatView)
    (t : StationTurn) : Type 0 where
  pub begin : SeatView
  pub end : SeatView
  pub turn : TakesTurn opening d begin end t
  pub number : begin.number ≡ old.number
  pub after : IsPrefix old.seen begin.seen
  pub before : IsPrefix end.seen new.seen

-- While its seat went on from one view to another, a station made these attempts for destination d, each in a turn. The
-- entries of the seat grew by those of the turns, in their order, and by no others. What it has seen goes on from what it had
-- seen, and is legal where that was.
pub record DeliversInLog (opening : History) (d : ℕ) (old new : SeatView)
    (attempts : List Attempt) : Type 0 where
  pub turns : List StationTurn
  pub attempts_are : map (λ t. t.attempt) turns ≡ attempts
  pub each : All (IsTurnWithin opening d old new) turns
  pub own : entries_of old.number new.seen
      ≡ entries_of old.number old.seen ++ flat_map entries_in turns
  pub number : new.number ≡ old.number
  pub onward : IsPrefix old.seen new.seen
  pub legal : IsLegalLog opening old.seen → IsLegalLog opening new.seen
