-- The log of a shared book: all that was done to it since it was shared, in order, each event with its reply and the number
-- of the seat that made the call. Each seat has seen a prefix of the log, with all its own calls in it.
use Rattle.std.specs.Prelude.{◌≡◌, ◌≢◌, ◌↔◌, ◌⊎◌, ℕ, ◌<◌, ◌≤◌, List, [], ◌∷◌, ◌++◌, None, Some, Result, Ok, Err, IfErr, IfOk, IsErrOf, OnOk, All, slice_get, take}
use Rattle.judge_core.specs.declared.judged.Judged.{Judged}
use Rattle.event_log.specs.History.{History, control_id, followed_by, next_place, payload, plan_in_force}
use Rattle.event_log.specs.Event.{Does, Event, MemoryIsLast, Refusal, Reply, arrive, entry_of, result_map}
use Rattle.event_log.specs.Event as event
use Rattle.event_log.specs.declared.refusal.PruneRefusal.{PruneRefusal}
use Rattle.event_log.specs.declared.refusal.PruneRefusal.TheVariants as prune_refusal
use Rattle.event_log.specs.declared.refusal.TakeRefusal.{TakeRefusal}
use Rattle.event_log.specs.Folding.{prune_answer, pruned}
use Rattle.event_log.specs.Legal.{MayFollow}
use Rattle.book_core.specs.Receiving.{IsReceipt, arrival_reply}
use Rattle.book_core.specs.Sending.{awaits_ack}
use Rattle.book_core.specs.declared.letter.Job.{Job}
use Rattle.book_core.specs.declared.receipt.NotBooked.{NotBooked}
use Rattle.book_core.specs.declared.receipt.NotBooked.TheVariants as not_booked
use Rattle.book_core.specs.declared.receipt.Receipt.{Receipt}
use Rattle.ghost_log.specs.Seats.{Agrees, entries_of}
use Rattle.book_lock.specs.declared.log_entry.LogEntry.{LogEntry}
use Rattle.book_lock.specs.declared.log_entry.LogEntry.TheVariants as log
use Rattle.book_lock.specs.declared.tidying.Tidying.{Tidying}
use Rattle.book_lock.specs.declared.tidying.Tidying.TheVariants.{NotTight, Pruned, Refused}

-- ---- the log

-- the entries in their order, each with the number of the seat that added it
abbrev pub Log : Type 0
Log = List (ℕ × LogEntry)

-- a seat: its number, and the prefix of the log that it has seen
pub record SeatView : Type 0 where
  pub number : ℕ
  pub seen : Log

-- a book after one more entry
abbrev pub with_entry : History → LogEntry → History
with_entry h (log.Booked e) = followed_by h e
with_entry h (log.Pruned before) = pruned before h
with_entry h (log.Durable below) = h

-- a book after a log
abbrev pub after_log : History → Log → History
after_log h [] = h
after_log h (x ∷ xs) = after_log (with_entry h x.1) xs

-- an entry is legal after a book: its reply is the sequential engine's, the pruning is allowed, or what is durable was booked
abbrev pub MayComeNext : History → LogEntry → Type 0
MayComeNext h (log.Booked e) = MayFollow h e
MayComeNext h (log.Pruned before) = prune_answer h before ≡ None
MayComeNext h (log.Durable below) = below ≤ next_place h

-- each entry of a log is legal after those before it
pub record IsLegalLog (opening : History) (entries : Log) : Type 0 where
  pub each : (k : ℕ) (x : ℕ × LogEntry) → slice_get entries k ≡ Some x →
      MayComeNext (after_log opening (take k entries)) x.1

-- a book is what a legal log makes of the opening
pub record IsBookOf (opening : History) (entries : Log) (book : History) : Type 0 where
  pub is : book ≡ after_log opening entries
  pub legal : IsLegalLog opening entries

-- ---- calls

-- the entry that a seat adds for an event that is booked; for one that is refused it adds none
abbrev pub own_entry : ℕ → (e : Event) → Result (Reply e) (Refusal e) → Log
own_entry number e (Ok reply) = (number, log.Booked (entry_of e reply)) ∷ []
own_entry number e (Err refusal) = []

-- the book at the moment of a call: what the seat had seen, and then the entries of others, make it of the opening
abbrev pub book_at : History → SeatView → Log → History
book_at opening seat others = after_log opening (seat.seen ++ others)

-- A call. First come entries of others that the seat had not seen; then the call is made, and its result is the
-- sequential engine's at that moment. The seat has then seen all of that, with its own entry where the event was booked.
pub record Calls (opening : History) (e : Event) (old new : SeatView)
    (result : Result (Reply e) (Refusal e)) : Type 0 where
  pub number : new.number ≡ old.number
  pub others : Log
  pub none_own : entries_of old.number others ≡ []
  pub seen : new.seen ≡ (old.seen ++ others) ++ own_entry old.number e result
  pub legal : IsLegalLog opening new.seen
  pub does : Does e (book_at opening old others) (after_log opening new.seen) result
  pub memory : MemoryIsLast e (book_at opening old others) result

-- A look at the book: the seat has then also seen what others did since, and made no call of its own.
pub record Looks (opening : History) (old new : SeatView) : Type 0 where
  pub number : new.number ≡ old.number
  pub others : Log
  pub none_own : entries_of old.number others ≡ []
  pub seen : new.seen ≡ old.seen ++ others
  pub legal : IsLegalLog opening new.seen

-- An arrival. Its receipt has the next index of the book at that moment. It is refused as PlanChanged just where the
-- message was judged by another plan than the one then in force, and as Full only under that plan.
pub record Arrives (opening : History) (conn : ℕ) (judged : Judged) (old new : SeatView)
    (result : Result Receipt NotBooked) : Type 0 where
  pub call : Calls opening (arrive conn judged.channel judged.raw) old new (arrival_reply result)
  pub receipt : IfOk result (IsReceipt (next_place (book_at opening old call.others)) conn judged.channel judged.raw)
  pub plan : IsErrOf result not_booked.PlanChanged ↔ judged.plan ≢ plan_in_force (book_at opening old call.others)
  pub same_plan : IsErrOf result not_booked.Full → judged.plan ≡ plan_in_force (book_at opening old call.others)

-- what a job sends is what the book has for its ticket at d
pub record IsJob (h : History) (d : ℕ) (job : Job) : Type 0 where
  pub control_id : job.control_id ≡ control_id h job.ticket.number
  pub payload : job.payload ≡ payload h job.ticket.number d
  pub ack : job.ack ≡ awaits_ack (plan_in_force h) d

-- A take. What its job sends is the book's at that moment.
pub record Takes (opening : History) (d now : ℕ) (old new : SeatView) (result : Result Job TakeRefusal) : Type 0 where
  pub call : Calls opening (event.take d now) old new (result_map (λ job. job.ticket) result)
  pub job : IfOk result (IsJob (book_at opening old call.others) d)

-- ---- calls of the lock

-- A call for no desk and no station: the lock made it with a seat of its own.
pub record IsCalled (opening : History) (e : Event) (result : Result (Reply e) (Refusal e)) : Type 0 where
  pub old : SeatView
  pub new : SeatView
  pub call : Calls opening e old new result

-- A pruning, which the lock made after the entries of a legal log: it was allowed there, or it was refused for what the
-- definition says, or for lack of memory where the definition allows it. Its entry is in the log of those that follow.
pub record IsPruned (opening : History) (before : ℕ) (result : Result (Unit {0}) PruneRefusal) : Type 0 where
  pub entries : Log
  pub legal : IsLegalLog opening entries
  pub allowed : OnOk result (prune_answer (after_log opening entries) before ≡ None)
  pub refused : IfErr result (λ refusal.
      (prune_answer (after_log opening entries) before ≡ Some refusal)
      ⊎ (prune_answer (after_log opening entries) before ≡ None) × (refusal ≡ prune_refusal.NoMemory))

-- A pruning that the lock was to make, at some number, and that was refused.
pub record IsPruneRefused (opening : History) (refusal : PruneRefusal) : Type 0 where
  pub before : ℕ
  pub call : IsPruned opening before (Err refusal)

-- What was done about a tight book before an arrival, if anything, is a pruning that the lock made, or that was refused.
abbrev pub IsTidiedInLog : History → Tidying → Type 0
IsTidiedInLog opening NotTight = Unit {0}
IsTidiedInLog opening (Pruned before) = IsPruned opening before (Ok tt)
IsTidiedInLog opening (Refused refusal) = IsPruneRefused opening refusal

-- ---- the end

-- One history for all threads: the book is what one legal log makes of the opening. Each of these seats has seen a prefix
-- of the log, with all its own calls in it, and each entry has the number of a seat.
pub record Linearizes (opening : History) (seats : ℕ) (seen : List SeatView) (book : History) : Type 0 where
  pub entries : Log
  pub is_book : IsBookOf opening entries book
  pub agreed : All (λ s. Agrees s.number s.seen entries) seen
  pub within : All (λ x. x.0 < seats) entries

-- ---- what is read

-- a book is what some legal log makes of the opening
pub record IsLogged (opening book : History) : Type 0 where
  pub entries : Log
  pub is_book : IsBookOf opening entries book

-- What was read holds of the book as it was at one moment: the book that a legal log makes of the opening.
pub record IsReadOf (opening : History) (Holds : History → Type 0) : Type 0 where
  pub book : History
  pub logged : IsLogged opening book
  pub holds : Holds book
