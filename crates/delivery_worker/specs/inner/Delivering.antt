-- What proofs use beside the page Delivering.
use Rattle.std.specs.Prelude.{◌≡◌, ℕ, ◌+◌, Bool, true, false, if◌then◌else◌, List, Option, None, All, is_some, flat_map, map}
use Rattle.std.specs.Io.KnownBytes.{Appends, Keeps}
use Rattle.dest_queue.specs.declared.Outcome.{Outcome}
use Rattle.dest_queue.specs.declared.Outcome.TheVariants.{Delivered, Again, Rejected}
use Rattle.mllp_frame.specs.inner.Framed.{Framed}
use Rattle.delivery_worker.specs.inner.Calls.{CallsMore}
use Rattle.delivery_worker.specs.Stream.{IsFrontOf}
use Rattle.delivery_worker.specs.inner.Stream.{Goes}
use Rattle.delivery_worker.specs.declared.report.DeliverReport.{DeliverReport}
use Rattle.delivery_worker.specs.declared.report.DeliverEnd.TheVariants.{TurnsSpent}
use Rattle.delivery_worker.specs.Delivering.{Sending, sending_outcome, sent_in, Attempt, attempt_outcome, block_if, sent_by, ReportsAttempts}

-- the connection that the last sending went over, by that which was open before: a new one has no framer yet
abbrev pub way_of : Attempt → Option Framed → Option Framed
way_of a old = if a.anew then None else old

-- One sending, over the connection that was open, a new one, or none: what its outcome is, and what it sent, received
-- and read.
pub record Sends (old new : Option Framed) (sent sends log logs : Option (List ℕ)) (o : Outcome) : Type 0 where
  pub sending : Sending
  pub outcome : sending_outcome sending ≡ o
  pub sends_block : Appends sent sends (sent_in sending)
  pub got : List ℕ
  pub logged : Appends log logs got
  pub goes : Goes old new got sending.read

-- The connection that was open is of no use any more, or there was none: the text may have gone over it, and then one
-- receive was made, but it gave no byte.
pub record Spends (old : Option Framed) (sent sends log logs : Option (List ℕ)) (calls call : Option ℕ) (payload : List ℕ) : Type 0 where
  pub spent : Bool
  pub sends_block : Appends sent sends (block_if spent payload)
  pub nothing_came : Keeps log logs
  pub asked : spent ≡ true → CallsMore calls call 1
  pub was_kept : spent ≡ true → is_some old ≡ true

-- One attempt, over the connection that was open, a new one, none, or first the one that was open and then, since no byte
-- was received over it, a new one: what its outcome is, and what it sent, received and read.
pub record Tries (old new : Option Framed) (sent sends log logs : Option (List ℕ)) (o : Outcome) : Type 0 where
  pub attempt : Attempt
  pub outcome : attempt_outcome attempt ≡ o
  pub sends_block : Appends sent sends (sent_by attempt)
  pub was_kept : attempt.spent ≡ true → is_some old ≡ true
  pub is_anew : attempt.spent ≡ true → attempt.anew ≡ true
  pub is_open : attempt.anew ≡ false → is_some old ≡ true
  pub got : List ℕ
  pub logged : Appends log logs got
  pub goes : Goes (way_of attempt old) new got attempt.last.read

-- a report of no attempt
abbrev pub no_attempts : DeliverReport
no_attempts = record { taken = 0; delivered = 0; again = 0; rejected = 0; end = TurnsSpent }

-- with one more attempt, by its outcome
abbrev pub counted : Outcome → DeliverReport → DeliverReport
counted Delivered r = record r { taken = r.taken + 1; delivered = r.delivered + 1 }
counted Again r = record r { taken = r.taken + 1; again = r.again + 1 }
counted Rejected r = record r { taken = r.taken + 1; rejected = r.rejected + 1 }

-- an attempt, with the bytes that were received in it
pub record Exchanged : Type 0 where
  pub attempt : Attempt
  pub received : List ℕ

-- The events that were read are the first of those that were received in the attempt itself.
abbrev pub IsFresh : Exchanged → Type 0
IsFresh e = IsFrontOf e.received e.attempt.last.read

-- The attempts were made that the report counts, each with nothing left of what was received before it: they sent what was
-- sent, and what was received was received in them.
pub record DeliversAfresh (sent sends log logs : Option (List ℕ)) (r : DeliverReport) : Type 0 where
  pub exchanges : List Exchanged
  pub fresh : All IsFresh exchanges
  pub tells : ReportsAttempts (map (λ e. e.attempt) exchanges) r
  pub sends_blocks : Appends sent sends (flat_map (λ e. sent_by e.attempt) exchanges)
  pub logged : Appends log logs (flat_map (λ e. e.received) exchanges)
