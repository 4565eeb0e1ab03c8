-- The outcome of an attempt to deliver a message, and what a report says of attempts.
use Rattle.std.specs.Prelude.{◌≡◌, ℕ, Bool, true, false, if◌then◌else◌, List, [], ◌∷◌, ◌++◌, ⊤, Option, All, length, count_by, flat_map, map}
use Rattle.std.specs.Io.KnownBytes.{Appends}
use Rattle.dest_queue.specs.declared.Outcome.{Outcome}
use Rattle.dest_queue.specs.declared.Outcome.TheVariants.{Delivered, Again, Rejected}
use Rattle.mllp_frame.specs.Event.{FramingEvent}
use Rattle.mllp_frame.specs.Framing.{block_bytes}
use Rattle.delivery_worker.specs.Answers.{answer_in, outcome_of}
use Rattle.delivery_worker.specs.Stream.{IsFrontOf}
use Rattle.delivery_worker.specs.declared.report.DeliverReport.{DeliverReport}

-- the sending of a message over one connection: its raw control id (MSH-10), the text to send, whether the destination
-- acknowledges, whether the text was sent, and the events that were read afterwards
pub record Sending : Type 0 where
  pub control_id : List ℕ
  pub payload : List ℕ
  pub ack : Bool
  pub sent : Bool
  pub read : List FramingEvent

-- A sending of the message with this control id and this text, to a destination that acknowledges or not.
abbrev pub IsSendingOf : Sending → List ℕ → List ℕ → Bool → Type 0
IsSendingOf s control_id payload ack = (s.control_id ≡ control_id) × (s.payload ≡ payload) × (s.ack ≡ ack)

-- what is not sent is sent again; what is sent is delivered, and where the destination acknowledges, the answers decide
abbrev pub sending_outcome : Sending → Outcome
sending_outcome s = if s.sent then (if s.ack then outcome_of s.control_id (map answer_in s.read) else Delivered) else Again

-- the bytes that a sending sent: one block, or none
abbrev pub sent_in : Sending → List ℕ
sent_in s = if s.sent then block_bytes s.payload else []

-- an attempt to deliver a message: its last sending, whether that went over a new connection, and whether the block went
-- over the connection that was kept before, over which nothing was received then
pub record Attempt : Type 0 where
  pub last : Sending
  pub anew : Bool
  pub spent : Bool

-- the last sending decides
abbrev pub attempt_outcome : Attempt → Outcome
attempt_outcome a = sending_outcome a.last

-- the block that went over a connection over which nothing was received, or none
abbrev pub block_if : Bool → List ℕ → List ℕ
block_if spent payload = if spent then block_bytes payload else []

-- the bytes that an attempt sent: none, one block, or the same block twice
abbrev pub sent_by : Attempt → List ℕ
sent_by a = block_if a.spent a.last.payload ++ sent_in a.last

-- An attempt that was made over the connection that was kept, and sent its block once at most.
abbrev pub IsOnward : Attempt → Type 0
IsOnward a = (a.anew ≡ false) × (a.spent ≡ false)

-- the events that attempts read, one after another
abbrev pub read_in : List Attempt → List FramingEvent
read_in attempts = flat_map (λ a. a.last.read) attempts

-- what went over one connection: the attempts, and the bytes that were received
pub record Visit : Type 0 where
  pub attempts : List Attempt
  pub received : List ℕ

-- The events that were read are the first of the stream's, each once and in their order.
abbrev pub ReadsInOrder : Visit → Type 0
ReadsInOrder v = IsFrontOf v.received (read_in v.attempts)

-- The first of these attempts opened their connection, and the others went over it as it was kept. Where the first had sent
-- its block before, it did so over a connection that was kept until then.
abbrev pub Begins : Bool → List Attempt → Type 0
Begins was_kept [] = ⊤
Begins was_kept (a ∷ rest) = (a.anew ≡ true) × (a.spent ≡ true → was_kept ≡ true) × All IsOnward rest

-- whether there was an attempt
abbrev pub is_used : List Attempt → Bool
is_used [] = false
is_used (a ∷ rest) = true

-- Each connection was opened by its first attempt, and the connection that was kept until then is the one before.
abbrev pub InTurn : Bool → List Visit → Type 0
InTurn was_kept [] = ⊤
InTurn was_kept (v ∷ rest) = Begins was_kept v.attempts × InTurn (is_used v.attempts) rest

-- all attempts
abbrev pub attempts_in : List Visit → List Attempt
attempts_in visits = flat_map (λ v. v.attempts) visits

-- all bytes that were received
abbrev pub received_in : List Visit → List ℕ
received_in visits = flat_map (λ v. v.received) visits

abbrev pub is_delivery : Outcome → Bool
is_delivery Delivered = true
is_delivery _ = false

abbrev pub is_again : Outcome → Bool
is_again Again = true
is_again _ = false

abbrev pub is_rejected : Outcome → Bool
is_rejected Rejected = true
is_rejected _ = false

-- The report counts these attempts by their outcomes.
pub record ReportsAttempts (attempts : List Attempt) (r : DeliverReport) : Type 0 where
  pub taken : r.taken ≡ length attempts
  pub delivered : r.delivered ≡ count_by (λ a. is_delivery (attempt_outcome a)) attempts
  pub again : r.again ≡ count_by (λ a. is_again (attempt_outcome a)) attempts
  pub rejected : r.rejected ≡ count_by (λ a. is_rejected (attempt_outcome a)) attempts

-- Over one connection after another the attempts were made that the report counts: they sent what was sent, and read what
-- was received.
pub record Delivers (sent sends log logs : Option (List ℕ)) (r : DeliverReport) : Type 0 where
  pub visits : List Visit
  pub in_order : All ReadsInOrder visits
  pub in_turn : InTurn false visits
  pub tells : ReportsAttempts (attempts_in visits) r
  pub sends_blocks : Appends sent sends (flat_map sent_by (attempts_in visits))
  pub logged : Appends log logs (received_in visits)
