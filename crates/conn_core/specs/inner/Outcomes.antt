-- What becomes of a block.
use Rattle.std.specs.Prelude.{◌≡◌, ℕ, ◌+◌, ◌<◌, Bool, true, List, [], ◌∷◌, ◌++◌, Some, Result, Ok, Err, IfOk, IfErr, OnErr, IsTrue, IsFalse, ⊤, length, take}
use Rattle.conn_core.specs.declared.booking.Unbooked.{Unbooked}
use Rattle.book_core.specs.declared.receipt.Receipt.{Receipt}
use Rattle.event_log.specs.declared.entry.Told.{Told}
use Rattle.hl7_head.specs.Header.{Msh, header_of}
use Rattle.judge_core.specs.Judging.{Judgement, is_bookable, is_unreadable, is_stray}
use Rattle.mllp_frame.specs.Framing.{IsData}
use Rattle.conn_core.specs.declared.block_outcome.BlockOutcome.{BlockOutcome}
use Rattle.conn_core.specs.declared.block_outcome.Booked.{Booked}
use Rattle.conn_core.specs.declared.block_outcome.BlockOutcome.TheVariants.{Unreadable, Stray, Message}
use Rattle.conn_core.specs.Booking.{IfRepeat}
use Rattle.conn_core.specs.inner.Booking.{receipts_of}
use Rattle.plan_text.specs.Entries.{PlanEntry}
use Rattle.conn_core.specs.Replies.{Due, dues_of, numbered}
use Rattle.conn_core.specs.inner.Replies.{RepliesView, answer_to, told_by}

-- This is the header of a message that was received in a block, so that its acknowledgments can be framed.
pub record CameInBlock (h : Msh) : Type 0 where
  pub raw : List ℕ
  pub header_is : header_of raw ≡ Some h
  pub plain : IsData raw

-- Memory was refused for an acknowledgment: those before it were appended, each a whole block with its number, and no more.
pub record AppendsInPart (conn : ℕ) (dues : List Due) (old new : RepliesView) : Type 0 where
  pub count : ℕ
  pub fewer : count < length dues
  pub made : new.made ≡ old.made + count
  pub bytes : new.bytes ≡ old.bytes ++ numbered conn (old.made + 1) (take count dues)

-- The acknowledgments that are due were appended, each a whole block with its number: all where `whole` says so, or else
-- those before the one that memory was refused for.
pub record AppendsReplies (conn : ℕ) (dues : List Due) (whole : Bool) (old new : RepliesView) : Type 0 where
  pub bytes : IsTrue whole → new.bytes ≡ old.bytes ++ numbered conn (old.made + 1) dues
  pub made : IsTrue whole → new.made ≡ old.made + length dues
  pub in_part : IsFalse whole → AppendsInPart conn dues old new

-- A message was answered. It was booked, and its receipt has the connection, the channel and the bytes; or nothing was
-- booked. The answer is one that it may get: one that is answered as a repeat without being booked is known. The replies that it
-- is due were appended.
pub record BooksAndReplies {B : Type 0} (books : B → B → List Receipt → Type 0)
    (outcomes : B → Judgement → Result Told Unbooked → Type 0) (knows : B → ℕ → List ℕ → Type 0)
    (conn : ℕ) (judged : Judgement) (moment : ℕ)
    (old new : B) (old_replies new_replies : RepliesView) (o : Booked) : Type 0 where
  pub receipt : IfOk o.outcome (λ r.
      (r.conn ≡ conn) × (r.channel ≡ judged.channel) × (r.raw ≡ judged.raw))
  pub booked : IfOk o.outcome (λ r. books old new (r ∷ []))
  pub unbooked : OnErr o.outcome (books old new [])
  pub told : IfOk o.outcome (λ r. outcomes old judged (Ok r.told))
  pub refused : IfErr o.outcome (λ unbooked. outcomes old judged (Err unbooked))
  pub known : IfErr o.outcome (IfRepeat (knows new judged.channel judged.raw))
  pub replies : AppendsReplies conn (dues_of (answer_to judged.raw o.outcome moment)) o.whole
      old_replies new_replies

-- The outcome says what the block is. The receipt of a booked message has the connection, the channel and the bytes.
abbrev pub IsOutcome : ℕ → ℕ → List ℕ → BlockOutcome → Type 0
IsOutcome conn channel raw Unreadable = IsTrue (is_unreadable raw)
IsOutcome conn channel raw Stray = IsTrue (is_stray raw)
IsOutcome conn channel raw (Message booked) =
    IsTrue (is_bookable raw) × IfOk booked.outcome (λ r. (r.conn ≡ conn) × (r.channel ≡ channel) × (r.raw ≡ raw))

-- The message was judged for the channel by a plan to judge by, and its outcome is one that it may have.
pub record IsJudgedSo (judges : PlanEntry → Type 0) (outcomes : Judgement → Result Told Unbooked → Type 0) (channel : ℕ)
    (raw : List ℕ) (outcome : Result Told Unbooked) : Type 0 where
  pub judged : Judgement
  pub by_plan : judges judged.plan
  pub for_channel : judged.channel ≡ channel
  pub of_text : judged.raw ≡ raw
  pub may : outcomes judged outcome

-- The outcome of a message is one that it may have; another block has none.
abbrev pub MayBecome : (PlanEntry → Type 0) → (Judgement → Result Told Unbooked → Type 0) → ℕ → List ℕ → BlockOutcome → Type 0
MayBecome judges outcomes channel raw (Message booked) = IsJudgedSo judges outcomes channel raw (told_by booked.outcome)
MayBecome judges outcomes channel raw _ = ⊤

-- Of a message that was judged so, the outcome is one that it may have; another block has none.
abbrev pub MayHave : (Result Told Unbooked → Type 0) → BlockOutcome → Type 0
MayHave may (Message booked) = may (told_by booked.outcome)
MayHave may _ = ⊤

-- A message that is answered as a repeat without being booked is known.
abbrev pub KnowsRepeat : Type 0 → BlockOutcome → Type 0
KnowsRepeat Known (Message booked) = IfErr booked.outcome (IfRepeat Known)
KnowsRepeat Known _ = ⊤

-- whether all replies to the block were made
abbrev pub is_whole : BlockOutcome → Bool
is_whole (Message booked) = booked.whole
is_whole _ = true

-- the receipt of a message that was booked
abbrev pub receipts_in : BlockOutcome → List Receipt
receipts_in (Message booked) = receipts_of booked.outcome
receipts_in _ = []

-- the acknowledgments that a message is due; another block is due none
abbrev pub dues_in : List ℕ → ℕ → BlockOutcome → List Due
dues_in raw moment (Message booked) = dues_of (answer_to raw booked.outcome moment)
dues_in raw moment _ = []
