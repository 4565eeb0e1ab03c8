-- What proofs use beside the page Replies.
use Rattle.std.specs.Prelude.{ℕ, List, Result, Ok, Err}
use Rattle.conn_core.specs.declared.booking.Unbooked.{Unbooked}
use Rattle.book_core.specs.declared.receipt.Receipt.{Receipt}
use Rattle.event_log.specs.declared.entry.Told.{Told}
use Rattle.conn_core.specs.Replies.{Answer}

-- what became of a message, by the receipt of its booking
abbrev pub told_by : Result Receipt Unbooked → Result Told Unbooked
told_by (Ok r) = Ok r.told
told_by (Err unbooked) = Err unbooked

-- the acknowledgments of a connection: how many were made, and the blocks of those that are not written yet
pub record RepliesView : Type 0 where
  pub made : ℕ
  pub bytes : List ℕ

-- the answer to a message with this outcome
abbrev pub answer_to : List ℕ → Result Receipt Unbooked → ℕ → Answer
answer_to raw outcome moment = record { raw = raw; outcome = told_by outcome; moment = moment }
