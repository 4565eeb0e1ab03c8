-- What becomes of a message that arrives at a book without room.
use Rattle.std.specs.Prelude.{ℕ, Option, None, Some, Result, Ok, Err}
use Rattle.book_core.specs.declared.receipt.NotBooked.{NotBooked}
use Rattle.book_core.specs.declared.receipt.Receipt.{Receipt}
use Rattle.conn_core.specs.declared.booking.Unbooked.{Unbooked}
use Rattle.conn_core.specs.declared.booking.Unbooked.TheVariants.{Refused, Repeat}

-- it is answered as a repeat where it repeats an arrival, and else as it was booked or refused
abbrev pub outcome_of : Result Receipt NotBooked → Option ℕ → Result Receipt Unbooked
outcome_of receipt (Some first) = Err (Repeat first)
outcome_of (Ok receipt) None = Ok receipt
outcome_of (Err refusal) None = Err (Refused refusal)
