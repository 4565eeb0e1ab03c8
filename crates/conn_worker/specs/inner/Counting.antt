-- What the outcome of a block adds to the counters of a report.
use Rattle.std.specs.Prelude.{ℕ, Result, Ok, Err}
use Rattle.conn_core.specs.declared.booking.Unbooked.{Unbooked}
use Rattle.book_core.specs.declared.receipt.Receipt.{Receipt}
use Rattle.conn_core.specs.declared.block_outcome.BlockOutcome.{BlockOutcome}
use Rattle.conn_core.specs.declared.block_outcome.BlockOutcome.TheVariants.{Unreadable, Stray, Message}

-- one where the block is no message
abbrev pub unreadable_in : BlockOutcome → ℕ
unreadable_in Unreadable = 1
unreadable_in _ = 0

-- one where it is an acknowledgment
abbrev pub strays_in : BlockOutcome → ℕ
strays_in Stray = 1
strays_in _ = 0

-- one where a message was not booked
abbrev pub unbooked_of : Result Receipt Unbooked → ℕ
unbooked_of (Ok r) = 0
unbooked_of (Err unbooked) = 1

abbrev pub unbooked_in : BlockOutcome → ℕ
unbooked_in (Message booked) = unbooked_of booked.outcome
unbooked_in _ = 0
