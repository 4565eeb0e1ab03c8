-- What proofs use beside the page Durable.
use Rattle.std.specs.Prelude.{ℕ, Bool, true, false, List, Option}
use Rattle.event_log.specs.History.{History}
use Rattle.book_lock.specs.declared.log_entry.LogEntry.{LogEntry}
use Rattle.book_lock.specs.declared.log_entry.LogEntry.TheVariants.{Booked, Pruned, Durable}
use Rattle.book_lock.specs.declared.unread.UnreadChanges.{UnreadChanges}
use Rattle.book_lock.specs.Durable.{AreCommitted, IsDurableBelow}
use Rattle.book_lock.specs.Log.{Log}
use Rattle.book_lock.specs.inner.Unread.{IsUnread}

-- whether an entry of a log says what is durable
abbrev pub is_durable : LogEntry → Bool
is_durable (Booked e) = false
is_durable (Pruned before) = false
is_durable (Durable below) = true

-- All entries below an index are durable, by a log in which each `Durable below` follows the commit, and what is kept for a
-- journal are changes of that log.
pub record IsJournaled (opening : History) (Committed : List LogEntry → Type 0) (entries : Log) (below : ℕ)
    (kept : Option UnreadChanges) : Type 0 where
  pub durable : IsDurableBelow opening entries below
  pub committed : AreCommitted opening Committed entries
  pub unread : IsUnread opening entries kept
