-- What of a shared book is durable, by its log: which entries survive a crash. `Durable below` in a log says that all entries
-- of the history below that index do.
use Rattle.std.specs.Prelude.{◌≡◌, ◌⊎◌, ℕ, ◌<◌, ◌≤◌, List, [], ◌∷◌, ◌++◌, Some, Err}
use Rattle.event_log.specs.declared.entry.Entry.TheVariants.{Arrival}
use Rattle.event_log.specs.declared.entry.Told.{Told}
use Rattle.event_log.specs.declared.entry.Told.TheVariants.{Accepted}
use Rattle.event_log.specs.History.{History, entry_at, next_place}
use Rattle.book_lock.specs.declared.log_entry.LogEntry.{LogEntry}
use Rattle.book_lock.specs.declared.durable.TakeDurableRefusal.{TakeDurableRefusal}
use Rattle.book_lock.specs.declared.durable.TakeDurableRefusal.TheVariants.{NotDurable, Refused}
use Rattle.book_lock.specs.declared.log_entry.LogEntry.TheVariants as log
use Rattle.book_lock.specs.Log.{Linearizes, Log, Looks, SeatView, Takes, after_log}

-- what was booked or pruned, in order: what a log says of durability changes no book
abbrev pub changes_of : Log → List LogEntry
changes_of [] = []
changes_of ((n, log.Booked e) ∷ xs) = log.Booked e ∷ changes_of xs
changes_of ((n, log.Pruned before) ∷ xs) = log.Pruned before ∷ changes_of xs
changes_of ((n, log.Durable below) ∷ xs) = changes_of xs

-- ---- what was published

-- a log has `Durable below`
pub record HasDurable (entries : Log) (below : ℕ) : Type 0 where
  pub before : Log
  pub seat : ℕ
  pub after : Log
  pub is : entries ≡ before ++ (seat, log.Durable below) ∷ after

-- all entries below an index are durable: they were there at the opening, or the log says so
abbrev pub IsDurableBelow : History → Log → ℕ → Type 0
IsDurableBelow opening entries below = (below ≤ next_place opening) ⊎ HasDurable entries below

-- by a log, the entry at this index is durable
pub record IsCovered (entries : Log) (index : ℕ) : Type 0 where
  pub below : ℕ
  pub has : HasDurable entries below
  pub covers : index < below

-- each arrival that a seat booked is durable, by the part of the log that the seat has seen
pub record AreArrivalsDurable (opening : History) (seat : SeatView) : Type 0 where
  pub each : (before : Log) (conn channel : ℕ) (raw : List ℕ) (told : Told) (after : Log) →
      seat.seen ≡ before ++ (seat.number, log.Booked (Arrival conn channel raw told)) ∷ after →
      IsCovered seat.seen (next_place (after_log opening before))

-- All that a seat had seen is durable, by what it has seen since: all is durable below an index that is behind these entries.
pub record IsAllDurable (opening : History) (old new : Log) : Type 0 where
  pub below : ℕ
  pub behind : next_place (after_log opening old) ≤ below
  pub durable : IsDurableBelow opening new below

-- ---- what was committed

-- The changes of a prefix of a log were committed, and an index is that of the next entry after them.
pub record IsCommittedBelow (opening : History) (Committed : List LogEntry → Type 0) (entries : Log) (below : ℕ) : Type 0 where
  pub durable : Log
  pub rest : Log
  pub is : entries ≡ durable ++ rest
  pub committed : Committed (changes_of durable)
  pub next : below ≡ next_place (after_log opening durable)

-- In a log, each `Durable below` follows the commit of all changes below that index.
pub record AreCommitted (opening : History) (Committed : List LogEntry → Type 0) (entries : Log) : Type 0 where
  pub each : (before : Log) (seat below : ℕ) (after : Log) →
      entries ≡ before ++ (seat, log.Durable below) ∷ after → IsCommittedBelow opening Committed before below

-- The log of a closed book is one history of its seats, and each `Durable below` in it follows the commit.
pub record HasCommitted (opening : History) (Committed : List LogEntry → Type 0) (seats : ℕ) (seen : List SeatView)
    (book : History) : Type 0 where
  pub one_history : Linearizes opening seats seen book
  pub committed : AreCommitted opening Committed one_history.entries

-- ---- messages

-- the entry at this index is the arrival of message n
pub record ArrivedAt (h : History) (n index : ℕ) : Type 0 where
  pub conn : ℕ
  pub channel : ℕ
  pub raw : List ℕ
  pub entry : entry_at h index ≡ Some (Arrival conn channel raw (Accepted n))

-- message n arrived below an index: by the entry of its arrival, or at an index whose entry is folded
pub record ArrivedBelow (h : History) (n below : ℕ) : Type 0 where
  pub index : ℕ
  pub arrived : ArrivedAt h n index ⊎ (index < h.opening.places)
  pub covers : index < below

-- message n arrived below an index below which all is durable, by a log
pub record IsDurableMessage (opening h : History) (entries : Log) (n : ℕ) : Type 0 where
  pub below : ℕ
  pub arrived : ArrivedBelow h n below
  pub durable : IsDurableBelow opening entries below

-- The first message of queue d was not taken: its seat looked at the book, and where the message is durable, the book refused
-- the take after that look.
abbrev pub IsNotTaken : History → ℕ → ℕ → SeatView → SeatView → TakeDurableRefusal → Type 0
IsNotTaken opening d now old new NotDurable = Looks opening old new
IsNotTaken opening d now old new (Refused refusal) =
    (between : SeatView) × Looks opening old between × Takes opening d now between new (Err refusal)
