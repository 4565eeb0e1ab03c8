-- What a store holds of a shared book: a row for each change, in order, behind the rows that were there when it was shared.
use Rattle.std.specs.Prelude.{◌≡◌, ℕ, pos, List, [], ◌∷◌, ◌++◌, map, codes}
use Rattle.sqlite_value.specs.declared.value.Value.TheVariants.{Int, Text}
use Rattle.sqlite_value.specs.Order.{column}
use Rattle.sqlite_trees.specs.Tree.{Trees}
use Rattle.sqlite_trees.specs.View.{View, IsClean}
use Rattle.dest_queue.specs.declared.SlotState.{SlotState}
use Rattle.dest_queue.specs.declared.SlotState.TheVariants.{Waiting, InFlight, Delivered, Failed}
use Rattle.event_log.specs.declared.entry.Entry.TheVariants as entry
use Rattle.event_log.specs.declared.entry.Told.{Told}
use Rattle.event_log.specs.declared.entry.Told.TheVariants.{Accepted, Filtered, Refused, Repeat}
use Rattle.event_records.specs.declared.record.Record.{Record}
use Rattle.event_records.specs.inner.Fields.{Fits}
use Rattle.event_records.specs.inner.Encoding.{encoding}
use Rattle.event_store.specs.Records.{Record as Row, records_in}
use Rattle.book_lock.specs.declared.log_entry.LogEntry.{LogEntry}
use Rattle.book_lock.specs.declared.log_entry.LogEntry.TheVariants as log
use Rattle.restart_laws.specs.Restart.{IsRecordIn}

-- ---- what the columns of a row say to people

-- what became of an arrival
abbrev pub told_text : Told → List ℕ
told_text (Accepted number) = codes "accepted"
told_text Filtered = codes "filtered"
told_text (Refused cause) = codes "refused"
told_text (Repeat place) = codes "repeat"

-- what became of a message at a destination
abbrev pub state_text : SlotState → List ℕ
state_text (Waiting attempts due) = codes "waiting"
state_text (InFlight attempt) = codes "in flight"
state_text Delivered = codes "delivered"
state_text (Failed cause) = codes "failed"

-- the number that an arrival was given, or 0
abbrev pub told_number : Told → ℕ
told_number (Accepted number) = number
told_number Filtered = 0
told_number (Refused cause) = 0
told_number (Repeat place) = 0

-- the kind of a change
abbrev pub kind_of : LogEntry → List ℕ
kind_of (log.Booked (entry.Arrival conn channel raw told)) = codes "arrival"
kind_of (log.Booked (entry.Take ticket now)) = codes "take"
kind_of (log.Booked (entry.Settle outcome ticket now state)) = codes "settlement"
kind_of (log.Booked (entry.Cancel number among mask)) = codes "cancellation"
kind_of (log.Booked (entry.Deploy plan)) = codes "deployment"
kind_of (log.Pruned before) = codes "pruning"
kind_of (log.Durable below) = []

-- the number of its message, or for a pruning that of the first message that is kept
abbrev pub number_of : LogEntry → ℕ
number_of (log.Booked (entry.Arrival conn channel raw told)) = told_number told
number_of (log.Booked (entry.Take ticket now)) = ticket.number
number_of (log.Booked (entry.Settle outcome ticket now state)) = ticket.number
number_of (log.Booked (entry.Cancel number among mask)) = number
number_of (log.Booked (entry.Deploy plan)) = 0
number_of (log.Pruned before) = before
number_of (log.Durable below) = 0

-- what became of its message
abbrev pub outcome_of : LogEntry → List ℕ
outcome_of (log.Booked (entry.Arrival conn channel raw told)) = told_text told
outcome_of (log.Booked (entry.Take ticket now)) = []
outcome_of (log.Booked (entry.Settle outcome ticket now state)) = state_text state
outcome_of (log.Booked (entry.Cancel number among mask)) = []
outcome_of (log.Booked (entry.Deploy plan)) = []
outcome_of (log.Pruned before) = []
outcome_of (log.Durable below) = []

-- ---- rows

-- a body is the encoding of a record of a change
pub record IsBodyOf (body : List ℕ) (x : LogEntry) : Type 0 where
  pub its : Record
  pub is : IsRecordIn its x
  pub fits : Fits its
  pub encoded : body ≡ encoding its

-- a row is of a change: so is its body, and its columns say what the change is
pub record IsRowOf (row : Row) (x : LogEntry) : Type 0 where
  pub body : IsBodyOf row.body x
  pub kind : column row.note 0 ≡ Text (kind_of x)
  pub number : column row.note 2 ≡ Int (pos (number_of x))
  pub outcome : column row.note 5 ≡ Text (outcome_of x)

-- rows are of changes, one for one
abbrev pub AreRowsOf : List Row → List LogEntry → Type 0
AreRowsOf [] [] = Unit {0}
AreRowsOf [] (x ∷ xs) = ⊥
AreRowsOf (row ∷ rows) [] = ⊥
AreRowsOf (row ∷ rows) (x ∷ xs) = IsRowOf row x × AreRowsOf rows xs

-- the bodies of rows
abbrev pub bodies_of : List Row → List (List ℕ)
bodies_of rows = map (λ row. row.body) rows

-- ---- stores

-- behind these rows, all are rows of these changes
pub record HasRows (before all : List Row) (changes : List LogEntry) : Type 0 where
  pub rows : List Row
  pub behind : all ≡ before ++ rows
  pub are : AreRowsOf rows changes

-- A crash now leaves the rows that were there before, and behind them a row for each of these changes, in order, and
-- nothing else.
pub record AreHeld (v : View) (recovers : Trees → Type 0) (before : List Row) (changes : List LogEntry) : Type 0 where
  pub each : IsClean v → (db : Trees) → recovers db → HasRows before (records_in db) changes
