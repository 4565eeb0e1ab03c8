-- The records of the changes of a log.
use Rattle.std.specs.Prelude.{◌≡◌, ℕ, List, [], ◌∷◌, Ok}
use Rattle.plan_text.specs.Document.{plan_in}
use Rattle.event_log.specs.declared.entry.Entry.{Entry}
use Rattle.event_log.specs.declared.entry.Entry.TheVariants as entry
use Rattle.event_records.specs.declared.record.Record.{Record}
use Rattle.event_records.specs.declared.record.Record.TheVariants as kept
use Rattle.book_lock.specs.declared.log_entry.LogEntry.{LogEntry}
use Rattle.book_lock.specs.declared.log_entry.LogEntry.TheVariants as log

-- a record is of an entry: it has its event, and the answer to an arrival; reading its document gives its plan
abbrev pub IsRecordOf : Record → Entry → Type 0
IsRecordOf r (entry.Arrival conn channel raw told) = r ≡ kept.Arrival conn channel raw told
IsRecordOf r (entry.Take ticket now) = r ≡ kept.Take ticket.destination now
IsRecordOf r (entry.Settle outcome ticket now state) = r ≡ kept.Settle ticket outcome now
IsRecordOf r (entry.Cancel number among mask) = r ≡ kept.Cancel number among
IsRecordOf r (entry.Deploy plan) = (document : List ℕ) × (r ≡ kept.Deploy document) × (plan_in document ≡ Ok plan)

-- a record is of a change: of an entry, or of a pruning; what a log says of durability is no change
abbrev pub IsRecordIn : Record → LogEntry → Type 0
IsRecordIn r (log.Booked e) = IsRecordOf r e
IsRecordIn r (log.Pruned before) = r ≡ kept.Prune before
IsRecordIn r (log.Durable below) = ⊥

-- records are of changes, one for one
abbrev pub AreRecordsOf : List Record → List LogEntry → Type 0
AreRecordsOf [] [] = Unit {0}
AreRecordsOf [] (x ∷ xs) = ⊥
AreRecordsOf (r ∷ rs) [] = ⊥
AreRecordsOf (r ∷ rs) (x ∷ xs) = IsRecordIn r x × AreRecordsOf rs xs
