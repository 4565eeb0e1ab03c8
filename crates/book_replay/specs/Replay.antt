-- What records make of a history.
use Rattle.std.specs.Prelude.{◌≡◌, ◌≢◌, ◌⊎◌, ◌≤◌, ℕ, List, [], ◌∷◌, length, take, slice_get, None, Some, false, Result, Ok, Err, IsOk, IsErr, IsUtf8}
use Rattle.mllp_frame.specs.Framing.{IsBlockData}
use Rattle.plan_text.specs.Entries.{PlanEntry}
use Rattle.plan_text.specs.Document.{plan_in}
use Rattle.plan_text.specs.declared.fault.PlanFault.{PlanFault}
use Rattle.judge_core.specs.Judging.{is_bookable}
use Rattle.event_log.specs.declared.entry.Told.{Told}
use Rattle.event_log.specs.History.{History, plan_in_force}
use Rattle.event_log.specs.Event.{answer, arrive, cancel, deploy, next, settle, take as take_front}
use Rattle.event_log.specs.Folding.{prune_answer, pruned}
use Rattle.event_records.specs.declared.record.Record.{Record}
use Rattle.event_records.specs.declared.record.Record.TheVariants.{Arrival, Take, Settle, Cancel, Deploy, Prune}
use Rattle.book_replay.specs.declared.fault.ReplayFault.{ReplayFault}
use Rattle.book_replay.specs.declared.fault.ReplayFault.TheVariants.{NoMemory, Invalid, Refused, Differs}

-- ---- the history after records

-- the history after a plan that was read is deployed; a text that is no plan changes nothing
abbrev pub after_reading : History → Result PlanEntry PlanFault → History
after_reading h (Ok plan) = next h (deploy plan)
after_reading h (Err fault) = h

abbrev pub after_document : History → List ℕ → History
after_document h document = after_reading h (plan_in document)

-- the history after a record: what the sequential engine makes of its event
abbrev pub after_record : History → Record → History
after_record h (Arrival conn channel raw told) = next h (arrive conn channel raw)
after_record h (Take destination now) = next h (take_front destination now)
after_record h (Settle ticket outcome now) = next h (settle ticket outcome now)
after_record h (Cancel number among) = next h (cancel number among)
after_record h (Deploy document) = after_document h document
after_record h (Prune before) = pruned before h

-- the history after records
abbrev pub after_records : History → List Record → History
after_records h [] = h
after_records h (r ∷ rs) = after_records (after_record h r) rs

-- ---- records that are booked again

-- a plan that was read is deployed
abbrev pub IsDeployed : History → Result PlanEntry PlanFault → Type 0
IsDeployed h (Ok plan) = IsOk (answer h (deploy plan))
IsDeployed h (Err fault) = ⊥

-- the sequential engine books the event of a record, and answers an arrival as the record says
abbrev pub IsReplayed : History → Record → Type 0
IsReplayed h (Arrival conn channel raw told) = answer h (arrive conn channel raw) ≡ Ok told
IsReplayed h (Take destination now) = IsOk (answer h (take_front destination now))
IsReplayed h (Settle ticket outcome now) = IsOk (answer h (settle ticket outcome now))
IsReplayed h (Cancel number among) = IsOk (answer h (cancel number among))
IsReplayed h (Deploy document) = IsDeployed h (plan_in document)
IsReplayed h (Prune before) = prune_answer h before ≡ None

-- each record after those before it
abbrev pub AreReplayed : History → List Record → Type 0
AreReplayed h [] = Unit {0}
AreReplayed h (r ∷ rs) = IsReplayed h r × AreReplayed (after_record h r) rs

-- a record is booked again
pub record IsBooked (old new : History) (r : Record) : Type 0 where
  pub history : new ≡ after_record old r
  pub replayed : IsReplayed old r

-- ---- records that are not

-- a record is of no event of a book: its channel is not in the plan, its text fits in no block or is no message, or its
-- document is no plan
abbrev pub IsInvalid : History → Record → Type 0
IsInvalid h (Arrival conn channel raw told) = (length (plan_in_force h).channels ≤ channel) ⊎ (IsBlockData raw → ⊥) ⊎ (is_bookable raw ≡ false)
IsInvalid h (Take destination now) = ⊥
IsInvalid h (Settle ticket outcome now) = ⊥
IsInvalid h (Cancel number among) = ⊥
IsInvalid h (Deploy document) = IsUtf8 document → IsErr (plan_in document)
IsInvalid h (Prune before) = ⊥

-- a plan that was read is not deployed
abbrev pub IsNotDeployed : History → Result PlanEntry PlanFault → Type 0
IsNotDeployed h (Ok plan) = IsErr (answer h (deploy plan))
IsNotDeployed h (Err fault) = ⊥

-- the sequential engine refuses the event of a record
abbrev pub IsRefused : History → Record → Type 0
IsRefused h (Arrival conn channel raw told) = IsErr (answer h (arrive conn channel raw))
IsRefused h (Take destination now) = IsErr (answer h (take_front destination now))
IsRefused h (Settle ticket outcome now) = IsErr (answer h (settle ticket outcome now))
IsRefused h (Cancel number among) = IsErr (answer h (cancel number among))
IsRefused h (Deploy document) = IsNotDeployed h (plan_in document)
IsRefused h (Prune before) = prune_answer h before ≢ None

-- the sequential engine answers an arrival otherwise than the record says
abbrev pub IsDifferent : History → Record → Type 0
IsDifferent h (Arrival conn channel raw told) = (other : Told) × (answer h (arrive conn channel raw) ≡ Ok other) × (other ≢ told)
IsDifferent h (Take destination now) = ⊥
IsDifferent h (Settle ticket outcome now) = ⊥
IsDifferent h (Cancel number among) = ⊥
IsDifferent h (Deploy document) = ⊥
IsDifferent h (Prune before) = ⊥

-- the reason for which a replay stops at a record; memory can be refused at any
abbrev pub IsReason : ReplayFault → History → Record → Type 0
IsReason NoMemory h r = Unit {0}
IsReason Invalid h r = IsInvalid h r
IsReason Refused h r = IsRefused h r
IsReason Differs h r = IsDifferent h r

-- the history that a replay leaves that stops at a record: as it was before it, but an arrival whose answer differs is booked
abbrev pub left_by : ReplayFault → History → Record → History
left_by NoMemory h r = h
left_by Invalid h r = h
left_by Refused h r = h
left_by Differs h r = after_record h r

-- a replay stops at a record
pub record StopsAt (fault : ReplayFault) (old new : History) (r : Record) : Type 0 where
  pub reason : IsReason fault old r
  pub left : new ≡ left_by fault old r

-- a replay stops at the record of this index, behind records that were booked again
pub record IsStopped (index : ℕ) (fault : ReplayFault) (old new : History) (records : List Record) : Type 0 where
  pub stop : Record
  pub found : slice_get records index ≡ Some stop
  pub replayed : AreReplayed old (take index records)
  pub stops : StopsAt fault (after_records old (take index records)) new stop
