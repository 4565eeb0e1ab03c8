-- What is recovered from the bodies of a file's records.
use Rattle.std.specs.Prelude.{◌≡◌, ◌≢◌, ◌⊎◌, ◌+◌, ◌==◌, if◌then◌else◌, ℕ, max, List, [], ◌∷◌, map, take, drop, slice_get, Option, None, Some, option_and_then, Result, Ok, Err, IsErr, IsUtf8, All, false}
use Rattle.std.specs.List.{AllByRecursion, filter_map}
use Rattle.plan_text.specs.Entries.{PlanEntry}
use Rattle.plan_text.specs.Document.{plan_in}
use Rattle.event_log.specs.History.{History, Snapshot, begun, of_snapshot}
use Rattle.event_log.specs.Room.{is_in_flight}
use Rattle.event_log.specs.inner.History.{snapshot_after}
use Rattle.event_store.specs.declared.columns.StoredRecord.{StoredRecord}
use Rattle.event_records.specs.declared.fault.RecordFault.{RecordFault}
use Rattle.event_records.specs.declared.record.Record.{Record}
use Rattle.event_records.specs.inner.Fields.{Fits as RecordFits}
use Rattle.event_records.specs.inner.Encoding.{encoding}
use Rattle.event_records.specs.inner.Decoding.{record_at}
use Rattle.book_replay.specs.declared.fault.ReplayFault.TheVariants.{NoMemory, Invalid, Refused, Differs}
use Rattle.book_replay.specs.Replay.{AreReplayed, IsReason, after_records}
use Rattle.book_recovery.specs.declared.fault.HeaderFault.{HeaderFault}
use Rattle.book_recovery.specs.declared.fault.HeaderFault.TheVariants.{NoHeader, OtherFormat, Damaged as DamagedHeader}
use Rattle.book_recovery.specs.declared.fault.RecordProblem.{RecordProblem}
use Rattle.book_recovery.specs.declared.fault.RecordProblem.TheVariants.{Damaged, Trailing, Replay}
use Rattle.book_recovery.specs.declared.fault.RecoveryError.{RecoveryError}
use Rattle.book_recovery.specs.declared.fault.RecoveryError.TheVariants as errors
use Rattle.book_recovery.specs.declared.fault.Stop.{Stop}
use Rattle.book_resume.specs.inner.Resuming.{IsResumable}
use Rattle.opening_records.specs.inner.Openings.{IsEncoding, with_bound}
use Rattle.opening_maps.specs.inner.GivenBack.{given_back}
use Rattle.book_recovery.specs.Seen.{last_connection, last_moment, last_second}
use Rattle.book_recovery.specs.inner.Header.{Contents, Fits, header_bytes, header_in}
use Rattle.book_recovery.specs.inner.Preface.{Preface, PrefaceFits, last_before, later_of, preface_bytes, preface_in}

-- ---- bodies

-- the bodies of stored records
abbrev pub bodies_of : List StoredRecord → List (List ℕ)
bodies_of rows = map (λ r. r.body.items) rows

-- a record that is all that was read
abbrev pub whole : Result (Record × List ℕ) RecordFault → Option Record
whole (Ok (r, [])) = Some r
whole (Ok (r, b ∷ bs)) = None
whole (Err fault) = None

-- the record that a body is, with nothing behind it
abbrev pub record_in : List ℕ → Option Record
record_in body = whole (record_at body)

-- the records among bodies
abbrev pub records_in : List (List ℕ) → List Record
records_in bodies = filter_map record_in bodies

-- the header that the first body of a file is
abbrev pub file_header : List (List ℕ) → Result Contents HeaderFault
file_header [] = Err NoHeader
file_header (body ∷ bodies) = header_in body

-- the preface that it is, if it is one
abbrev pub file_preface : List (List ℕ) → Option Preface
file_preface [] = None
file_preface (body ∷ bodies) = preface_in body

-- the records of a file, which are all bodies but the first
abbrev pub file_records : List (List ℕ) → List Record
file_records bodies = records_in (drop 1 bodies)

-- the highest connection that a message can have come over before a file that begins with this body; none before a header
abbrev pub connection_before : List ℕ → Option ℕ
connection_before first = option_and_then (λ p. last_before p.connections) (preface_in first)

-- the highest connection that a message can have come over, by what a file says
abbrev pub last_connection_in : List (List ℕ) → Option ℕ
last_connection_in [] = None
last_connection_in (first ∷ bodies) = later_of (connection_before first) (last_connection (records_in bodies))

-- the last second that the rows of a file name: when one was written, or a moment in its record
abbrev pub last_second_in : List StoredRecord → ℕ
last_second_in rows = max (last_second (map (λ r. r.at) rows)) (last_moment (file_records (bodies_of rows)))

-- ---- a book that is recovered

-- the history behind a file's header, before its first record
abbrev pub start : Contents → PlanEntry → History
start header plan = snapshot_after plan header.events_max

-- a book is the one of a header: its plan is in force at first, and nothing is booked
pub record IsHeaded (header : Contents) (h : History) : Type 0 where
  pub plan : PlanEntry
  pub planned : plan_in header.document ≡ Ok plan
  pub history : h ≡ start header plan

-- the first body of a file is a header
pub record HasHeader (first version : List ℕ) (h : History) : Type 0 where
  pub header : Contents
  pub read : header_in first ≡ Ok header
  pub encoded : first ≡ header_bytes header
  pub begun_by : version ≡ header.version
  pub headed : IsHeaded header h

-- the opening of a preface: a book can go on from it, and it has the bound that the preface names
pub record IsOpeningOf (p : Preface) (o : Snapshot) : Type 0 where
  pub encoded : IsEncoding o p.opening
  pub bound : o.events_max ≡ p.events_max
  pub resumable : IsResumable o

-- a book goes on from the opening of a preface
pub record IsOpened (p : Preface) (h : History) : Type 0 where
  pub opening : Snapshot
  pub is : IsOpeningOf p opening
  pub history : h ≡ begun opening

-- a book can go on from it
pub record MayBeOpened (p : Preface) : Type 0 where
  pub opening : Snapshot
  pub is : IsOpeningOf p opening

-- the first body of a file is a preface
pub record GoesOn (first version : List ℕ) (h : History) : Type 0 where
  pub preface : Preface
  pub read : preface_in first ≡ Some preface
  pub encoded : first ≡ preface_bytes preface
  pub begun_by : version ≡ preface.version
  pub opened : IsOpened preface h

-- a history is that before the first record of a file that begins with this body, and this version began the file
abbrev pub IsBeginning : List ℕ → List ℕ → History → Type 0
IsBeginning first version h = HasHeader first version h ⊎ GoesOn first version h

-- a history is recovered from the bodies of a file
pub record IsRecovered (bodies : List (List ℕ)) (h : History) : Type 0 where
  pub first : List ℕ
  pub version : List ℕ
  pub beginning : History
  pub begins : IsBeginning first version beginning
  -- the bodies are the first, and the encodings of the records, in order, and nothing else
  pub encoded : bodies ≡ first ∷ map encoding (file_records bodies)
  -- the history is what the sequential engine makes of the records, and their arrivals were so answered
  pub history : h ≡ after_records beginning (file_records bodies)
  pub replayed : AreReplayed beginning (file_records bodies)

-- ---- a file from which none is

-- a body is a record of which this holds
pub record IsRecordThat (P : Record → Type 0) (body : List ℕ) : Type 0 where
  pub its : Record
  pub is : record_in body ≡ Some its
  pub holds : P its

-- more bytes are behind the record of a body
pub record HasTrailing (body : List ℕ) : Type 0 where
  pub its : Record
  pub rest : List ℕ
  pub read : record_at body ≡ Ok (its, rest)
  pub some : rest ≢ []

-- the reason for which a recovery stops at a body, where this is the history before it; memory can be refused at any
abbrev pub IsProblem : RecordProblem → History → List ℕ → Type 0
IsProblem (Damaged fault) h body = record_at body ≡ Err fault
IsProblem Trailing h body = HasTrailing body
IsProblem (Replay NoMemory) h body = Unit {0}
IsProblem (Replay Invalid) h body = IsRecordThat (IsReason Invalid h) body
IsProblem (Replay Refused) h body = IsRecordThat (IsReason Refused h) body
IsProblem (Replay Differs) h body = IsRecordThat (IsReason Differs h) body

-- it stops at the body of this index, behind records that were booked again
pub record StopsAtBody (index : ℕ) (problem : RecordProblem) (h : History) (bodies : List (List ℕ)) : Type 0 where
  pub stop : List ℕ
  pub found : slice_get bodies index ≡ Some stop
  pub encoded : take index bodies ≡ map encoding (records_in (take index bodies))
  pub replayed : AreReplayed h (records_in (take index bodies))
  pub is : IsProblem problem (after_records h (records_in (take index bodies))) stop

-- it stops at the record of this index, counted from 0 for the first body
pub record IsStopped (stop : Stop) (bodies : List (List ℕ)) : Type 0 where
  pub first : List ℕ
  pub beginning : History
  pub index : ℕ
  pub found : slice_get bodies 0 ≡ Some first
  pub begins : IsBeginning first stop.version.now beginning
  pub place : stop.index ≡ index + 1
  pub stops : StopsAtBody index stop.problem beginning (drop 1 bodies)

-- the fault of a first body that is neither a header nor a preface: one of the second format is damaged
abbrev pub fault_of : HeaderFault → HeaderFault
fault_of NoHeader = NoHeader
fault_of (OtherFormat format) = if format == 2 then DamagedHeader else OtherFormat format
fault_of DamagedHeader = DamagedHeader

-- the first body of a file is neither, for this reason
pub record HasNoHeader (fault : HeaderFault) (bodies : List (List ℕ)) : Type 0 where
  pub of_header : HeaderFault
  pub read : file_header bodies ≡ Err of_header
  pub no_preface : file_preface bodies ≡ None
  pub is : fault ≡ fault_of of_header

-- the first body is a preface, with no opening from which a book can go on
pub record HasNoOpening (bodies : List (List ℕ)) : Type 0 where
  pub preface : Preface
  pub read : file_preface bodies ≡ Some preface
  pub none : (o : Snapshot) → IsOpeningOf preface o → ⊥

-- the document of a file's header is no plan
pub record HasNoPlan (bodies : List (List ℕ)) : Type 0 where
  pub header : Contents
  pub read : file_header bodies ≡ Ok header
  pub no_plan : IsUtf8 header.document → IsErr (plan_in header.document)

-- why the document of a header isn't read
abbrev pub IsPlanFailure : RecoveryError → List ℕ → Type 0
IsPlanFailure errors.NoMemory document = Unit {0}
IsPlanFailure (errors.Header fault) document = ⊥
IsPlanFailure errors.NoOpening document = ⊥
IsPlanFailure errors.NoPlan document = IsUtf8 document → IsErr (plan_in document)
IsPlanFailure (errors.Stopped stop) document = ⊥

-- why no book goes on from the opening of a preface
abbrev pub IsOpeningFailure : RecoveryError → Preface → Type 0
IsOpeningFailure errors.NoMemory p = Unit {0}
IsOpeningFailure (errors.Header fault) p = ⊥
IsOpeningFailure errors.NoOpening p = (o : Snapshot) → IsOpeningOf p o → ⊥
IsOpeningFailure errors.NoPlan p = ⊥
IsOpeningFailure (errors.Stopped stop) p = ⊥

-- why no book is recovered; memory can be refused at any time
abbrev pub IsFailure : List (List ℕ) → RecoveryError → Type 0
IsFailure bodies errors.NoMemory = Unit {0}
IsFailure bodies (errors.Header fault) = HasNoHeader fault bodies
IsFailure bodies errors.NoOpening = HasNoOpening bodies
IsFailure bodies errors.NoPlan = HasNoPlan bodies
IsFailure bodies (errors.Stopped stop) = IsStopped stop bodies

-- ---- a file that was written

-- A header and records of which a file is written: they fit into their encodings, the header has a plan, and the sequential
-- engine books the records, and answers their arrivals as they say.
pub record IsRecoverable (c : Contents) (plan : PlanEntry) (rs : List Record) : Type 0 where
  pub header : Fits c
  pub records : AllByRecursion RecordFits rs
  pub planned : plan_in c.document ≡ Ok plan
  pub replayed : AreReplayed (start c plan) rs

-- A preface and records of which a file is written.
pub record MayGoOn (p : Preface) (o : Snapshot) (rs : List Record) : Type 0 where
  pub preface : PrefaceFits p
  pub opened : IsOpeningOf p o
  pub records : AllByRecursion RecordFits rs
  pub replayed : AreReplayed (begun o) rs

-- what may stop a recovery of such a file: memory is refused, or an arrival is of no event of a book
abbrev pub IsExcused : RecoveryError → Type 0
IsExcused errors.NoMemory = Unit {0}
IsExcused (errors.Header fault) = ⊥
IsExcused errors.NoOpening = ⊥
IsExcused errors.NoPlan = ⊥
IsExcused (errors.Stopped stop) = (stop.problem ≡ Replay NoMemory) ⊎ (stop.problem ≡ Replay Invalid)

-- ---- a book that goes on in a new file

-- a history with another bound of its entries
abbrev pub rebound : ℕ → History → History
rebound events_max h = of_snapshot (with_bound events_max h.opening) h.entries

-- the same, where what was in flight waits again
abbrev pub going_on : ℕ → History → History
going_on events_max h = of_snapshot (with_bound events_max (given_back h.opening)) h.entries

-- no message that an opening remembers is in flight
abbrev pub AreAtRest : Snapshot → Type 0
AreAtRest o = All (λ r. All (λ s. is_in_flight s.state ≡ false) r.slots) o.remembered
