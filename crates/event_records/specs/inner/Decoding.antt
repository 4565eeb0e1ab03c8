-- Decoding from left to right, with the first fault.
use Rattle.std.specs.Prelude.{◌≡◌, ℕ, zero, suc, List, [], ◌∷◌, length, take, drop, Result, Ok, Err, nat_le, nat_lt, ◌&&◌, ◌==◌, if◌then◌else◌}
use Rattle.std.specs.Str.{bytes_eq}
use Rattle.std.specs.Int.{Width, w32, w64, byte_len, from_be_bytes}
use Rattle.hl7_head.specs.declared.ack.Cause.{Cause}
use Rattle.hl7_head.specs.declared.ack.Cause.TheVariants as cause
use Rattle.dest_queue.specs.declared.Outcome.{Outcome}
use Rattle.dest_queue.specs.declared.Outcome.TheVariants as outcome
use Rattle.event_log.specs.declared.entry.Ticket.{Ticket}
use Rattle.event_log.specs.declared.entry.Told.{Told}
use Rattle.event_log.specs.declared.entry.Told.TheVariants as told
use Rattle.event_records.specs.declared.fault.RecordFault.{RecordFault}
use Rattle.event_records.specs.declared.fault.RecordFault.TheVariants.{Truncated, Unknown}
use Rattle.event_records.specs.declared.fault.ReadError.{ReadError}
use Rattle.event_records.specs.declared.fault.ReadError.TheVariants as errors
use Rattle.event_records.specs.declared.record.Record.{Record}
use Rattle.event_records.specs.declared.record.Record.TheVariants.{Arrival, Take, Settle, Cancel, Deploy, Prune}
use Rattle.event_records.specs.declared.head.Head.{Head}
use Rattle.event_records.specs.inner.Fields.{head, head_of, last_moment, same_head, text_of}

infixl 10 ◌>>=◌
abbrev pub ◌>>=◌ : {A B : Type 0} → Result A RecordFault → (A → Result B RecordFault) → Result B RecordFault
(Ok x) >>= f = f x
(Err e) >>= f = Err e

-- what a function returned, seen by view, is what decoding gives, unless memory was refused
abbrev pub Fails : {Y : Type 0} → ReadError → Result Y RecordFault → Type 0
Fails errors.NoMemory read = Unit {0}
Fails (errors.Fault f) read = read ≡ Err f

abbrev pub Gives : {X Y : Type 0} → (X → Y) → Result X ReadError → Result Y RecordFault → Type 0
Gives view (Ok x) read = read ≡ Ok (view x)
Gives view (Err e) read = Fails e read

-- ---- the fields

-- a number of this width, and the bytes behind it
abbrev pub number_at : Width → List ℕ → Result (ℕ × List ℕ) RecordFault
number_at w bytes =
    if nat_lt (length bytes) (byte_len w) then Err Truncated else Ok (from_be_bytes w (take (byte_len w) bytes), drop (byte_len w) bytes)

-- a text behind its length, and the bytes behind it
unfoldable pub text_at : List ℕ → Result (List ℕ × List ℕ) RecordFault
text_at bytes = do
  n ← number_at w32 bytes
  if nat_lt (length n.1) n.0 then Err Truncated else Ok (take n.0 n.1, drop n.0 n.1)

-- the numbers of a head, and the bytes behind them
unfoldable pub numbers_at : ℕ → ℕ → List ℕ → Result (Head × List ℕ) RecordFault
numbers_at kind part bytes = do
  first ← number_at w32 bytes
  second ← number_at w32 first.1
  third ← number_at w32 second.1
  moment ← number_at w64 third.1
  Ok (head kind part first.0 second.0 third.0 moment.0, moment.1)

-- a head, and the bytes behind it
unfoldable pub head_at : List ℕ → Result (Head × List ℕ) RecordFault
head_at [] = Err Truncated
head_at (kind ∷ []) = Err Truncated
head_at (kind ∷ (part ∷ bytes)) = numbers_at kind part bytes

-- ---- what the fields mean

-- the cause of this code
unfoldable pub cause_of : ℕ → Result Cause RecordFault
cause_of n =
    if n == 1 then Ok cause.UnsupportedType
    else if n == 2 then Ok cause.UnsupportedProcessing
    else if n == 3 then Ok cause.UnsupportedVersion
    else if n == 4 then Ok cause.MissingControlId
    else if n == 5 then Ok cause.BadControlId
    else if n == 6 then Ok cause.SourceTransform
    else if n == 7 then Ok cause.RouteTransform
    else if n == 8 then Ok cause.IdReused
    else if n == 9 then Ok cause.NoMemory
    else if n == 10 then Ok cause.Full
    else if n == 11 then Ok cause.PlanChanged
    else Err Unknown

-- the answer of this kind and number
unfoldable pub told_of : ℕ → ℕ → Result Told RecordFault
told_of kind number =
    if kind == 0 then Ok (told.Accepted number)
    else if kind == 1 then Ok told.Filtered
    else if kind == 2 then (cause_of number >>= λ cause. Ok (told.Refused cause))
    else if kind == 3 then Ok (told.Repeat number)
    else Err Unknown

-- the outcome of this number
unfoldable pub outcome_of : ℕ → Result Outcome RecordFault
outcome_of kind =
    if kind == 0 then Ok outcome.Delivered
    else if kind == 1 then Ok outcome.Again
    else if kind == 2 then Ok outcome.Rejected
    else Err Unknown

-- the moment this many seconds after 1970 began
unfoldable pub moment_of : ℕ → Result ℕ RecordFault
moment_of n = if nat_le n last_moment then Ok n else Err Unknown

-- the ticket of a settlement
abbrev pub ticket : Head → Ticket
ticket h = record { number = h.first; destination = h.second; attempt = h.third }

-- an arrival, a take and a settlement
unfoldable pub arrival_of : Head → List ℕ → Result Record RecordFault
arrival_of h text = do
  told ← told_of h.part h.third
  Ok (Arrival h.first h.second text told)

unfoldable pub take_of : Head → Result Record RecordFault
take_of h = do
  now ← moment_of h.moment
  Ok (Take h.first now)

unfoldable pub settle_of : Head → Result Record RecordFault
settle_of h = do
  outcome ← outcome_of h.part
  now ← moment_of h.moment
  Ok (Settle (ticket h) outcome now)

-- the record of this kind with these fields
unfoldable pub record_of : Head → List ℕ → Result Record RecordFault
record_of h text =
    if h.kind == 0 then arrival_of h text
    else if h.kind == 1 then take_of h
    else if h.kind == 2 then settle_of h
    else if h.kind == 3 then Ok (Cancel h.first h.second)
    else if h.kind == 4 then Ok (Deploy text)
    else if h.kind == 5 then Ok (Prune h.first)
    else Err Unknown

-- a record, where its fields and its text are just these: so a field that its kind doesn't use is 0, and a record has one
-- encoding
unfoldable pub exactly : Head → List ℕ → Record → Result Record RecordFault
exactly h text r = if same_head (head_of r) h && bytes_eq (text_of r) text then Ok r else Err Unknown

-- the record of a head and a text
unfoldable pub record_from : Head → List ℕ → Result Record RecordFault
record_from h text = record_of h text >>= exactly h text

-- ---- records

-- the record at the front, and the bytes behind it
unfoldable pub record_at : List ℕ → Result (Record × List ℕ) RecordFault
record_at bytes = do
  h ← head_at bytes
  text ← text_at h.1
  r ← record_from h.0 text.0
  Ok (r, text.1)

-- this number of records, and the bytes behind them
unfoldable pub records_at : ℕ → List ℕ → Result (List Record × List ℕ) RecordFault
records_at zero bytes = Ok ([], bytes)
records_at (suc n) bytes = do
  first ← record_at bytes
  others ← records_at n first.1
  Ok (first.0 ∷ others.0, others.1)

-- the batch at the front, and the bytes behind it
unfoldable pub batch_at : List ℕ → Result (List Record × List ℕ) RecordFault
batch_at bytes = do
  n ← number_at w32 bytes
  records_at n.0 n.1
