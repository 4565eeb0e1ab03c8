-- A record as the fields of a head and a text.
use Rattle.std.specs.Prelude.{ℕ, ◌<◌, ◌≤◌, ◌^◌, Bool, ◌&&◌, ◌==◌, List, [], length, get_or}
use Rattle.hl7_head.specs.inner.Ack.{cause_code}
use Rattle.dest_queue.specs.declared.Outcome.{Outcome}
use Rattle.dest_queue.specs.declared.Outcome.TheVariants as outcome
use Rattle.event_log.specs.declared.entry.Told.{Told}
use Rattle.event_log.specs.declared.entry.Told.TheVariants as told
use Rattle.event_records.specs.declared.record.Record.{Record}
use Rattle.event_records.specs.declared.record.Record.TheVariants.{Arrival, Take, Settle, Cancel, Deploy, Prune}
use Rattle.event_records.specs.declared.head.Head.{Head}

-- an answer as a kind and a number
abbrev pub told_kind : Told → ℕ
told_kind (told.Accepted number) = 0
told_kind told.Filtered = 1
told_kind (told.Refused cause) = 2
told_kind (told.Repeat place) = 3

abbrev pub told_number : Told → ℕ
told_number (told.Accepted number) = number
told_number told.Filtered = 0
told_number (told.Refused cause) = cause_code cause
told_number (told.Repeat place) = place

-- an outcome as a number
abbrev pub outcome_kind : Outcome → ℕ
outcome_kind outcome.Delivered = 0
outcome_kind outcome.Again = 1
outcome_kind outcome.Rejected = 2

abbrev pub head : ℕ → ℕ → ℕ → ℕ → ℕ → ℕ → Head
head kind part first second third moment =
    record { kind = kind; part = part; first = first; second = second; third = third; moment = moment }

-- the fields of a record; a field that its kind doesn't use is 0
abbrev pub head_of : Record → Head
head_of (Arrival conn channel raw told) = head 0 (told_kind told) conn channel (told_number told) 0
head_of (Take destination now) = head 1 0 destination 0 0 now
head_of (Settle ticket outcome now) = head 2 (outcome_kind outcome) ticket.number ticket.destination ticket.attempt now
head_of (Cancel number among) = head 3 0 number among 0 0
head_of (Deploy document) = head 4 0 0 0 0 0
head_of (Prune before) = head 5 0 before 0 0 0

-- its text: the bytes received, or the document of a plan
abbrev pub text_of : Record → List ℕ
text_of (Arrival conn channel raw told) = raw
text_of (Take destination now) = []
text_of (Settle ticket outcome now) = []
text_of (Cancel number among) = []
text_of (Deploy document) = document
text_of (Prune before) = []

-- the last moment of the calendar, in seconds since 1970
abbrev pub last_moment : ℕ
last_moment = 253370764799

-- the fields of a head are as wide as their encoding
pub record IsHead (h : Head) : Type 0 where
  pub first : h.first < 2 ^ 32
  pub second : h.second < 2 ^ 32
  pub third : h.third < 2 ^ 32
  pub moment : h.moment ≤ last_moment

-- a record that has an encoding: so are its fields, and its text is shorter than 4 GiB
pub record Fits (r : Record) : Type 0 where
  pub head : IsHead (head_of r)
  pub text : length (text_of r) < 2 ^ 32

-- whether two heads have the same fields
abbrev pub same_head : Head → Head → Bool
same_head a b =
    (a.kind == b.kind) && (a.part == b.part) && (a.first == b.first) && (a.second == b.second) && (a.third == b.third) && (a.moment == b.moment)

-- each element is a byte
abbrev pub AreBytes : List ℕ → Type 0
AreBytes bytes = (i : ℕ) → get_or bytes i 0 < 256
