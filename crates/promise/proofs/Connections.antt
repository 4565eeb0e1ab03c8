-- What is promised of a message that was acknowledged on a connection.
use Rattle.std.proofs.Common.{◌≡◌, inl, inr, ℕ, zero, suc, List, [], ◌∷◌, ◌++◌, map, Option, None, Some, Result, Ok, Err, refl, sym, ◌∙◌, ap, subst, arith, All}
use Rattle.std.specs.Prelude.{slice_get, ◌⊎◌, IfErr}
use Rattle.std.specs.List.{AllByRecursion, Contains, cons_option, filter_map}
use Rattle.std.specs.Option.{option_map_or}
use Rattle.std.proofs.lemmas.List.Elements.{All-contains, Contains-append_cases, Contains-append_right}
use mathlib.Core.List.{IsPrefix}
use Rattle.hl7_head.specs.declared.ack.AckPart.{AckPart}
use Rattle.hl7_head.specs.declared.ack.Cause.{Cause}
use Rattle.hl7_head.specs.declared.ack.Cause.TheVariants as cause
use Rattle.hl7_head.specs.Header.{Msh, header_of}
use Rattle.ack_rule.specs.declared.mode.AckMode.{AckMode}
use Rattle.ack_rule.specs.Due.{ack_mode, due, verdictum_of}
use Rattle.event_log.specs.declared.entry.Entry.TheVariants as entry
use Rattle.event_log.specs.declared.entry.Told.{Told}
use Rattle.event_log.specs.declared.entry.Told.TheVariants as told
use Rattle.event_log.specs.History.{History}
use Rattle.conn_core.specs.declared.booking.Unbooked.{Unbooked}
use Rattle.conn_core.specs.declared.booking.Unbooked.TheVariants as unbooked
use Rattle.book_core.specs.declared.receipt.NotBooked.TheVariants as not_booked
use Rattle.book_core.specs.declared.receipt.Receipt.{Receipt}
use Rattle.ghost_log.specs.Seats.{entries_of}
use Rattle.book_lock.specs.declared.log_entry.LogEntry.{LogEntry}
use Rattle.book_lock.specs.declared.log_entry.LogEntry.TheVariants as log
use Rattle.book_lock.specs.Log.{IsLegalLog, Log, SeatView, after_log}
use Rattle.book_lock.specs.inner.Sound.{IsSoundBook}
use Rattle.conn_core.specs.Messages.{BookedMessage, booked, booked_with, message_by}
use Rattle.conn_core.specs.Replies.{Answer, Due, dues_by, dues_of, told_of}
use Rattle.conn_core.specs.Booking.{IfRepeat}
use Rattle.conn_worker.specs.Arriving.{BooksInLog, IsKnownIn, arrival_entry}
use Rattle.conn_worker.specs.Serving.{IsKnownIfRepeated}
use Rattle.conn_worker.specs.inner.Arriving.{known_later}
use Rattle.delivery_worker.proofs.Listed.{contains_any, contains_map, contains_mapped, contains_one}
use Rattle.promise.specs.Promise.{Arrival, IsPositive, IsPromised, IsSuccess}
use Rattle.promise.proofs.Answered.{promised, promised-unbooked}
use Rattle.promise.proofs.Positive.{in-error, rejected}

-- ---- lists

-- the index of an element
record IsAt {A : Type 0} (xs : List A) (x : A) : Type 0 where
  index : ℕ
  is : slice_get xs index ≡ Some x

at-index : {A : Type 0} (xs : List A) (x : A) → Contains xs x → IsAt xs x
at-index [] x h = let inside = h.1 in absurd (omega arith)
at-index (y ∷ xs) x h = elim (Contains-append_cases (y ∷ []) xs x h) [
  | inl here ↦ record { index = 0; is = ap (λ z. Some z) (contains_one y x here) }
  | inr there ↦ let r = at-index xs x there in record { index = suc r.index; is = r.is }
]

-- an item of a list is one of a longer list
got-longer : {A : Type 0} (xs ys : List A) (k : ℕ) (x : A) → slice_get xs k ≡ Some x → slice_get (xs ++ ys) k ≡ Some x
got-longer [] ys k x is = absurd cc
got-longer (z ∷ xs) ys zero x is = is
got-longer (z ∷ xs) ys (suc k) x is = got-longer xs ys k x is

-- what an item becomes that a map keeps
contains-kept : {X Y : Type 0} (f : X → Option Y) (xs : List X) (x : X) (y : Y) → Contains xs x → f x ≡ Some y → Contains (filter_map f xs) y
contains-kept f [] x y h is = let inside = h.1 in absurd (omega arith)
contains-kept {X} {Y} f (z ∷ xs) x y h is = elim (Contains-append_cases (z ∷ []) xs x h) [
  | inl here ↦ let own : f z ≡ Some y = ap f (contains_one z x here) ∙ is in
      subst (λ (o : Option Y). Contains (cons_option o (filter_map f xs)) y) (sym own) (first y (filter_map f xs))
  | inr there ↦ more (f z) (filter_map f xs) (contains-kept f xs x y there is)
]
  where
    first : (y : Y) (ys : List Y) → Contains (y ∷ ys) y
    first y ys = (0, omega arith, refl)

    more : (o : Option Y) (ys : List Y) → Contains ys y → Contains (cons_option o ys) y
    more None ys inside = inside
    more (Some w) ys inside = Contains-append_right (w ∷ []) ys y inside

-- ---- an arrival in the log

-- a message that was answered as booked is the arrival of a receipt, which is in the log
arrived : (opening : History) (old new : SeatView) (receipts : List Receipt) (entries : Log) (conn channel : ℕ) (answers : List Answer) (a : Answer) (t : Told)
    → BooksInLog opening old new receipts → IsPrefix new.seen entries → map message_by receipts ≡ booked conn channel answers
    → Contains answers a → a.outcome ≡ Ok t → Arrival entries channel a.raw t
arrived opening old new receipts entries conn channel answers a t books begins are one is =
    let b : BookedMessage = record { conn = conn; channel = channel; raw = a.raw; told = t } in
    let keeps : booked_with conn channel a.raw a.outcome ≡ Some b = ap (booked_with conn channel a.raw) is in
    let among : Contains (map message_by receipts) b =
    subst (λ (w : List BookedMessage). Contains w b) (sym are) (contains-kept (λ (x : Answer). booked_with conn channel x.raw x.outcome) answers a b one keeps) in
    let receipt = contains_map message_by receipts b among in
    let own : Contains (entries_of old.number new.seen) (arrival_entry receipt.of) =
    subst (λ (w : List LogEntry). Contains w (arrival_entry receipt.of)) (sym books.own)
    (Contains-append_right (entries_of old.number old.seen) (map arrival_entry receipts) (arrival_entry receipt.of)
    (contains_mapped arrival_entry receipts receipt.of receipt.is_one)) in
    let e : LogEntry = log.Booked (entry.Arrival conn channel a.raw t) in
    let same : arrival_entry receipt.of ≡ e = ap (λ (m : BookedMessage). log.Booked (entry.Arrival m.conn m.channel m.raw m.told)) receipt.is in
    let any = contains_map (λ (x : ℕ × LogEntry). x.1) new.seen (arrival_entry receipt.of) (contains_any old.number new.seen (arrival_entry receipt.of) own) in
    let at = at-index new.seen any.of any.is_one in
    let there : slice_get entries at.index ≡ Some any.of =
    subst (λ (w : Log). slice_get w at.index ≡ Some any.of) begins.1 (got-longer new.seen begins.0 at.index any.of at.is) in
    record {
      index = at.index;
      seat = any.of.0;
      conn = conn;
      is = there ∙ ap (λ (x : LogEntry). Some (any.of.0, x)) (any.is ∙ same);
    }

-- ---- CA and AA

-- a message that is due a positive acknowledgment was booked, with a success
record IsBookedWell (outcome : Result Told Unbooked) : Type 0 where
  told : Told
  is : outcome ≡ Ok told
  success : IsSuccess told

-- or is answered as a repeat without being booked
record IsUnbookedRepeat (outcome : Result Told Unbooked) : Type 0 where
  place : ℕ
  is : outcome ≡ Err (unbooked.Repeat place)

abbrev GoesWell : Result Told Unbooked → Type 0
GoesWell outcome = IsBookedWell outcome ⊎ IsUnbookedRepeat outcome

none-due : (mode : AckMode) (v : Cause) → All (λ (part : AckPart). IsPositive part.code → ⊥) (due mode (verdictum_of v))
none-due mode cause.UnsupportedType = rejected mode cause.UnsupportedType
none-due mode cause.UnsupportedProcessing = rejected mode cause.UnsupportedProcessing
none-due mode cause.UnsupportedVersion = rejected mode cause.UnsupportedVersion
none-due mode cause.MissingControlId = in-error mode cause.MissingControlId
none-due mode cause.BadControlId = in-error mode cause.BadControlId
none-due mode cause.SourceTransform = in-error mode cause.SourceTransform
none-due mode cause.RouteTransform = in-error mode cause.RouteTransform
none-due mode cause.IdReused = in-error mode cause.IdReused
none-due mode cause.NoMemory = in-error mode cause.NoMemory
none-due mode cause.Full = in-error mode cause.Full
none-due mode cause.PlanChanged = in-error mode cause.PlanChanged

booked-well : (mode : AckMode) (outcome : Result Told Unbooked) (part : AckPart) → Contains (due mode (told_of outcome)) part → IsPositive part.code → GoesWell outcome
booked-well mode (Ok (told.Accepted number)) part has positive = inl (record { told = told.Accepted number; is = refl; success = tt })
booked-well mode (Ok told.Filtered) part has positive = inl (record { told = told.Filtered; is = refl; success = tt })
booked-well mode (Ok (told.Repeat place)) part has positive = inl (record { told = told.Repeat place; is = refl; success = tt })
booked-well mode (Err (unbooked.Repeat place)) part has positive = inr (record { place = place; is = refl })
booked-well mode (Ok (told.Refused v)) part has positive = absurd (All-contains (λ (p : AckPart). IsPositive p.code → ⊥) (due mode (verdictum_of v)) part (none-due mode v) has positive)
booked-well mode (Err (unbooked.Refused not_booked.NoMemory)) part has positive = absurd (All-contains (λ (p : AckPart). IsPositive p.code → ⊥) (due mode (verdictum_of cause.NoMemory)) part (none-due mode cause.NoMemory) has positive)
booked-well mode (Err (unbooked.Refused not_booked.Full)) part has positive = absurd (All-contains (λ (p : AckPart). IsPositive p.code → ⊥) (due mode (verdictum_of cause.Full)) part (none-due mode cause.Full) has positive)
booked-well mode (Err (unbooked.Refused not_booked.PlanChanged)) part has positive = absurd (All-contains (λ (p : AckPart). IsPositive p.code → ⊥) (due mode (verdictum_of cause.PlanChanged)) part (none-due mode cause.PlanChanged) has positive)

well : (a : Answer) (o : Option Msh) (d : Due) → Contains (option_map_or (λ h. dues_by h a.outcome a.moment) o []) d → IsPositive d.part.code → GoesWell a.outcome
well a None d has positive = let inside = has.1 in absurd (omega arith)
well a (Some h) d has positive =
    let mode = ack_mode h.accept_type h.application_type in
    let made = contains_map (λ (part : AckPart). record { header = h; part = part; moment = a.moment }) (due mode (told_of a.outcome)) d has in
    let same : made.of ≡ d.part = ap (λ (x : Due). x.part) made.is in
    booked-well mode a.outcome made.of made.is_one (subst (λ (p : AckPart). IsPositive p.code) (sym same) positive)

-- what holds of all answers holds of one
one-of : (P : Answer → Type 0) (answers : List Answer) (a : Answer) → Contains answers a → AllByRecursion P answers → P a
one-of P [] a h all = let inside = h.1 in absurd (omega arith)
one-of P (x ∷ answers) a h all = elim (Contains-append_cases (x ∷ []) answers a h) [
  | inl here ↦ subst P (contains_one x a here) all.0
  | inr there ↦ one-of P answers a there all.1
]

-- ---- the promise

pub acknowledged : (opening : History) (entries : Log) → IsSoundBook opening → IsLegalLog opening entries
    → (old new : SeatView) (receipts : List Receipt) → BooksInLog opening old new receipts → IsPrefix new.seen entries
    → (conn channel : ℕ) (answers : List Answer) → map message_by receipts ≡ booked conn channel answers
    → AllByRecursion (IsKnownIfRepeated (IsKnownIn opening new.seen channel)) answers
    → (a : Answer) → Contains answers a → (d : Due) → Contains (dues_of a) d → IsPositive d.part.code
    → IsPromised opening entries (after_log opening entries) channel a.raw
acknowledged opening entries sound legal old new receipts books begins conn channel answers are known a one d has positive =
    elim (well a (header_of a.raw) d has positive) [
      | inl b ↦ promised opening sound entries legal channel a.raw b.told b.success
          (arrived opening old new receipts entries conn channel answers a b.told books begins are one b.is)
      | inr r ↦
          let its : IsKnownIfRepeated (IsKnownIn opening new.seen channel) a = one-of (IsKnownIfRepeated (IsKnownIn opening new.seen channel)) answers a one known in
          let here : IsKnownIn opening new.seen channel a.raw = subst (λ (o : Result Told Unbooked). IfErr o (IfRepeat (IsKnownIn opening new.seen channel a.raw))) r.is its in
          promised-unbooked opening sound entries legal channel a.raw (known_later opening new.seen entries channel a.raw begins here)
    ]
