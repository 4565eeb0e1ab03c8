-- A record that was written is read again.
use Rattle.std.proofs.Common.{◌≡◌, ℕ, suc, ◌^◌, ◌<◌, ◌≤◌, true, List, [], ◌∷◌, ◌++◌, length, Ok, refl, ap, ◌∙◌, append_assoc, arith, leb, rules}
use Rattle.std.specs.Str.{bytes_eq}
use Rattle.std.proofs.lemmas.Bool.{and_from, eq-eqb}
use Rattle.std.proofs.lemmas.Slice.Eq.{bytes_eq-Decides}
use Rattle.std.specs.List.{AllByRecursion}
use Rattle.std.specs.Int.{w32, to_be_bytes}
use Rattle.std.proofs.lemmas.List.Concat.{flat_map-cons}
use Rattle.hl7_head.specs.declared.ack.Cause.{Cause}
use Rattle.hl7_head.specs.declared.ack.Cause.TheVariants as cause
use Rattle.hl7_head.specs.inner.Ack.{cause_code}
use Rattle.dest_queue.specs.declared.Outcome.{Outcome}
use Rattle.dest_queue.specs.declared.Outcome.TheVariants as outcome
use Rattle.event_log.specs.declared.entry.Told.{Told}
use Rattle.event_log.specs.declared.entry.Told.TheVariants as told
use Rattle.event_records.specs.declared.record.Record.{Record}
use Rattle.event_records.specs.declared.record.Record.TheVariants.{Arrival, Take, Settle, Cancel, Deploy, Prune}
use Rattle.event_records.specs.declared.head.Head.{Head}
use Rattle.event_records.specs.inner.Fields.{Fits, head_of, text_of, told_kind, told_number, outcome_kind, last_moment, same_head}
use Rattle.event_records.specs.inner.Encoding.{text_bytes, head_bytes, encoding, encodings, batch_encoding}
use Rattle.event_records.specs.inner.Decoding.{record_at, record_from, record_of, records_at, exactly, batch_at, arrival_of, take_of, settle_of, told_of, cause_of, outcome_of, moment_of}
use Rattle.event_records.proofs.Fields.{wide32, number_again, text_again, head_again}

cause_again : (c : Cause) → cause_of (cause_code c) ≡ Ok c
unfolding cause_of
cause_again cause.UnsupportedType = refl
cause_again cause.UnsupportedProcessing = refl
cause_again cause.UnsupportedVersion = refl
cause_again cause.MissingControlId = refl
cause_again cause.BadControlId = refl
cause_again cause.SourceTransform = refl
cause_again cause.RouteTransform = refl
cause_again cause.IdReused = refl
cause_again cause.NoMemory = refl
cause_again cause.Full = refl
cause_again cause.PlanChanged = refl

pub told_again : (t : Told) → told_of (told_kind t) (told_number t) ≡ Ok t
unfolding told_of
told_again (told.Accepted number) = refl
told_again told.Filtered = refl
told_again (told.Refused c) = rw (cause_again c) refl
told_again (told.Repeat place) = refl

outcome_again : (o : Outcome) → outcome_of (outcome_kind o) ≡ Ok o
unfolding outcome_of
outcome_again outcome.Delivered = refl
outcome_again outcome.Again = refl
outcome_again outcome.Rejected = refl

moment_again : (n : ℕ) → n ≤ last_moment → moment_of n ≡ Ok n
unfolding moment_of
moment_again n le =
    let within : leb n last_moment ≡ true = grind arith in
    rw within refl

fields_again : (r : Record) → Fits r → record_of (head_of r) (text_of r) ≡ Ok r
unfolding record_of arrival_of take_of settle_of
fields_again (Arrival conn channel raw told) fits = rw (told_again told) refl
fields_again (Take destination now) fits = rw (moment_again now fits.head.moment) refl
fields_again (Settle ticket outcome now) fits = rw (outcome_again outcome, moment_again now fits.head.moment) refl
fields_again (Cancel number among) fits = refl
fields_again (Deploy document) fits = refl
fields_again (Prune before) fits = refl

same-self : (h : Head) → same_head h h ≡ true
same-self h =
    and_from _ _ (
    and_from _ _ (
    and_from _ _ (
    and_from _ _ (and_from _ _ (eq-eqb h.kind h.kind refl) (eq-eqb h.part h.part refl)) (eq-eqb h.first h.first refl)
    ) (eq-eqb h.second h.second refl)
    ) (eq-eqb h.third h.third refl)
    ) (eq-eqb h.moment h.moment refl)

text-self : (text : List ℕ) → bytes_eq text text ≡ true
text-self text = search (rules, bytes_eq-Decides)

record_again : (r : Record) → Fits r → record_from (head_of r) (text_of r) ≡ Ok r
unfolding record_from exactly
record_again r fits = rw (fields_again r fits, same-self (head_of r), text-self (text_of r)) refl

pub back : (r : Record) (rest : List ℕ) → Fits r → record_at (encoding r ++ rest) ≡ Ok (r, rest)
unfolding record_at
back r rest fits =
    let regrouped : encoding r ++ rest ≡ head_bytes (head_of r) ++ (text_bytes (text_of r) ++ rest) = append_assoc (head_bytes (head_of r)) (text_bytes (text_of r)) rest in
    ap record_at regrouped ∙ rw (head_again (head_of r) (text_bytes (text_of r) ++ rest) fits.head, text_again (text_of r) rest fits.text, record_again r fits) refl

records_back : (rs : List Record) (rest : List ℕ) → AllByRecursion Fits rs → records_at (length rs) (encodings rs ++ rest) ≡ Ok (rs, rest)
unfolding records_at
records_back [] rest fits = refl
records_back (r ∷ rs) rest fits =
    let regrouped : encodings (r ∷ rs) ++ rest ≡ encoding r ++ (encodings rs ++ rest) = ap (λ (x : List ℕ). x ++ rest) (flat_map-cons encoding r rs) ∙ append_assoc (encoding r) (encodings rs) rest in
    ap (records_at (suc (length rs))) regrouped ∙ rw (back r (encodings rs ++ rest) fits.0, records_back rs rest fits.1) refl

pub batch_back : (rs : List Record) (rest : List ℕ) → length rs < 2 ^ 32 → AllByRecursion Fits rs → batch_at (batch_encoding rs ++ rest) ≡ Ok (rs, rest)
unfolding batch_at
batch_back rs rest few fits =
    let regrouped : batch_encoding rs ++ rest ≡ to_be_bytes w32 (length rs) ++ (encodings rs ++ rest) = append_assoc (to_be_bytes w32 (length rs)) (encodings rs) rest in
    ap batch_at regrouped ∙ rw (number_again w32 (2 ^ 32) wide32 (length rs) (encodings rs ++ rest) few, records_back rs rest fits) refl
