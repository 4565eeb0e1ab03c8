-- Files: what is read of one, and what was written to one.
use Rattle.std.proofs.Common.{◌≡◌, ◌≢◌, ◌⊎◌, inl, inr, ℕ, zero, suc, ◌+◌, ◌-◌, ◌≤◌, ◌<◌, ◌^◌, List, [], ◌∷◌, ◌++◌, map, take, drop, length, get_or, arith, Option, None, Some, Result, Ok, Err, refl, sym, ap, subst, ◌∙◌}
use Rattle.std.specs.Prelude.{IfErr, IfOk, IsErr, IsUtf8, option_and_then, slice_get}
use Rattle.std.specs.List.{AllByRecursion, cons_option, filter_map}
use Rattle.std.proofs.lemmas.List.{append-nil, length-drop, take_all}
use Rattle.fixed_numbers.specs.declared.book.TheConstants.{EVENTS_MAX}
use Rattle.plan_text.specs.Entries.{PlanEntry}
use Rattle.plan_text.specs.Document.{plan_in}
use Rattle.event_log.specs.declared.entry.Entry.{Entry}
use Rattle.event_log.specs.History.{History, Snapshot, begun as opened_from, of_snapshot}
use Rattle.opening_records.specs.inner.Openings.{IsEncoding}
use Rattle.opening_records.proofs.Openings.{one_opening}
use Rattle.event_store.specs.declared.columns.StoredRecord.{StoredRecord}
use Rattle.event_records.specs.declared.fault.RecordFault.{RecordFault}
use Rattle.event_records.specs.declared.record.Record.{Record}
use Rattle.event_records.specs.declared.record.Record.TheVariants.{Arrival, Take, Settle, Cancel, Deploy, Prune}
use Rattle.event_records.specs.inner.Fields.{Fits as RecordFits}
use Rattle.event_records.specs.inner.Encoding.{encoding}
use Rattle.event_records.specs.inner.Decoding.{record_at}
use Rattle.event_records.proofs.Back.{back as record_back}
use Rattle.event_records.proofs.Only.{only as record_only}
use Rattle.book_replay.specs.declared.fault.ReplayFault.{ReplayFault}
use Rattle.book_replay.specs.declared.fault.ReplayFault.TheVariants.{NoMemory, Invalid, Refused, Differs}
use Rattle.book_replay.specs.Replay.{AreReplayed, IsReason, after_record, after_records, left_by}
use Rattle.book_replay.proofs.Reasons.{only as only_reasons}
use Rattle.book_recovery.specs.declared.fault.HeaderFault.{HeaderFault}
use Rattle.book_recovery.specs.declared.fault.RecordProblem.{RecordProblem}
use Rattle.book_recovery.specs.declared.fault.RecordProblem.TheVariants.{Damaged, Trailing, Replay}
use Rattle.book_recovery.specs.declared.fault.RecoveryError.{RecoveryError}
use Rattle.book_recovery.specs.declared.fault.RecoveryError.TheVariants as errors
use Rattle.book_recovery.specs.declared.fault.Stop.{Stop}
use Rattle.book_recovery.specs.declared.seen.Seen.{Seen}
use Rattle.book_recovery.specs.inner.Header.{AreBytes, Contents, Fits, header_bytes, header_in}
use Rattle.book_recovery.specs.inner.Preface.{Preface, PrefaceFits, header_of, last_before, later_of, preface_bytes, preface_in}
use Rattle.book_recovery.specs.inner.File.{IsBeginning, IsExcused, IsFailure, IsHeaded, IsOpened, IsOpeningOf, IsPlanFailure, IsProblem, IsRecordThat, IsRecovered, IsRecoverable, IsStopped, MayBeOpened, MayGoOn, StopsAtBody, bodies_of, connection_before, file_header, file_records, last_connection_in, record_in, records_in, start, whole}
use Rattle.book_recovery.specs.inner.Redone.{HasRedone}
use Rattle.book_recovery.proofs.Codec.{back, only}
use Rattle.book_recovery.proofs.Prefaces.{back as preface_back, header_no_preface, no_header, only as preface_only}

-- ---- a body

pub is_whole : (read : Result (Record × List ℕ) RecordFault) (r : Record) → whole read ≡ Some r → read ≡ Ok (r, [])
is_whole (Ok (x, [])) r is = let same : x ≡ r = cc in ap (λ (y : Record). Ok (y, [])) same
is_whole (Ok (x, b ∷ bs)) r is = absurd cc
is_whole (Err fault) r is = absurd cc

pub body_encoded : (body : List ℕ) (r : Record) → AreBytes body → record_at body ≡ Ok (r, []) → body ≡ encoding r
body_encoded body r are is = record_only body r [] are is ∙ append-nil (encoding r)

pub encoded_body : (r : Record) → RecordFits r → record_at (encoding r) ≡ Ok (r, [])
encoded_body r fits = ap record_at (sym (append-nil (encoding r))) ∙ record_back r [] fits

starts_low : (r : Record) (c : Contents) → encoding r ≡ header_bytes c → ⊥
starts_low (Arrival conn channel raw told) c same = absurd cc
starts_low (Take destination now) c same = absurd cc
starts_low (Settle ticket outcome now) c same = absurd cc
starts_low (Cancel number among) c same = absurd cc
starts_low (Deploy document) c same = absurd cc
starts_low (Prune before) c same = absurd cc

-- no header is a record
pub apart : (body : List ℕ) (c : Contents) (r : Record) → AreBytes body → header_in body ≡ Ok c → record_in body ≡ Some r → ⊥
apart body c r are header is =
    starts_low r c (sym (body_encoded body r are (is_whole (record_at body) r is)) ∙ only body c are header)

pub all_encoded : (body : List ℕ) (r : Record) (rest : List ℕ) → AreBytes body → record_at body ≡ Ok (r, rest) → length rest ≡ 0 → body ≡ encoding r
all_encoded body r [] are is none = body_encoded body r are is
all_encoded body r (b ∷ bs) are is none = absurd cc

-- no preface is
starts_otherwise : (r : Record) (p : Preface) → encoding r ≡ preface_bytes p → ⊥
starts_otherwise (Arrival conn channel raw told) p same = absurd cc
starts_otherwise (Take destination now) p same = absurd cc
starts_otherwise (Settle ticket outcome now) p same = absurd cc
starts_otherwise (Cancel number among) p same = absurd cc
starts_otherwise (Deploy document) p same = absurd cc
starts_otherwise (Prune before) p same = absurd cc

pub no_record : (body : List ℕ) (p : Preface) (r : Record) → AreBytes body → preface_in body ≡ Some p → record_in body ≡ Some r → ⊥
no_record body p r are preface is =
    starts_otherwise r p (sym (body_encoded body r are (is_whole (record_at body) r is)) ∙ preface_only body p are preface)

-- ---- a file that was begun

pub header_begins : (first : List ℕ) (c : Contents) (h : History) → first ≡ header_bytes c → header_in first ≡ Ok c → IsHeaded c h → IsBeginning first c.version h
header_begins first c h encoded read headed = inl (record { header = c; read = read; encoded = encoded; begun_by = refl; headed = headed })

pub preface_begins : (first : List ℕ) (p : Preface) (h : History) → AreBytes first → preface_in first ≡ Some p → IsOpened p h → IsBeginning first p.version h
preface_begins first p h are read opened =
    inr (record { preface = p; read = read; encoded = preface_only first p are read; begun_by = refl; opened = opened })

pub no_connection : (first : List ℕ) (c : Contents) → first ≡ header_bytes c → None ≡ connection_before first
no_connection first c encoded =
    sym (ap (option_and_then (λ (x : Preface). last_before x.connections)) (ap preface_in encoded ∙ header_no_preface c))

alone : (first version : List ℕ) (h : History) → IsBeginning first version h → IsRecovered (first ∷ []) h
alone first version h begins =
    record { first = first; version = version; beginning = h; begins = begins; encoded = refl; history = refl; replayed = tt }

pub begun : (first : List ℕ) (c : Contents) (plan : PlanEntry) (h : History) → first ≡ header_bytes c → Fits c → plan_in c.document ≡ Ok plan → h ≡ start c plan
    → IsRecovered (first ∷ []) h
begun first c plan h encoded fits planned is =
    alone first c.version h (header_begins first c h encoded (ap header_in encoded ∙ back c fits) (record { plan = plan; planned = planned; history = is }))

-- ---- a file that was read

pub file_recovered : (first : List ℕ) (behind : List (List ℕ)) (version : List ℕ) (begins now : History) (seen : Seen) → IsBeginning first version begins
    → HasRedone begins behind now seen → IsRecovered (first ∷ behind) now
file_recovered first behind version beginning now seen begins has = record {
  first = first;
  version = version;
  beginning = beginning;
  begins = begins;
  encoded = ap (λ (xs : List (List ℕ)). first ∷ xs) has.encoded;
  history = has.history;
  replayed = has.replayed;
}

same_plan : (x : List ℕ) (y : List ℕ) (p q : PlanEntry) → x ≡ y → plan_in x ≡ Ok p → plan_in y ≡ Ok q → p ≡ q
same_plan x y p q same a b = let both : plan_in x ≡ Ok q = ap plan_in same ∙ b in cc

-- ---- one beginning

same_headed : (c d : Contents) (h k : History) → c ≡ d → IsHeaded c h → IsHeaded d k → h ≡ k
same_headed c d h k same a b =
    let plan : a.plan ≡ b.plan = same_plan c.document d.document a.plan b.plan (ap (λ (x : Contents). x.document) same) a.planned b.planned in
    a.history ∙ (ap (λ (x : Contents). start x a.plan) same ∙ (ap (start d) plan ∙ sym b.history))

same_opened : (p q : Preface) (h k : History) → p ≡ q → IsOpened p h → IsOpened q k → h ≡ k
same_opened p q h k same a b =
    let bytes : IsEncoding b.opening p.opening = subst (λ (x : Preface). IsEncoding b.opening x.opening) (sym same) b.is.encoded in
    a.history ∙ (ap opened_from (one_opening a.opening b.opening p.opening a.is.encoded bytes) ∙ sym b.history)

same_beginning : (first v w : List ℕ) (h k : History) → IsBeginning first v h → IsBeginning first w k → h ≡ k
same_beginning first v w h k (inl a) (inl b) =
    let header : a.header ≡ b.header = cc (a.read, b.read) in same_headed a.header b.header h k header a.headed b.headed
same_beginning first v w h k (inl a) (inr b) = absurd (no_header b.preface a.header (sym b.encoded ∙ a.encoded))
same_beginning first v w h k (inr a) (inl b) = absurd (no_header a.preface b.header (sym a.encoded ∙ b.encoded))
same_beginning first v w h k (inr a) (inr b) =
    let preface : a.preface ≡ b.preface = cc (a.read, b.read) in same_opened a.preface b.preface h k preface a.opened b.opened

same_first : (x y : List ℕ) (xs ys : List (List ℕ)) → x ∷ xs ≡ y ∷ ys → x ≡ y
same_first x y xs ys same = cc

pub one : (bodies : List (List ℕ)) (h k : History) → IsRecovered bodies h → IsRecovered bodies k → h ≡ k
one bodies h k a b =
    let first : a.first ≡ b.first = same_first a.first b.first (map encoding (file_records bodies)) (map encoding (file_records bodies)) (sym a.encoded ∙ b.encoded) in
    let its : IsBeginning b.first a.version a.beginning = subst (λ (x : List ℕ). IsBeginning x a.version a.beginning) first a.begins in
    let starts : a.beginning ≡ b.beginning = same_beginning b.first a.version b.version a.beginning b.beginning its b.begins in
    a.history ∙ (ap (λ (s : History). after_records s (file_records bodies)) starts ∙ sym b.history)

-- ---- a file that was written

pub records_again : (rs : List Record) → AllByRecursion RecordFits rs → records_in (map encoding rs) ≡ rs
records_again [] fits = refl
records_again (r ∷ rs) fits =
    ap (λ (read : Result (Record × List ℕ) RecordFault). cons_option (whole read) (records_in (map encoding rs))) (encoded_body r fits.0)
    ∙ ap (λ (xs : List Record). r ∷ xs) (records_again rs fits.1)

-- a first body with records behind it
behind_first : (first version : List ℕ) (beginning : History) (rs : List Record) → IsBeginning first version beginning → AllByRecursion RecordFits rs
    → AreReplayed beginning rs → IsRecovered (first ∷ map encoding rs) (after_records beginning rs)
behind_first first version beginning rs begins fits replayed =
    let again : records_in (map encoding rs) ≡ rs = records_again rs fits in
    record {
      first = first;
      version = version;
      beginning = beginning;
      begins = begins;
      encoded = ap (λ (xs : List Record). first ∷ map encoding xs) (sym again);
      history = ap (after_records beginning) (sym again);
      replayed = subst (AreReplayed beginning) (sym again) replayed;
    }

pub written : (c : Contents) (plan : PlanEntry) (rs : List Record) → IsRecoverable c plan rs
    → IsRecovered (header_bytes c ∷ map encoding rs) (after_records (start c plan) rs)
written c plan rs can =
    behind_first (header_bytes c) c.version (start c plan) rs
    (header_begins (header_bytes c) c (start c plan) refl (back c can.header) (record { plan = plan; planned = can.planned; history = refl })) can.records can.replayed

its_opening : (p : Preface) (o : Snapshot) → PrefaceFits p → IsOpeningOf p o → IsBeginning (preface_bytes p) p.version (opened_from o)
its_opening p o fits is =
    inr (record { preface = p; read = preface_back p fits; encoded = refl; begun_by = refl; opened = record { opening = o; is = is; history = refl } })

pub goes_on_written : (p : Preface) (o : Snapshot) (rs : List Record) → MayGoOn p o rs
    → IsRecovered (preface_bytes p ∷ map encoding rs) (after_records (opened_from o) rs)
goes_on_written p o rs may =
    behind_first (preface_bytes p) p.version (opened_from o) rs (its_opening p o may.preface may.opened) may.records may.replayed

-- ---- a file that goes on from a book

pub preface_fits : (p : Preface) → 1 ≤ p.events_max → p.events_max ≤ 1000000 → length p.version ≤ 255 → IsUtf8 p.version
    → length (header_of p).document < 2 ^ 32 → p.connections < 2 ^ 32 → PrefaceFits p
preface_fits p some few version text document connections =
    record { header = record { some = some; few = few; version = version; version_text = text; document = document }; connections = connections }

no_entries : (o : Snapshot) (entries : List Entry) → entries ≡ [] → of_snapshot o entries ≡ opened_from o
no_entries o entries none = ap (of_snapshot o) none

pub next_recovered : (first : List ℕ) (p : Preface) (o : Snapshot) (entries : List Entry) → first ≡ preface_bytes p → PrefaceFits p → IsEncoding o p.opening
    → MayBeOpened p → entries ≡ [] → IsRecovered (first ∷ []) (of_snapshot o entries)
next_recovered first p o entries encoded fits bytes may none =
    let same : may.opening ≡ o = one_opening may.opening o p.opening may.is.encoded bytes in
    let begins : IsBeginning (preface_bytes p) p.version (opened_from o) = its_opening p o fits (subst (IsOpeningOf p) same may.is) in
    subst (λ (x : List ℕ). IsRecovered (x ∷ []) (of_snapshot o entries)) (sym encoded)
    (subst (IsRecovered (preface_bytes p ∷ [])) (sym (no_entries o entries none)) (alone (preface_bytes p) p.version (opened_from o) begins))

later_none : (o : Option ℕ) → later_of o None ≡ o
later_none None = refl
later_none (Some n) = refl

before_in : (first : List ℕ) (p : Preface) → first ≡ preface_bytes p → PrefaceFits p → connection_before first ≡ last_before p.connections
before_in first p encoded fits =
    ap (option_and_then (λ (x : Preface). last_before x.connections)) (ap preface_in encoded ∙ preface_back p fits)

pub next_connection : (first : List ℕ) (p : Preface) (last : Option ℕ) → first ≡ preface_bytes p → PrefaceFits p → last_before p.connections ≡ last
    → last_connection_in (first ∷ []) ≡ last
next_connection first p last encoded fits is = later_none (connection_before first) ∙ (before_in first p encoded fits ∙ is)

-- ---- what doesn't stop the recovery of a file that was written

-- a record, whose encoding is a body
record IsEncodingAt (rs : List Record) (i : ℕ) (body : List ℕ) : Type 0 where
  its : Record
  found : slice_get rs i ≡ Some its
  read : record_at body ≡ Ok (its, [])

encoding_at : (rs : List Record) (i : ℕ) (body : List ℕ) → AllByRecursion RecordFits rs → slice_get (map encoding rs) i ≡ Some body → IsEncodingAt rs i body
encoding_at [] i body fits found = absurd cc
encoding_at (r ∷ rs) zero body fits found =
    let same : encoding r ≡ body = cc in
    record { its = r; found = refl; read = ap record_at (sym same) ∙ encoded_body r fits.0 }
encoding_at (r ∷ rs) (suc i) body fits found =
    let more = encoding_at rs i body fits.1 found in
    record { its = more.its; found = more.found; read = more.read }

first_records : (rs : List Record) (i : ℕ) → AllByRecursion RecordFits rs → records_in (take i (map encoding rs)) ≡ take i rs
first_records [] zero fits = refl
first_records [] (suc i) fits = refl
first_records (r ∷ rs) zero fits = refl
first_records (r ∷ rs) (suc i) fits =
    ap (λ (read : Result (Record × List ℕ) RecordFault). cons_option (whole read) (records_in (take i (map encoding rs)))) (encoded_body r fits.0)
    ∙ ap (λ (xs : List Record). r ∷ xs) (first_records rs i fits.1)

first_replayed : (h : History) (rs : List Record) (i : ℕ) → AreReplayed h rs → AreReplayed h (take i rs)
first_replayed h [] zero are = tt
first_replayed h [] (suc i) are = tt
first_replayed h (r ∷ rs) zero are = tt
first_replayed h (r ∷ rs) (suc i) are = (are.0, first_replayed (after_record h r) rs i are.1)

no_reason : (h : History) (rs : List Record) (i : ℕ) (r : Record) (fault : ReplayFault) → AreReplayed h rs → slice_get rs i ≡ Some r
    → IsReason fault (after_records h (take i rs)) r → (fault ≡ NoMemory) ⊎ (fault ≡ Invalid)
no_reason h rs i r fault are found reason =
    only_reasons i fault h (left_by fault (after_records h (take i rs)) r) rs are
    (record { stop = r; found = found; replayed = first_replayed h rs i are; stops = record { reason = reason; left = refl } })

no_rest : (x y : Record) (rest : List ℕ) → ◌≡◌ {A = Result (Record × List ℕ) RecordFault} (Ok (x, rest)) (Ok (y, [])) → rest ≡ []
no_rest x y rest both = let pair : (x, rest) ≡ (y, []) = cc both in ap (λ (p : Record × List ℕ). p.1) pair

module _ (h : History) (rs : List Record) (are : AreReplayed h rs) (fits : AllByRecursion RecordFits rs) (i : ℕ) (body : List ℕ) (found : slice_get (map encoding rs) i ≡ Some body) where
  at : IsEncodingAt rs i body
  at = encoding_at rs i body fits found

  same_record : (r : Record) → record_in body ≡ Some r → at.its ≡ r
  same_record r is = let both : whole (Ok (at.its, [])) ≡ Some r = sym (ap whole at.read) ∙ is in cc

  no_stop : (fault : ReplayFault) → IsRecordThat (IsReason fault (after_records h (records_in (take i (map encoding rs))))) body → (fault ≡ NoMemory) ⊎ (fault ≡ Invalid)
  no_stop fault that =
      no_reason h rs i at.its fault are at.found
      (subst (λ (x : Record). IsReason fault (after_records h (take i rs)) x) (sym (same_record that.its that.is))
      (subst (λ (xs : List Record). IsReason fault (after_records h xs) that.its) (first_records rs i fits) that.holds))

  no_problem : (problem : RecordProblem) → IsProblem problem (after_records h (records_in (take i (map encoding rs)))) body
      → (problem ≡ Replay NoMemory) ⊎ (problem ≡ Replay Invalid)
  no_problem (Damaged fault) is = let both : ◌≡◌ {A = Result (Record × List ℕ) RecordFault} (Err fault) (Ok (at.its, [])) = sym is ∙ at.read in absurd cc
  no_problem Trailing is =
      let both : ◌≡◌ {A = Result (Record × List ℕ) RecordFault} (Ok (is.its, is.rest)) (Ok (at.its, [])) = sym is.read ∙ at.read in
      absurd (is.some (no_rest is.its at.its is.rest both))
  no_problem (Replay NoMemory) is = inl refl
  no_problem (Replay Invalid) is = inr refl
  no_problem (Replay Refused) is = elim (no_stop Refused is) [ inl e ↦ absurd cc | inr e ↦ absurd cc ]
  no_problem (Replay Differs) is = elim (no_stop Differs is) [ inl e ↦ absurd cc | inr e ↦ absurd cc ]

module _ (c : Contents) (plan : PlanEntry) (rs : List Record) (can : IsRecoverable c plan rs) where
  the_header : (x : Contents) → file_header (header_bytes c ∷ map encoding rs) ≡ Ok x → x ≡ c
  the_header x is = let both : ◌≡◌ {A = Result Contents HeaderFault} (Ok x) (Ok c) = sym is ∙ back c can.header in cc

  the_beginning : (first version : List ℕ) (h : History) → first ≡ header_bytes c → IsBeginning first version h → h ≡ start c plan
  the_beginning first version h is (inl its) =
      let header : its.header ≡ c = the_header its.header (ap header_in (sym is) ∙ its.read) in
      same_headed its.header c h (start c plan) header its.headed (record { plan = plan; planned = can.planned; history = refl })
  the_beginning first version h is (inr its) = absurd (no_header its.preface c (sym its.encoded ∙ is))

  not_stopped : (stop : Stop) → IsStopped stop (header_bytes c ∷ map encoding rs) → (stop.problem ≡ Replay NoMemory) ⊎ (stop.problem ≡ Replay Invalid)
  not_stopped stop is =
      let first : is.first ≡ header_bytes c = cc is.found in
      let starts : is.beginning ≡ start c plan = the_beginning is.first stop.version.now is.beginning first is.begins in
      no_problem (start c plan) rs can.replayed can.records is.index is.stops.stop is.stops.found stop.problem
      (subst (λ (h : History). IsProblem stop.problem (after_records h (records_in (take is.index (map encoding rs)))) is.stops.stop) starts is.stops.is)

  pub not_refused : IsUtf8 c.document → (e : RecoveryError) → IsFailure (header_bytes c ∷ map encoding rs) e → IsExcused e
  not_refused text errors.NoMemory is = tt
  not_refused text (errors.Header fault) is =
      let both : ◌≡◌ {A = Result Contents HeaderFault} (Err is.of_header) (Ok c) = sym is.read ∙ back c can.header in absurd cc
  not_refused text errors.NoOpening is = let both : ◌≡◌ {A = Option Preface} (Some is.preface) None = sym is.read ∙ header_no_preface c in absurd cc
  not_refused text errors.NoPlan is =
      let header : is.header ≡ c = the_header is.header is.read in
      let error : IsErr (plan_in c.document) = subst (λ (x : Contents). IsErr (plan_in x.document)) header (is.no_plan (subst (λ (x : Contents). IsUtf8 x.document) (sym header) text)) in
      let none : ⊥ = cc (subst IsErr can.planned error) in absurd none
  not_refused text (errors.Stopped stop) is = not_stopped stop is

-- ---- the rows of a file

-- the rows behind the first, as the code has them
abbrev tail : List StoredRecord → List StoredRecord
tail rows = take (length rows - 1) (drop 1 rows)

tail_is : (rows : List StoredRecord) → tail rows ≡ drop 1 rows
tail_is rows = take_all (length rows - 1) (drop 1 rows) (omega (arith, length-drop 1 rows))

first_and_others : (rows : List StoredRecord) (first : StoredRecord) → 1 ≤ length rows → first ≡ get_or rows 0 first
    → bodies_of rows ≡ first.body.items ∷ bodies_of (drop 1 rows)
first_and_others [] first some is = absurd (omega (arith, some))
first_and_others (r ∷ rows) first some is = ap (λ (x : StoredRecord). x.body.items ∷ bodies_of rows) (sym is)

rows_are : (rows : List StoredRecord) (first : StoredRecord) → 1 ≤ length rows → first ≡ get_or rows 0 first
    → bodies_of rows ≡ first.body.items ∷ bodies_of (tail rows)
rows_are rows first some is =
    first_and_others rows first some is ∙ ap (λ (others : List StoredRecord). first.body.items ∷ bodies_of others) (sym (tail_is rows))

-- why a file of one row isn't recovered is why one isn't that has more behind it
failure_of : (first : List ℕ) (behind : List (List ℕ)) (e : RecoveryError) → IsFailure (first ∷ []) e → IsFailure (first ∷ behind) e
failure_of first behind errors.NoMemory is = tt
failure_of first behind (errors.Header fault) is = record { of_header = is.of_header; read = is.read; no_preface = is.no_preface; is = is.is }
failure_of first behind errors.NoOpening is = record { preface = is.preface; read = is.read; none = is.none }
failure_of first behind errors.NoPlan is = record { header = is.header; read = is.read; no_plan = is.no_plan }
failure_of first behind (errors.Stopped stop) is = absurd (cc is.stops.found)

pub first_failure : (rows : List StoredRecord) (first : StoredRecord) (e : RecoveryError) → 1 ≤ length rows → first ≡ get_or rows 0 first
    → IsFailure (first.body.items ∷ []) e → IsFailure (bodies_of rows) e
first_failure rows first e some is why =
    subst (λ (bodies : List (List ℕ)). IsFailure bodies e) (sym (rows_are rows first some is)) (failure_of first.body.items (bodies_of (tail rows)) e why)

pub rows_recovered : (rows : List StoredRecord) (first : StoredRecord) (version : List ℕ) (beginning now : History) (seen : Seen) → 1 ≤ length rows
    → first ≡ get_or rows 0 first → IsBeginning first.body.items version beginning → HasRedone beginning (bodies_of (tail rows)) now seen
    → IsRecovered (bodies_of rows) now
rows_recovered rows first version beginning now seen some is begins has =
    subst (λ (bodies : List (List ℕ)). IsRecovered bodies now) (sym (rows_are rows first some is))
    (file_recovered first.body.items (bodies_of (tail rows)) version beginning now seen begins has)

pub rows_connection : (rows : List StoredRecord) (first : StoredRecord) (beginning now : History) (seen : Seen) (last : Option ℕ) → 1 ≤ length rows
    → first ≡ get_or rows 0 first → last ≡ connection_before first.body.items → HasRedone beginning (bodies_of (tail rows)) now seen
    → later_of last seen.connection ≡ last_connection_in (bodies_of rows)
rows_connection rows first beginning now seen last some is before has =
    ap (λ (o : Option ℕ). later_of o seen.connection) before
    ∙ (ap (later_of (connection_before first.body.items)) has.connection ∙ sym (ap last_connection_in (rows_are rows first some is)))

stopped_at : (first : List ℕ) (behind : List (List ℕ)) (beginning : History) (stop : Stop) (index : ℕ) → IsBeginning first stop.version.now beginning
    → stop.index ≡ index + 1 → StopsAtBody index stop.problem beginning behind → IsStopped stop (first ∷ behind)
stopped_at first behind beginning stop index begins place stops =
    record { first = first; beginning = beginning; index = index; found = refl; begins = begins; place = place; stops = stops }

pub rows_stopped : (rows : List StoredRecord) (first : StoredRecord) (beginning : History) (stop : Stop) (index : ℕ) → 1 ≤ length rows
    → first ≡ get_or rows 0 first → IsBeginning first.body.items stop.version.now beginning → stop.index ≡ index + 1
    → StopsAtBody index stop.problem beginning (bodies_of (tail rows)) → IsStopped stop (bodies_of rows)
rows_stopped rows first beginning stop index some is begins place stops =
    subst (λ (bodies : List (List ℕ)). IsStopped stop bodies) (sym (rows_are rows first some is))
    (stopped_at first.body.items (bodies_of (tail rows)) beginning stop index begins place stops)
