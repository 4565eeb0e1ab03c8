-- Bodies whose records are booked again, one behind the other.
use Rattle.std.proofs.Common.{◌≡◌, ℕ, zero, suc, ◌+◌, ◌≤◌, ◌<◌, List, [], ◌∷◌, ◌++◌, map, take, length, get_or, add-one, arith, Option, None, Some, Result, Ok, Err, refl, sym, ap, subst, ◌∙◌}
use Rattle.std.specs.Prelude.{slice_get}
use Rattle.std.specs.List.{cons_option, filter_map}
use Rattle.std.proofs.lemmas.List.{append-nil, map-append, take_all}
use Rattle.std.proofs.lemmas.List.Elements.{filter_map-append}
use Rattle.event_log.specs.History.{History}
use Rattle.event_store.specs.declared.columns.StoredRecord.{StoredRecord}
use Rattle.event_records.specs.declared.record.Record.{Record}
use Rattle.event_records.specs.inner.Encoding.{encoding}
use Rattle.book_replay.specs.declared.fault.ReplayFault.{ReplayFault}
use Rattle.book_replay.specs.declared.fault.ReplayFault.TheVariants.{NoMemory, Invalid, Refused, Differs}
use Rattle.book_replay.specs.Replay.{AreReplayed, IsBooked, IsReplayed, IsStopped, StopsAt, after_record, after_records}
use Rattle.book_replay.proofs.Runs.{after_one_more, answered_one_more, found_at as found_first}
use Rattle.book_recovery.specs.declared.fault.RecordProblem.{RecordProblem}
use Rattle.book_recovery.specs.declared.fault.RecordProblem.TheVariants.{Damaged, Trailing, Replay}
use Rattle.book_recovery.specs.declared.seen.Seen.{Seen}
use Rattle.book_recovery.specs.Seen.{connection_of, last_connection, last_moment, moment_of}
use Rattle.book_recovery.specs.inner.File.{IsProblem, IsRecordThat, StopsAtBody, bodies_of, record_in, records_in}
use Rattle.book_recovery.specs.inner.Redone.{HasRedone, IsRedone, more_connection, more_moment}
use Rattle.book_recovery.proofs.Noting.{connection_more, moment_more}

-- ---- one record by itself

pub one_booked : (old new : History) (r : Record) → new ≡ after_records old (r ∷ []) → AreReplayed old (r ∷ []) → IsBooked old new r
one_booked old new r history replayed = record { history = history; replayed = replayed.0 }

pub one_stops : (index : ℕ) (fault : ReplayFault) (old new : History) (r : Record) → IsStopped index fault old new (r ∷ []) → StopsAt fault old new r
one_stops zero fault old new r s = let same : s.stop ≡ r = cc s.found in subst (StopsAt fault old new) same s.stops
one_stops (suc i) fault old new r s = absurd (cc s.found)

-- ---- the record of a body

pub stop_problem : (fault : ReplayFault) (old new : History) (r : Record) (body : List ℕ) → record_in body ≡ Some r → StopsAt fault old new r
    → IsProblem (Replay fault) old body
stop_problem NoMemory old new r body read stops = tt
stop_problem Invalid old new r body read stops = record { its = r; is = read; holds = stops.reason }
stop_problem Refused old new r body read stops = record { its = r; is = read; holds = stops.reason }
stop_problem Differs old new r body read stops = record { its = r; is = read; holds = stops.reason }

-- ---- bodies by their number

first_are : {A : Type 0} (xs : List A) (i : ℕ) (x : A) → slice_get xs i ≡ Some x → take (suc i) xs ≡ take i xs ++ x ∷ []
first_are [] i x found = absurd cc
first_are (y ∷ ys) zero x found = let same : y ≡ x = cc in ap (λ z. z ∷ []) same
first_are (y ∷ ys) (suc i) x found = ap (λ zs. y ∷ zs) (first_are ys i x found)

pub body_at : (rows : List StoredRecord) (i : ℕ) (row : StoredRecord) → slice_get rows i ≡ Some row → slice_get (bodies_of rows) i ≡ Some row.body.items
body_at [] i row found = absurd cc
body_at (r ∷ rows) zero row found = let same : r ≡ row = cc in ap (λ (x : StoredRecord). Some x.body.items) same
body_at (r ∷ rows) (suc i) row found = body_at rows i row found

records_more : (bodies : List (List ℕ)) (body : List ℕ) (r : Record) → record_in body ≡ Some r → records_in (bodies ++ body ∷ []) ≡ records_in bodies ++ r ∷ []
records_more bodies body r read =
    filter_map-append record_in bodies (body ∷ []) ∙ ap (λ (o : Option Record). records_in bodies ++ cons_option o []) read

encoded_more : (bodies : List (List ℕ)) (body : List ℕ) (r : Record) → bodies ≡ map encoding (records_in bodies) → body ≡ encoding r → record_in body ≡ Some r
    → bodies ++ body ∷ [] ≡ map encoding (records_in (bodies ++ body ∷ []))
encoded_more bodies body r all one read =
    ap (λ (xs : List (List ℕ)). xs ++ body ∷ []) all
    ∙ (ap (λ (x : List ℕ). map encoding (records_in bodies) ++ x ∷ []) one
    ∙ (sym (map-append encoding (records_in bodies) (r ∷ []))
    ∙ ap (map encoding) (sym (records_more bodies body r read))))

-- one more body
one_more : (start : History) (bodies : List (List ℕ)) (now new : History) (seen more : Seen) (body : List ℕ) → HasRedone start bodies now seen
    → IsRedone now new seen more body → HasRedone start (bodies ++ body ∷ []) new more
one_more start bodies now new seen more body has redone =
    let rs : List Record = records_in bodies in
    let r : Record = redone.its in
    let same : records_in (bodies ++ body ∷ []) ≡ rs ++ r ∷ [] = records_more bodies body r redone.read in
    record {
      encoded = encoded_more bodies body r has.encoded redone.encoded redone.read;
      history =
          redone.booked.history
          ∙ (ap (λ (h : History). after_record h r) has.history
          ∙ (sym (after_one_more start rs r) ∙ ap (after_records start) (sym same)));
      replayed =
          subst (AreReplayed start) (sym same)
          (answered_one_more start rs r has.replayed (subst (λ (h : History). IsReplayed h r) has.history redone.booked.replayed));
      connection =
          redone.connection
          ∙ (ap (λ (o : Option ℕ). more_connection o (connection_of r)) has.connection
          ∙ (sym (connection_more rs r) ∙ ap last_connection (sym same)));
      moment =
          redone.moment
          ∙ (ap (λ (n : ℕ). more_moment n (moment_of r)) has.moment
          ∙ (sym (moment_more rs r) ∙ ap last_moment (sym same)));
    }

pub goes_on : (start : History) (bodies : List (List ℕ)) (i : ℕ) (now new : History) (seen more : Seen) (body : List ℕ) → HasRedone start (take i bodies) now seen
    → slice_get bodies i ≡ Some body → IsRedone now new seen more body → HasRedone start (take (i + 1) bodies) new more
goes_on start bodies i now new seen more body has found redone =
    subst (λ (k : ℕ). HasRedone start (take k bodies) new more) (sym (add-one i))
    (subst (λ (bs : List (List ℕ)). HasRedone start bs new more) (sym (first_are bodies i body found)) (one_more start (take i bodies) now new seen more body has redone))

pub stops_at : (start : History) (bodies : List (List ℕ)) (i : ℕ) (now : History) (seen : Seen) (body : List ℕ) (problem : RecordProblem)
    → HasRedone start (take i bodies) now seen → slice_get bodies i ≡ Some body → IsProblem problem now body → StopsAtBody i problem start bodies
stops_at start bodies i now seen body problem has found is =
    record { stop = body; found = found; encoded = has.encoded; replayed = has.replayed; is = subst (λ (h : History). IsProblem problem h body) has.history is }

pub all_done : (start : History) (bodies : List (List ℕ)) (i : ℕ) (now : History) (seen : Seen) → HasRedone start (take i bodies) now seen → length bodies ≤ i
    → HasRedone start bodies now seen
all_done start bodies i now seen has le = subst (λ (bs : List (List ℕ)). HasRedone start bs now seen) (take_all i bodies le) has

pub found_at : {A : Type 0} (xs : List A) (i : ℕ) (x : A) → i < length xs → x ≡ get_or xs i x → slice_get xs i ≡ Some x
found_at xs i x less is = found_first xs i x less is

-- ---- a filter of items, one by one

more_items : {A B : Type 0} (p : A → Option B) (xs : List A) (i : ℕ) (x : A) → slice_get xs i ≡ Some x
    → filter_map p (take i xs) ++ cons_option (p x) [] ≡ filter_map p (take (i + 1) xs)
more_items p xs i x found =
    sym (ap (λ (k : ℕ). filter_map p (take k xs)) (add-one i) ∙ (ap (filter_map p) (first_are xs i x found) ∙ filter_map-append p (take i xs) (x ∷ [])))

pub one_more_item : {A B : Type 0} (p : A → Option B) (xs : List A) (i : ℕ) (x : A) (y : B) → slice_get xs i ≡ Some x → p x ≡ Some y
    → filter_map p (take i xs) ++ y ∷ [] ≡ filter_map p (take (i + 1) xs)
one_more_item p xs i x y found is = ap (λ o. filter_map p (take i xs) ++ cons_option o []) (sym is) ∙ more_items p xs i x found

pub none_more : {A B : Type 0} (p : A → Option B) (xs : List A) (i : ℕ) (x : A) → slice_get xs i ≡ Some x → p x ≡ None
    → filter_map p (take i xs) ≡ filter_map p (take (i + 1) xs)
none_more p xs i x found is =
    sym (append-nil (filter_map p (take i xs))) ∙ (ap (λ o. filter_map p (take i xs) ++ cons_option o []) (sym is) ∙ more_items p xs i x found)
