-- Records that are appended behind those of a file.
use Rattle.std.proofs.Common.{◌≡◌, ℕ, ◌+◌, ◌<◌, List, [], ◌∷◌, ◌++◌, map, take, length, get_or, append_assoc, refl, sym, ap, subst, ◌∙◌}
use Rattle.std.specs.List.{AllByRecursion}
use Rattle.std.proofs.lemmas.List.{map-append, take_more}
use Rattle.std.proofs.lemmas.List.Elements.{filter_map-append}
use Rattle.event_log.specs.History.{History}
use Rattle.event_store.specs.declared.columns.StoredRecord.{StoredRecord}
use Rattle.event_store.specs.Records.{Contents, Record as Row, contents, contents_of}
use Rattle.event_records.specs.declared.record.Record.{Record}
use Rattle.event_records.specs.inner.Fields.{Fits}
use Rattle.event_records.specs.inner.Encoding.{encoding}
use Rattle.book_replay.specs.Replay.{AreReplayed, IsBooked, after_record, after_records}
use Rattle.book_recovery.specs.inner.File.{IsRecovered, bodies_of, file_records, record_in, records_in}
use Rattle.book_recovery.proofs.Files.{records_again}
use Rattle.service_store.specs.inner.Starting.{AreBooked}

-- ---- records that are booked

after_both : (h : History) (rs more : List Record) → after_records h (rs ++ more) ≡ after_records (after_records h rs) more
after_both h [] more = refl
after_both h (r ∷ rs) more = after_both (after_record h r) rs more

replayed_both : (h : History) (rs more : List Record) → AreReplayed h rs → AreReplayed (after_records h rs) more → AreReplayed h (rs ++ more)
replayed_both h [] more are behind = behind
replayed_both h (r ∷ rs) more are behind = (are.0, replayed_both (after_record h r) rs more are.1 behind)

pub booked_none : (h k : History) → k ≡ h → AreBooked h k []
booked_none h k same = record { history = same; replayed = tt }

pub booked_one : (h k : History) (r : Record) → IsBooked h k r → AreBooked h k (r ∷ [])
booked_one h k r is = record { history = is.history; replayed = (is.replayed, tt) }

pub booked_both : (h m k : History) (rs more : List Record) → AreBooked h m rs → AreBooked m k more → AreBooked h k (rs ++ more)
booked_both h m k rs more one two = record {
  history = two.history ∙ (ap (λ (x : History). after_records x more) one.history ∙ sym (after_both h rs more));
  replayed = replayed_both h rs more one.replayed (subst (λ (x : History). AreReplayed x more) one.history two.replayed);
}

-- ---- a file with more bodies behind its own

more_records : (bodies more : List (List ℕ)) (first : List ℕ) (rest : List (List ℕ)) → bodies ≡ first ∷ rest
    → file_records (bodies ++ more) ≡ file_records bodies ++ records_in more
more_records bodies more first rest is =
    ap (λ (l : List (List ℕ)). file_records (l ++ more)) is
    ∙ (filter_map-append record_in rest more ∙ sym (ap (λ (l : List (List ℕ)). file_records l ++ records_in more) is))

pub recovered_behind : (bodies : List (List ℕ)) (h k : History) (rs : List Record) → IsRecovered bodies h → AreBooked h k rs → AllByRecursion Fits rs
    → IsRecovered (bodies ++ map encoding rs) k
recovered_behind bodies h k rs r booked fits =
    let from = r.beginning in
    let old = file_records bodies in
    let records : file_records (bodies ++ map encoding rs) ≡ old ++ rs =
    more_records bodies (map encoding rs) r.first (map encoding old) r.encoded ∙ ap (λ l. old ++ l) (records_again rs fits) in
    let all : AreBooked from k (old ++ rs) =
    booked_both from h k old rs (record { history = r.history; replayed = r.replayed }) booked in
    record {
      first = r.first;
      version = r.version;
      beginning = r.beginning;
      begins = r.begins;
      encoded =
          ap (λ l. l ++ map encoding rs) r.encoded
          ∙ (ap (λ l. r.first ∷ l) (sym (map-append encoding old rs))
          ∙ ap (λ l. r.first ∷ map encoding l) (sym records));
      history = all.history ∙ ap (after_records from) (sym records);
      replayed = subst (AreReplayed from) (sym records) all.replayed;
    }

-- ---- rows that were read

bodies_of_contents : (rows : List StoredRecord) → map (λ (c : Contents). c.body) (map contents_of rows) ≡ bodies_of rows
bodies_of_contents [] = refl
bodies_of_contents (row ∷ rows) = ap (λ (l : List (List ℕ)). row.body.items ∷ l) (bodies_of_contents rows)

bodies_of_stored : (rows : List Row) → map (λ (c : Contents). c.body) (map contents rows) ≡ map (λ (row : Row). row.body) rows
bodies_of_stored [] = refl
bodies_of_stored (row ∷ rows) = ap (λ (l : List (List ℕ)). row.body ∷ l) (bodies_of_stored rows)

pub bodies_read : (rows : List StoredRecord) (stored : List Row) → map contents_of rows ≡ map contents stored → map (λ (row : Row). row.body) stored ≡ bodies_of rows
bodies_read rows stored same =
    sym (bodies_of_stored stored) ∙ (ap (map (λ (c : Contents). c.body)) (sym same) ∙ bodies_of_contents rows)

-- ---- records that are appended one by one

take_next : (rs : List Record) (i : ℕ) (r : Record) → i < length rs → r ≡ get_or rs i r → take (i + 1) rs ≡ take i rs ++ r ∷ []
take_next rs i r lt is = take_more rs i r lt ∙ ap (λ (x : Record). take i rs ++ x ∷ []) (sym is)

fits_both : (rs : List Record) (r : Record) → AllByRecursion Fits rs → Fits r → AllByRecursion Fits (rs ++ r ∷ [])
fits_both [] r fits fit = (fit, tt)
fits_both (x ∷ rs) r fits fit = (fits.0, fits_both rs r fits.1 fit)

pub fits_next : (rs : List Record) (i : ℕ) (r : Record) → i < length rs → r ≡ get_or rs i r → AllByRecursion Fits (take i rs) → Fits r
    → AllByRecursion Fits (take (i + 1) rs)
fits_next rs i r lt is fits fit = subst (AllByRecursion Fits) (sym (take_next rs i r lt is)) (fits_both (take i rs) r fits fit)

pub added_next : (before mid all : List (List ℕ)) (rs : List Record) (i : ℕ) (r : Record) → i < length rs → r ≡ get_or rs i r
    → mid ≡ before ++ map encoding (take i rs) → all ≡ mid ++ encoding r ∷ [] → all ≡ before ++ map encoding (take (i + 1) rs)
added_next before mid all rs i r lt is one two =
    two
    ∙ (ap (λ l. l ++ encoding r ∷ []) one
    ∙ (append_assoc before (map encoding (take i rs)) (encoding r ∷ [])
    ∙ ap (λ l. before ++ l) (sym (map-append encoding (take i rs) (r ∷ [])) ∙ ap (map encoding) (sym (take_next rs i r lt is)))))
