-- What is held is recovered.
use Rattle.std.proofs.Common.{◌≡◌, ℕ, List, [], ◌∷◌, ◌++◌, map, refl, sym, ap, subst, ◌∙◌}
use Rattle.std.specs.List.{AllByRecursion}
use Rattle.std.proofs.lemmas.List.{map-append}
use Rattle.std.proofs.lemmas.List.Elements.{filter_map-append}
use Rattle.event_log.specs.History.{History}
use Rattle.event_store.specs.Records.{Record as Row}
use Rattle.event_records.specs.declared.record.Record.{Record}
use Rattle.event_records.specs.inner.Fields.{Fits}
use Rattle.event_records.specs.inner.Encoding.{encoding}
use Rattle.book_lock.specs.declared.log_entry.LogEntry.{LogEntry}
use Rattle.book_lock.specs.Durable.{changes_of}
use Rattle.book_lock.specs.Log.{IsLegalLog, Log, after_log}
use Rattle.book_replay.specs.Replay.{AreReplayed, after_record, after_records}
use Rattle.book_recovery.specs.inner.File.{IsRecovered, file_records, record_in, records_in}
use Rattle.book_recovery.proofs.Files.{records_again}
use Rattle.restart_laws.specs.Restart.{AreRecordsOf}
use Rattle.restart_laws.proofs.Redoing.{all_answered, all_redone}
use Rattle.book_journal.specs.inner.Held.{AreRowsOf, HasRows, bodies_of}

-- the records of rows
record Records (rows : List Row) (xs : List LogEntry) : Type 0 where
  its : List Record
  are : AreRecordsOf its xs
  fit : AllByRecursion Fits its
  encoded : bodies_of rows ≡ map encoding its

records_of : (rows : List Row) (xs : List LogEntry) → AreRowsOf rows xs → Records rows xs
records_of [] [] are = record { its = []; are = tt; fit = tt; encoded = refl }
records_of [] (x ∷ xs) are = absurd are
records_of (row ∷ rows) [] are = absurd are
records_of (row ∷ rows) (x ∷ xs) are =
    let more = records_of rows xs are.1 in
    let body = are.0.body in
    record {
      its = body.its ∷ more.its;
      are = (body.is, more.are);
      fit = (body.fits, more.fit);
      encoded = ap (λ b. b ∷ bodies_of rows) body.encoded ∙ ap (λ l. encoding body.its ∷ l) more.encoded;
    }

after_both : (h : History) (rs more : List Record) → after_records h (rs ++ more) ≡ after_records (after_records h rs) more
after_both h [] more = refl
after_both h (r ∷ rs) more = after_both (after_record h r) rs more

replayed_both : (h : History) (rs more : List Record) → AreReplayed h rs → AreReplayed (after_records h rs) more → AreReplayed h (rs ++ more)
replayed_both h [] more are behind = behind
replayed_both h (r ∷ rs) more are behind = (are.0, replayed_both (after_record h r) rs more are.1 behind)

-- a file with more bodies behind its own
more_records : (bodies more : List (List ℕ)) (first : List ℕ) (rest : List (List ℕ)) → bodies ≡ first ∷ rest
    → file_records (bodies ++ more) ≡ file_records bodies ++ records_in more
more_records bodies more first rest is =
    ap (λ (l : List (List ℕ)). file_records (l ++ more)) is
    ∙ (filter_map-append record_in rest more ∙ sym (ap (λ (l : List (List ℕ)). file_records l ++ records_in more) is))

pub recovered : (before all : List Row) (opening : History) (entries : Log) → HasRows before all (changes_of entries) → IsLegalLog opening entries
    → IsRecovered (bodies_of before) opening → IsRecovered (bodies_of all) (after_log opening entries)
recovered before all opening entries has legal r =
    let found = records_of has.rows (changes_of entries) has.are in
    let rs = found.its in
    let old = bodies_of before in
    let from = r.beginning in
    let bodies : bodies_of all ≡ old ++ map encoding rs =
    ap bodies_of has.behind ∙ (map-append (λ (row : Row). row.body) before has.rows ∙ ap (λ l. old ++ l) found.encoded) in
    let again : records_in (map encoding rs) ≡ rs = records_again rs found.fit in
    let records : file_records (old ++ map encoding rs) ≡ file_records old ++ rs =
    more_records old (map encoding rs) r.first (map encoding (file_records old)) r.encoded ∙ ap (λ l. file_records old ++ l) again in
    let replays : AreReplayed (after_records from (file_records old)) rs =
    subst (λ (h : History). AreReplayed h rs) r.history (all_answered opening entries rs legal found.are) in
    subst (λ (l : List (List ℕ)). IsRecovered l (after_log opening entries)) (sym bodies) (record {
      first = r.first;
      version = r.version;
      beginning = r.beginning;
      begins = r.begins;
      encoded =
          ap (λ l. l ++ map encoding rs) r.encoded
          ∙ (ap (λ l. r.first ∷ l) (sym (map-append encoding (file_records old) rs))
          ∙ ap (λ l. r.first ∷ map encoding l) (sym records));
      history =
          sym (all_redone opening entries rs legal found.are)
          ∙ (ap (λ (h : History). after_records h rs) r.history ∙ (sym (after_both from (file_records old) rs) ∙ ap (after_records from) (sym records)));
      replayed = subst (AreReplayed from) (sym records) (replayed_both from (file_records old) rs r.replayed replays);
    })
