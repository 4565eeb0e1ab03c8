-- What a beginning of a run that outlives a crash has is found after it.
use Rattle.std.proofs.Common.{◌≤◌, inl, inr, ℕ, List, [], ◌∷◌, ◌++◌, length, refl, sym, ◌∙◌, arith}
use Rattle.std.proofs.lemmas.List.{append-nil}
use Rattle.sqlite_trees.specs.Tree.{Trees}
use Rattle.sqlite_trees.specs.View.{View}
use Rattle.event_log.specs.declared.entry.Entry.TheVariants as entry
use Rattle.event_log.specs.declared.entry.Told.{Told}
use Rattle.event_log.specs.History.{History, next_place}
use Rattle.event_store.specs.Records.{AreDurable, Record as Row, records_in}
use Rattle.book_lock.specs.declared.log_entry.LogEntry.{LogEntry}
use Rattle.book_lock.specs.declared.log_entry.LogEntry.TheVariants as log
use Rattle.book_lock.specs.Durable.{AreCommitted, IsDurableBelow}
use Rattle.book_lock.specs.Log.{IsLegalLog, Log, after_log}
use Rattle.book_lock.specs.inner.Sound.{IsSoundBook}
use Rattle.book_recovery.specs.inner.File.{IsRecovered}
use Rattle.book_journal.specs.inner.Crash.{BeginningOutlivesCrash, OutlivesCrash, WasCommitted}
use Rattle.book_journal.specs.inner.Held.{bodies_of}
use Rattle.book_journal.proofs.Crashing.{published}
use Rattle.book_journal.proofs.Recovered.{recovered}
use Rattle.conn_worker.specs.Arriving.{IsDurablyKnown}
use Rattle.delivery_worker.proofs.Listed.{prefix_last}
use Rattle.promise.specs.Promise.{IsSuccess}
use Rattle.promise.specs.inner.Found.{IsFoundAfterCrash}
use Rattle.promise.proofs.Answered.{legal-prefix, promised, promised-unbooked}
use Rattle.promise.proofs.Known.{known-within}

pub found : {S : Type 0} (view : S → View) (recovers : S → Trees → Type 0) (opening : History) (entries seen : Log) (number conn channel : ℕ) (raw : List ℕ) (answer : Told)
    → IsSoundBook opening → IsLegalLog opening entries → IsSuccess answer
    → OutlivesCrash view recovers opening entries seen (number, log.Booked (entry.Arrival conn channel raw answer))
    → IsFoundAfterCrash view recovers opening entries channel raw
found view recovers opening entries seen number conn channel raw answer sound legal success o =
    let own : ℕ × LogEntry = (number, log.Booked (entry.Arrival conn channel raw answer)) in record {
      durable = o.durable;
      outlives = o.outlives;
      promised = promised opening sound o.durable (legal-prefix opening o.durable entries o.outlives.begins legal) channel raw answer success (record {
        index = length seen;
        seat = number;
        conn = conn;
        is = (prefix_last seen (seen ++ own ∷ []) o.durable own refl o.has).0;
      });
    }

-- ---- repeats that are not booked

module _ {S : Type 0} (view : S → View) (recovers : S → Trees → Type 0) (before : List Row) (opening : History) (entries : Log) (store : S)
    (given : IsRecovered (bodies_of before) opening) (held : AreDurable (view store) (recovers store) before) (sound : IsSoundBook opening)
    (legal : IsLegalLog opening entries) (committed : AreCommitted opening (WasCommitted view recovers before) entries) where
  -- the opening itself outlives a crash
  opening-outlives : BeginningOutlivesCrash view recovers opening entries []
  opening-outlives = record {
    begins = (entries, refl);
    store = store;
    recovered = λ clean db left.
        recovered before (records_in db) opening [] (record { rows = []; behind = held clean db left ∙ sym (append-nil before); are = tt })
        (legal-prefix opening [] entries (entries, refl) legal) given;
  }

  -- what a beginning that outlives a crash knows is found after it
  found-within : (channel : ℕ) (raw : List ℕ) (durable : Log) → BeginningOutlivesCrash view recovers opening entries durable
      → (k : IsDurablyKnown opening entries channel raw) → k.below ≤ next_place (after_log opening durable)
      → IsFoundAfterCrash view recovers opening entries channel raw
  found-within channel raw durable outlives k covers = record {
    durable = durable;
    outlives = outlives;
    promised = promised-unbooked opening sound durable (legal-prefix opening durable entries outlives.begins legal) channel raw
        (known-within opening entries durable channel raw sound legal outlives.begins k.known (omega (arith, k.behind, covers)));
  }

  pub found-repeat : (channel : ℕ) (raw : List ℕ) → IsDurablyKnown opening entries channel raw → IsFoundAfterCrash view recovers opening entries channel raw
  found-repeat channel raw k = by k.durable
    where
      by : IsDurableBelow opening entries k.below → IsFoundAfterCrash view recovers opening entries channel raw
      by (inl early) = found-within channel raw [] opening-outlives k early
      by (inr has) =
          let all = published view recovers before opening given entries k.below legal committed has in
          found-within channel raw all.durable all.outlives k (omega (arith, all.next))
