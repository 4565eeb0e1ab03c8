-- What a crash leaves of a shared book: the book that is recovered from the file after it.
use Rattle.std.specs.Prelude.{◌≡◌, ℕ, List, [], ◌∷◌, ◌++◌}
use mathlib.Core.List.{IsPrefix}
use Rattle.sqlite_trees.specs.Tree.{Trees}
use Rattle.sqlite_trees.specs.View.{View, IsClean}
use Rattle.event_log.specs.History.{History, next_place}
use Rattle.event_store.specs.Records.{Record as Row, records_in}
use Rattle.book_lock.specs.declared.log_entry.LogEntry.{LogEntry}
use Rattle.book_lock.specs.Log.{Log, after_log}
use Rattle.book_recovery.specs.inner.File.{IsRecovered}
use Rattle.book_journal.specs.inner.Held.{AreHeld, bodies_of}

-- some store held just these changes, behind the rows that were there before
abbrev pub WasCommitted : {S : Type 0} → (S → View) → (S → Trees → Type 0) → List Row → List LogEntry → Type 0
WasCommitted {S} view recovers before changes = (store : S) × AreHeld (view store) (recovers store) before changes

-- Some store held a beginning of a log. From each file that a crash may have left then, the book after that beginning is
-- recovered, if the store was clean.
pub record BeginningOutlivesCrash {S : Type 0} (view : S → View) (recovers : S → Trees → Type 0) (opening : History)
    (entries durable : Log) : Type 0 where
  pub begins : IsPrefix durable entries
  pub store : S
  pub recovered : IsClean (view store) → (db : Trees) → recovers store db →
      IsRecovered (bodies_of (records_in db)) (after_log opening durable)

-- an entry that a seat added outlives a crash, with all that the seat had seen before it
pub record OutlivesCrash {S : Type 0} (view : S → View) (recovers : S → Trees → Type 0) (opening : History)
    (entries seen : Log) (own : ℕ × LogEntry) : Type 0 where
  pub durable : Log
  pub outlives : BeginningOutlivesCrash view recovers opening entries durable
  pub has : IsPrefix (seen ++ own ∷ []) durable

-- all entries below an index outlive a crash: they are in the book that is recovered, whose next index it is
pub record AllBelowOutliveCrash {S : Type 0} (view : S → View) (recovers : S → Trees → Type 0) (opening : History)
    (entries : Log) (below : ℕ) : Type 0 where
  pub durable : Log
  pub outlives : BeginningOutlivesCrash view recovers opening entries durable
  pub next : below ≡ next_place (after_log opening durable)
