-- What holds of a journal between its steps.
use Rattle.std.specs.Prelude.{◌≡◌, ℕ, Bool, false, true, IsTrue, List, [], ◌++◌, map, refl}
use Rattle.std.specs.Coded.{Coded, code_by, coded×, coded_ℕ, coded_bool}
use Rattle.sqlite_trees.specs.Tree.{Trees}
use Rattle.sqlite_trees.specs.View.{View, IsClean}
use Rattle.event_log.specs.History.{History}
use Rattle.ghost_log.specs.Seats.{entries_of}
use Rattle.event_store.specs.Records.{Record as Row, records_in}
use Rattle.book_lock.specs.declared.copied.Copied.{Copied}
use Rattle.book_lock.specs.declared.log_entry.LogEntry.{LogEntry}
use Rattle.book_lock.specs.Durable.{changes_of}
use Rattle.book_lock.specs.Journal.{change_copied}
use Rattle.book_lock.specs.Log.{IsLegalLog, Log, SeatView}
use Rattle.book_lock.specs.Shares.{DeskView}
use Rattle.book_lock.specs.inner.Coding.{desk_code}
use Rattle.book_journal.specs.inner.Held.{AreHeld, HasRows}
use Rattle.book_journal.specs.declared.fault.JournalError.{JournalError}
use Rattle.book_journal.specs.declared.fault.JournalError.TheVariants.{NoMemory, NoRoom, Pruned, Store}

-- a journal: its seat at the book, how many changes it has copied that are not written, whether its store has failed, and
-- the store
pub record JournalView (S : Type 0) : Type 0 where
  pub desk : DeskView
  pub unwritten : ℕ
  pub has_failed : Bool
  pub store : S

abbrev pub journal_code : {S : Type 0} → Coded S → Coded (JournalView S)
journal_code {S} store =
    code_by (DeskView × (ℕ × (Bool × S))) (coded× desk_code (coded× coded_ℕ (coded× coded_bool store)))
    (λ j. (j.desk, (j.unwritten, (j.has_failed, j.store))))
    (λ p. record { desk = p.0; unwritten = p.1.0; has_failed = p.1.1.0; store = p.1.1.1 }) (λ _. refl)

-- A store may be used after a step, unless the step found no room: it may then only be used while it is open.
abbrev pub MayBeUsed : Bool → View → Type 0
MayBeUsed true v = IsTrue v.is_open
MayBeUsed false v = Unit {0}

-- The log that the journal has seen is legal. Its changes are those that are held, and then those that are not written.
-- While the store has not failed and may be used, its transaction sees just the rows of those that are held, and a crash
-- leaves these. The last step found no room only where some changes are not written.
pub record IsInOrder (opening : History) (before : List Row) (v : View) (recovers : Trees → Type 0) (seen : Log)
    (unwritten : List Copied) (failed no_room : Bool) : Type 0 where
  pub held : List LogEntry
  pub split : changes_of seen ≡ held ++ map change_copied unwritten
  pub legal : IsLegalLog opening seen
  pub sees : failed ≡ false → MayBeUsed no_room v → IsClean v → HasRows before (records_in v.trees) held
  pub leaves : failed ≡ false → MayBeUsed no_room v → AreHeld v recovers before held
  pub whole : failed ≡ false → unwritten ≡ [] → no_room ≡ false

-- A reader has seen more of the log, none of it its own, and the changes in that were copied behind those that it had copied.
pub record HasCopied (opening : History) (old new : SeatView) (before after : List Copied) : Type 0 where
  pub number : new.number ≡ old.number
  pub others : Log
  pub none_own : entries_of old.number others ≡ []
  pub seen : new.seen ≡ old.seen ++ others
  pub legal : IsLegalLog opening old.seen → IsLegalLog opening new.seen
  pub more : List Copied
  pub copied : after ≡ before ++ more
  pub changes : changes_of new.seen ≡ changes_of old.seen ++ map change_copied more

-- whether a step failed for its store
abbrev pub is_store : JournalError → Bool
is_store NoMemory = false
is_store NoRoom = false
is_store Pruned = false
is_store (Store error) = true
