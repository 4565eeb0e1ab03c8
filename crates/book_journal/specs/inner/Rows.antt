-- Rows before they are written.
use Rattle.std.specs.Prelude.{◌≡◌, IsTrue, List, [], ◌∷◌}
use Rattle.sqlite_trees.specs.View.{View}
use Rattle.event_store.specs.Records.{Record as Stored}
use Rattle.book_lock.specs.declared.log_entry.LogEntry.{LogEntry}
use Rattle.book_journal.specs.inner.Held.{HasRows, IsBodyOf, kind_of, number_of, outcome_of}
use Rattle.book_journal.specs.declared.row.Row.{Row}

-- a row is ready for a change: its body is, and its columns will say what the change is
pub record IsReady (row : Row) (x : LogEntry) : Type 0 where
  pub body : IsBodyOf row.body.items x
  pub kind : row.kind.now ≡ kind_of x
  pub number : row.number ≡ number_of x
  pub outcome : row.outcome.now ≡ outcome_of x

-- rows are ready for changes, one for one
abbrev pub AreReady : List Row → List LogEntry → Type 0
AreReady [] [] = Unit {0}
AreReady [] (x ∷ xs) = ⊥
AreReady (row ∷ rows) [] = ⊥
AreReady (row ∷ rows) (x ∷ xs) = IsReady row x × AreReady rows xs

-- behind what was stored, all are the rows that were ready, whatever the changes are that they were ready for
pub record Adds (before : List Stored) (rows : List Row) (all : List Stored) : Type 0 where
  pub each : (xs : List LogEntry) → AreReady rows xs → HasRows before all xs

-- what was written since the last commit is dropped, of a store that was open
pub record IsRolledBack (old new : View) : Type 0 where
  pub was_open : IsTrue old.is_open
  pub trees : new.trees ≡ old.committed
  pub committed : new.committed ≡ old.committed
