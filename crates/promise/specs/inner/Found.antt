-- What a sender who was acknowledged finds after a crash.
use Rattle.std.specs.Prelude.{ℕ, List}
use Rattle.sqlite_trees.specs.Tree.{Trees}
use Rattle.sqlite_trees.specs.View.{View}
use Rattle.event_log.specs.History.{History}
use Rattle.book_lock.specs.Log.{Log, after_log}
use Rattle.book_journal.specs.inner.Crash.{BeginningOutlivesCrash}
use Rattle.promise.specs.Promise.{IsPromised}

-- A beginning of a log outlives a crash: from each file that a crash may have left, the book after it is recovered. That book
-- keeps the message of these bytes that arrived on a channel.
pub record IsFoundAfterCrash {S : Type 0} (view : S → View) (recovers : S → Trees → Type 0) (opening : History) (entries : Log)
    (channel : ℕ) (raw : List ℕ) : Type 0 where
  pub durable : Log
  pub outlives : BeginningOutlivesCrash view recovers opening entries durable
  pub promised : IsPromised opening durable (after_log opening durable) channel raw
