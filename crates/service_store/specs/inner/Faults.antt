-- Why a store isn't started, and the exit status that goes with it.
use Rattle.std.specs.Prelude.{◌≡◌, ℕ, List}
use Rattle.std.specs.Prelude.{string_bytes}
use Rattle.book_recovery.specs.declared.fault.RecordProblem.{RecordProblem}
use Rattle.book_recovery.specs.declared.fault.Stop.{Stop}
use Rattle.book_recovery.specs.inner.File.{HasNoHeader, HasNoOpening, HasNoPlan, IsStopped}
use Rattle.service_store.specs.declared.fault.BookFault.{BookFault}
use Rattle.service_store.specs.declared.fault.BookFault.TheVariants as book
use Rattle.service_store.specs.declared.fault.HoldsFault.{HoldsFault}
use Rattle.service_store.specs.declared.fault.HoldsFault.TheVariants as holds
use Rattle.service_store.specs.declared.fault.NextError.{NextError}
use Rattle.service_store.specs.declared.fault.NextError.TheVariants as next
use Rattle.service_store.specs.declared.fault.NumbersFault.{NumbersFault}
use Rattle.service_store.specs.declared.fault.NumbersFault.TheVariants as numbers
use Rattle.service_store.specs.declared.fault.StartFault.{StartFault}
use Rattle.service_store.specs.declared.fault.StartFault.TheVariants as start

-- a recovery stops at a record with this index, for this reason, in a file that this version began
pub record StopsWith (index : ℕ) (problem : RecordProblem) (version : List ℕ) (bodies : List (List ℕ)) : Type 0 where
  pub stop : Stop
  pub stops : IsStopped stop bodies
  pub at : stop.index ≡ index
  pub why : stop.problem ≡ problem
  pub begun_by : stop.version.now ≡ version

-- why no book is started from the bodies of a file; memory can be refused, and a write can fail, at any time
abbrev pub IsBookFailure : List (List ℕ) → BookFault → Type 0
IsBookFailure bodies book.NoMemory = Unit {0}
IsBookFailure bodies (book.Header fault) = HasNoHeader fault bodies
IsBookFailure bodies book.NoOpening = HasNoOpening bodies
IsBookFailure bodies book.NoPlan = HasNoPlan bodies
IsBookFailure bodies (book.Stopped index problem version) = StopsWith index problem (string_bytes version) bodies
IsBookFailure bodies (book.OtherBound bound other) = ⊥
IsBookFailure bodies (book.MoreOwed asked enough) = ⊥
IsBookFailure bodies (book.Write error) = Unit {0}

-- why records aren't written
abbrev pub IsWriteFailure : BookFault → Type 0
IsWriteFailure book.NoMemory = Unit {0}
IsWriteFailure (book.Header fault) = ⊥
IsWriteFailure book.NoOpening = ⊥
IsWriteFailure book.NoPlan = ⊥
IsWriteFailure (book.Stopped index problem version) = ⊥
IsWriteFailure (book.OtherBound bound other) = ⊥
IsWriteFailure (book.MoreOwed asked enough) = ⊥
IsWriteFailure (book.Write error) = Unit {0}

-- 6 where a write failed, 7 where the file is not what it is to be, else 3
abbrev pub book_status : BookFault → ℕ
book_status book.NoMemory = 3
book_status (book.Header fault) = 7
book_status book.NoOpening = 7
book_status book.NoPlan = 7
book_status (book.Stopped index problem version) = 7
book_status (book.OtherBound bound other) = 7
book_status (book.MoreOwed asked enough) = 7
book_status (book.Write error) = 6

abbrev pub numbers_status : NumbersFault → ℕ
numbers_status numbers.NoMemory = 3
numbers_status numbers.Damaged = 7
numbers_status numbers.UsedUp = 3
numbers_status (numbers.Read error) = 3
numbers_status (numbers.Write error) = 6

abbrev pub holds_status : HoldsFault → ℕ
holds_status holds.NoMemory = 3
holds_status holds.Damaged = 7
holds_status (holds.Read error) = 3
holds_status (holds.Write error) = 6

abbrev pub next_status : NextError → ℕ
next_status next.NoMemory = 3
next_status (next.Book fault) = 7
next_status (next.Prune refusal) = 7
next_status (next.Disk error) = 6
next_status next.NotAStore = 7
next_status (next.File error) = 6

-- and 8 where another process has the store open
abbrev pub start_status : StartFault → ℕ
start_status start.NoMemory = 3
start_status start.NoRandom = 3
start_status start.NotAFolder = 3
start_status (start.Folder error) = 3
start_status start.InUse = 8
start_status (start.File error) = 3
start_status start.NotAStore = 7
start_status start.HotJournal = 7
start_status (start.OtherFormat format) = 7
start_status (start.Disk error) = 6
start_status (start.Lost found noted) = 7
start_status (start.Book fault) = book_status fault
start_status (start.Next error) = next_status error
start_status (start.Numbers fault) = numbers_status fault
start_status (start.Holds fault) = holds_status fault
