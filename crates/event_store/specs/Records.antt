-- Records in order, as the rows of one table.
use Rattle.std.specs.Prelude.{◌≡◌, ◌⊎◌, ◌≢◌, ℕ, ℤ, ◌+◌, ◌^◌, ◌≤◌, pos, List, [], ◌∷◌, ◌++◌, map, drop, length, false, IsTrue, ⊤}
use Rattle.sqlite_value.specs.declared.value.Value.{Value}
use Rattle.sqlite_value.specs.declared.value.Value.TheVariants.{Null, Int, Real, Text, Blob}
use Rattle.sqlite_value.specs.Order.{Row, column, bytes}
use Rattle.sqlite_trees.specs.declared.error.StoreError.{StoreError}
use Rattle.sqlite_trees.specs.declared.error.StoreError.TheVariants.{OutOfMemory, Io, Corrupt, Full, Broken, Unstorable}
use Rattle.sqlite_trees.specs.declared.store.Shape.TheVariants.{Table}
use Rattle.sqlite_trees.specs.Tree.{Trees}
use Rattle.sqlite_trees.specs.View.{View, IsClean, IsStorableRow, HasCause}
use Rattle.event_store.specs.declared.columns.Columns.{Columns}
use Rattle.event_store.specs.declared.columns.StoredRecord.{StoredRecord}
use Rattle.event_store.specs.declared.open.OpenError.{OpenError}
use Rattle.event_store.specs.declared.open.OpenError.TheVariants.{Store, NotRecords}

-- A record as a row holds it.
pub record Record : Type 0 where
  -- its bytes, which alone are the record
  pub body : List ℕ
  -- when it was copied, and the peer's address
  pub at : ℤ
  pub peer : List ℕ
  -- what else the row says of it, to people
  pub note : Row

-- The rowid is the record's number. The column of an INTEGER PRIMARY KEY is stored as NULL.
abbrev pub record_row : ℕ → Record → Row
record_row number r = Int (pos number) ∷ Null ∷ Blob r.body ∷ Int r.at ∷ Text r.peer ∷ r.note

-- the rows of these records, numbered from `number` with no gap
abbrev pub rows_from : ℕ → List Record → List Row
rows_from number [] = []
rows_from number (r ∷ more) = record_row number r ∷ rows_from (number + 1) more

abbrev pub integer : Value → ℤ
integer Null = pos 0
integer (Int n) = n
integer (Real x) = pos 0
integer (Text t) = pos 0
integer (Blob b) = pos 0

abbrev pub record_in : Row → Record
record_in row = record {
  body = bytes (column row 2);
  at = integer (column row 3);
  peer = bytes (column row 4);
  note = drop 5 row;
}

-- the records of a database
abbrev pub records_in : Trees → List Record
records_in db = map record_in (db 0)

-- It holds whole records alone, in order, numbered from `first` with no gap.
abbrev pub HoldsRecords : ℕ → Trees → Type 0
HoldsRecords first db = db 0 ≡ rows_from first (records_in db)

-- such records, of which the next has the number `next`
abbrev pub EndsBefore : ℕ → ℕ → Trees → Type 0
EndsBefore first next db = HoldsRecords first db × (first + length (records_in db) ≡ next)

-- While the transaction can go on, it sees such records.
abbrev pub SeesRecords : ℕ → View → ℕ → Type 0
SeesRecords first v next = v.is_broken ≡ false → EndsBefore first next v.trees

-- While the store is open, the last commit has such records.
abbrev pub KeepsRecords : ℕ → View → ℕ → Type 0
KeepsRecords first v next = IsTrue v.is_open → EndsBefore first next v.committed

-- Whatever a crash leaves is such records.
abbrev pub LeavesRecords : ℕ → View → (Trees → Type 0) → Type 0
LeavesRecords first v recovers = IsClean v → (db : Trees) → recovers db → HoldsRecords first db

-- each crash at this moment leaves just these records
abbrev pub AreDurable : View → (Trees → Type 0) → List Record → Type 0
AreDurable v recovers records = IsClean v → (db : Trees) → recovers db → records_in db ≡ records

-- the transaction sees one record more, at the end
abbrev pub AddsRecord : View → View → Record → Type 0
AddsRecord old new r = IsClean new → records_in new.trees ≡ records_in old.trees ++ r ∷ []

-- the record can't be stored: tree 0 is no table, or the row is none that a table holds
abbrev pub IsUnstorable : View → ℕ → Record → Type 0
IsUnstorable old number r =
    (¬ IsStorableRow (old.reals 0) (record_row number r)) ⊎ (old.shape 0 ≢ Table)

-- why an append may fail, where `fault` says that the disk failed during it
abbrev pub IsAppendFailure : View → Type 0 → ℕ → Record → StoreError → Type 0
IsAppendFailure old fault number r =
    HasCause old (fault ⊎ (2 ^ 62 ≤ number)) (IsUnstorable old number r)

-- The records go up to the last number that there is, 2^62 - 1.
abbrev pub IsNumberedOut : ℕ → Trees → Type 0
IsNumberedOut first db = 2 ^ 62 ≤ first + length (records_in db)

-- why reading the records that a transaction sees may fail
abbrev pub IsReadFailure : ℕ → View → Type 0 → StoreError → Type 0
IsReadFailure first old fault Full =
    fault ⊎ ((old.is_broken ≡ false) × IsNumberedOut first old.trees)
IsReadFailure first old fault e = HasCause old fault (old.shape 0 ≢ Table) e

-- Why a store is not opened, where the table is not at fault. It was shut, or has no table as tree 0, or has records up
-- to the last number; or the disk failed, which is `fault`.
abbrev pub IsOpenFailure : ℕ → View → Type 0 → OpenError → Type 0
IsOpenFailure first given fault NotRecords = ⊤
IsOpenFailure first given fault (Store OutOfMemory) = ⊤
IsOpenFailure first given fault (Store Io) = fault
IsOpenFailure first given fault (Store Corrupt) = fault
IsOpenFailure first given fault (Store Full) = fault ⊎ IsNumberedOut first given.committed
IsOpenFailure first given fault (Store Broken) = fault ⊎ (given.is_open ≡ false)
IsOpenFailure first given fault (Store Unstorable) =
    given.shape ≡ given.committed_shape → given.shape 0 ≢ Table

-- what the columns for people say, in the order of the table
abbrev pub note_of : Columns → Row
note_of c =
    Text c.kind.now ∷ Text c.channel.now ∷ Int c.number
    ∷ Text c.control_id.now ∷ Text c.destination.now ∷ Text c.outcome.now ∷ []

abbrev pub record_of : List ℕ → Columns → Record
record_of body c = record { body = body; at = c.at; peer = c.peer.now; note = note_of c }

-- what an open reads of a record
pub record Contents : Type 0 where
  pub body : List ℕ
  pub at : ℤ
  pub peer : List ℕ

abbrev pub contents : Record → Contents
contents r = record { body = r.body; at = r.at; peer = r.peer }

-- what an open reads of the records of a database
abbrev pub contents_in : Trees → List Contents
contents_in db = map contents (records_in db)

abbrev pub contents_of : StoredRecord → Contents
contents_of r = record { body = r.body.items; at = r.at; peer = r.peer.items }
