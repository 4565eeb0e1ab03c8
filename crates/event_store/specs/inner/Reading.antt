-- What a walk over the rows has read so far.
use Rattle.std.specs.Prelude.{◌≡◌, ℕ, List, ◌++◌, map, Some}
use Rattle.sqlite_value.specs.Order.{Row}
use Rattle.sqlite_trees.specs.View.{View}
use Rattle.event_store.specs.Records.{Record, Contents, contents, record_row, rows_from}

-- the record with these contents of which a row says this to people
abbrev pub noted : Contents → Row → Record
noted c note = record { body = c.body; at = c.at; peer = c.peer; note = note }

-- the row is that of a record of this number with these contents, whatever it says to people
abbrev pub IsRowOf : ℕ → Contents → Row → Type 0
IsRowOf number c row = (note : Row) × (row ≡ record_row number (noted c note))

-- These records were read, and the cursor has these rows left to give.
pub record HasRead (first : ℕ) (old new : View) (found : List Contents) : Type 0 where
  pub records : List Record
  pub left : List Row
  pub cursor : new.cursors 0 ≡ Some left
  pub rows : old.trees 0 ≡ rows_from first records ++ left
  pub shown : map contents records ≡ found

-- A call that has only read, or that rolled back what there was to roll back, leaves this.
abbrev pub OnlyReads : View → View → Type 0
OnlyReads old new = new ≡ record old { cursors = new.cursors }
