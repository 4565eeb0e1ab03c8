-- A walk over the rows, from the first to the last.
use Rattle.std.proofs.Common.{◌≡◌, ℕ, ◌+◌, Bool, true, false, List, [], ◌∷◌, ◌++◌, map, length, drop, pos, refl, sym, ap, subst, ◌∙◌, arith, Some}
use Rattle.std.proofs.lemmas.List.{map-append, length-map}
use Rattle.sqlite_value.specs.declared.keys.Order.{Order}
use Rattle.sqlite_value.specs.declared.value.Value.TheVariants.{Null, Int, Text, Blob}
use Rattle.sqlite_value.specs.Order.{Row, column}
use Rattle.sqlite_trees.specs.declared.store.Direction.TheVariants.{Forward}
use Rattle.sqlite_trees.specs.Tree.{from_key, sought}
use Rattle.sqlite_trees.specs.View.{View, Advances, with_cursor}
use Rattle.event_store.specs.declared.columns.StoredRecord.{StoredRecord}
use Rattle.event_store.specs.Records.{Record, Contents, contents, contents_of, record_row, rows_from, record_in, records_in, HoldsRecords}
use Rattle.event_store.specs.inner.Reading.{IsRowOf, HasRead, OnlyReads}
use Rattle.event_store.proofs.RecordLemmas.{records_of}

all_from : (o : Order) (es : List Row) → from_key o [] es ≡ es
all_from o [] = refl
all_from o (e ∷ es) = refl

set_cursor : (old new : View) (left : List Row) → new ≡ with_cursor old 0 left → OnlyReads old new × (new.cursors 0 ≡ Some left)
set_cursor old new left is = (is ∙ ap (λ (v : View). record old { cursors = v.cursors }) (sym is), ap (λ (v : View). v.cursors 0) is)

pub started : (first : ℕ) (old new : View) (o : Order) (key : Row) → key ≡ [] → new ≡ with_cursor old 0 (sought o Forward key (old.trees 0)) → OnlyReads old new × HasRead first old new []
started first old new o key none is =
    let set = set_cursor old new _ is in (
      set.0,
      record {
        records = [];
        left = old.trees 0;
        cursor = set.1 ∙ ap Some (ap (λ k. sought o Forward k (old.trees 0)) none ∙ all_from o (old.trees 0));
        rows = refl;
        shown = refl;
      },
    )

rows_push : (n last : ℕ) (records : List Record) (r : Record) (left : List Row) → last ≡ n + length records → rows_from n records ++ record_row last r ∷ left ≡ rows_from n (records ++ r ∷ []) ++ left
rows_push n last [] r left is = ap (λ k. record_row k r ∷ left) (is ∙ omega arith)
rows_push n last (q ∷ records) r left is = ap (λ x. record_row n q ∷ x) (rows_push (n + 1) last records r left (omega (arith, is)))

at_index : (n : ℕ) (all records : List Record) (row : Row) (left : List Row) → rows_from n all ≡ rows_from n records ++ row ∷ left → (r : Record) × (row ≡ record_row (n + length records) r)
at_index n [] [] row left is = absurd cc
at_index n [] (q ∷ records) row left is = absurd cc
at_index n (a ∷ all) [] row left is =
    let head : row ≡ record_row n a = cc in
    (a, head ∙ ap (λ k. record_row k a) (omega arith))
at_index n (a ∷ all) (q ∷ records) row left is =
    let tail : rows_from (n + 1) all ≡ rows_from (n + 1) records ++ row ∷ left = cc in
    let there = at_index (n + 1) all records row left tail in
    (there.0, there.1 ∙ ap (λ k. record_row k there.0) (omega arith))

append_none : (xs : List Row) → xs ++ [] ≡ xs
append_none [] = refl
append_none (x ∷ xs) = ap (λ l. x ∷ l) (append_none xs)

module _ (first : ℕ) (old mid new : View) (found : List Contents) (row : Row) (reads : OnlyReads old mid) (read : HasRead first old mid found) where
  count : length read.records ≡ length found
  count = sym (length-map read.records contents) ∙ ap length read.shown

  after_row : Advances mid new 0 row true → OnlyReads old new × ((left : List Row) × (new.cursors 0 ≡ Some left) × (old.trees 0 ≡ rows_from first read.records ++ row ∷ left))
  after_row step =
      let is : mid.cursors 0 ≡ Some read.left = read.cursor in
      let taken : mid.cursors 0 ≡ Some (row ∷ step.0) = step.1 in
      let same : read.left ≡ row ∷ step.0 = cc in
      let set = set_cursor mid new _ step.2 in
      (set.0 ∙ ap (λ (v : View). record v { cursors = new.cursors }) reads, (step.0, set.1, read.rows ∙ ap (λ l. rows_from first read.records ++ l) same))

  -- one record more
  pub stepped : (number : ℕ) (c : Contents) (more : List Contents) → Advances mid new 0 row true → IsRowOf number c row → number ≡ first + length found → more ≡ found ++ c ∷ [] → OnlyReads old new × HasRead first old new more
  stepped number c more step is due grown =
      let after = after_row step in
      let r : Record = record { body = c.body; at = c.at; peer = c.peer; note = is.0 } in (
        after.0,
        record {
          records = read.records ++ r ∷ [];
          left = after.1.0;
          cursor = after.1.1;
          rows = after.1.2 ∙ ap (λ x. rows_from first read.records ++ x ∷ after.1.0) is.1 ∙ rows_push first number read.records r after.1.0 (due ∙ ap (λ k. first + k) (sym count));
          shown = map-append contents read.records (r ∷ []) ∙ ap (λ l. l ++ c ∷ []) read.shown ∙ sym grown;
        },
      )

  -- a row that is no record
  pub stray : (number : ℕ) → Advances mid new 0 row true → ((r : Record) → row ≡ record_row number r → ⊥) → number ≡ first + length found → HoldsRecords first old.trees → ⊥
  stray number step none due holds =
      let after = after_row step in
      let there = at_index first (records_in old.trees) read.records row after.1.0 (sym holds ∙ after.1.2) in
      none there.0 (there.1 ∙ ap (λ k. record_row k there.0) (ap (λ k. first + k) count ∙ sym due))

  -- the end
  pub ended : Advances mid new 0 row false → HoldsRecords first old.trees × (found ≡ map contents (records_in old.trees))
  ended step =
      let is : mid.cursors 0 ≡ Some read.left = read.cursor in
      let taken : mid.cursors 0 ≡ Some [] = step.0 in
      let none : read.left ≡ [] = cc in
      let rows : old.trees 0 ≡ rows_from first read.records = read.rows ∙ ap (λ l. rows_from first read.records ++ l) none ∙ append_none (rows_from first read.records) in
      let held : records_in old.trees ≡ read.records = ap (map record_in) rows ∙ records_of first read.records in
      (rows ∙ ap (rows_from first) (sym held), sym (ap (map contents) held ∙ read.shown))

pub chosen : (old new : View) (row : Row) (found is : Bool) → found ≡ is → Advances old new 0 row found → Advances old new 0 row is
chosen old new row found is same step = subst (Advances old new 0 row) same step

-- what was read has as many records as there are
pub same_count : (all : List StoredRecord) (records : List Record) → map contents_of all ≡ map contents records → length all ≡ length records
same_count all records is = sym (length-map all contents_of) ∙ ap length is ∙ length-map records contents

-- a row with a text in its fifth column has five columns
split : (row : Row) (peer : List ℕ) → column row 4 ≡ Text peer → row ≡ column row 0 ∷ column row 1 ∷ column row 2 ∷ column row 3 ∷ column row 4 ∷ drop 5 row
split [] peer is = absurd cc
split (a ∷ []) peer is = absurd cc
split (a ∷ b ∷ []) peer is = absurd cc
split (a ∷ b ∷ c ∷ []) peer is = absurd cc
split (a ∷ b ∷ c ∷ d ∷ []) peer is = absurd cc
split (a ∷ b ∷ c ∷ d ∷ e ∷ more) peer is = refl

-- a row with these first five columns is a record's
pub row_of : (row : Row) (number : ℕ) (c : Contents) → column row 0 ≡ Int (pos number) → column row 1 ≡ Null → column row 2 ≡ Blob c.body → column row 3 ≡ Int c.at → column row 4 ≡ Text c.peer → IsRowOf number c row
row_of row number c id null body at peer = (drop 5 row, split row c.peer peer ∙ cc)
