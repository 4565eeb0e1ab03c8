-- Rows that are made ready and written, one behind the other.
use Rattle.std.proofs.Common.{◌≡◌, ℕ, zero, suc, ◌+◌, ◌<◌, pos, List, [], ◌∷◌, ◌++◌, map, take, length, get_or, add-one, arith, Some, refl, sym, ap, subst, ◌∙◌, append_assoc}
use Rattle.std.specs.List.{slice_get}
use Rattle.std.proofs.lemmas.List.{append-nil, map-append}
use Rattle.sqlite_value.specs.declared.value.Value.TheVariants.{Int, Text}
use Rattle.event_store.specs.declared.columns.Columns.{Columns}
use Rattle.event_store.specs.Records.{Record as Stored, record_of}
use Rattle.book_lock.specs.declared.copied.Copied.{Copied}
use Rattle.book_lock.specs.Journal.{change_copied}
use Rattle.book_lock.specs.declared.log_entry.LogEntry.{LogEntry}
use Rattle.book_journal.specs.inner.Held.{AreRowsOf, HasRows, IsBodyOf}
use Rattle.book_journal.specs.inner.Rows.{Adds, AreReady, IsReady}
use Rattle.book_journal.specs.declared.row.Row.{Row}

-- one more row is ready
pub ready_more : (rows : List Row) (xs : List LogEntry) (row : Row) (x : LogEntry) → AreReady rows xs → IsReady row x → AreReady (rows ++ row ∷ []) (xs ++ x ∷ [])
ready_more [] [] row x are is = (is, tt)
ready_more [] (y ∷ ys) row x are is = absurd are
ready_more (r ∷ rows) [] row x are is = absurd are
ready_more (r ∷ rows) (y ∷ ys) row x are is = (are.0, ready_more rows ys row x are.1 is)

-- rows of changes, one list behind the other
pub rows_joined : (rows more : List Stored) (xs ys : List LogEntry) → AreRowsOf rows xs → AreRowsOf more ys → AreRowsOf (rows ++ more) (xs ++ ys)
rows_joined [] more [] ys are behind = behind
rows_joined [] more (x ∷ xs) ys are behind = absurd are
rows_joined (r ∷ rows) more [] ys are behind = absurd are
rows_joined (r ∷ rows) more (x ∷ xs) ys are behind = (are.0, rows_joined rows more xs ys are.1 behind)

pub has_joined : (before mid all : List Stored) (xs ys : List LogEntry) → HasRows before mid xs → HasRows mid all ys → HasRows before all (xs ++ ys)
has_joined before mid all xs ys one two = record {
  rows = one.rows ++ two.rows;
  behind = two.behind ∙ ap (λ l. l ++ two.rows) one.behind ∙ append_assoc before one.rows two.rows;
  are = rows_joined one.rows two.rows xs ys one.are two.are;
}

-- what rows are ready for, split where the rows are
record Split (rows more : List Row) (xs : List LogEntry) : Type 0 where
  first : List LogEntry
  second : List LogEntry
  is : xs ≡ first ++ second
  are : AreReady rows first
  behind : AreReady more second

split : (rows more : List Row) (xs : List LogEntry) → AreReady (rows ++ more) xs → Split rows more xs
split [] more xs are = record { first = []; second = xs; is = refl; are = tt; behind = are }
split (r ∷ rows) more [] are = absurd are
split (r ∷ rows) more (x ∷ xs) are =
    let rest = split rows more xs are.1 in
    record { first = x ∷ rest.first; second = rest.second; is = ap (λ l. x ∷ l) rest.is; are = (are.0, rest.are); behind = rest.behind }

-- nothing is added by no rows
pub adds_none : (all : List Stored) → Adds all [] all
adds_none all = record { each = each }
  where
    each : (xs : List LogEntry) → AreReady [] xs → HasRows all all xs
    each [] are = record { rows = []; behind = sym (append-nil all); are = tt }
    each (x ∷ xs) are = absurd are

-- rows that are added behind rows
pub adds_more : (before mid all : List Stored) (rows more : List Row) → Adds before rows mid → Adds mid more all → Adds before (rows ++ more) all
adds_more before mid all rows more one two = record {
  each = λ (xs : List LogEntry) (are : AreReady (rows ++ more) xs).
      let s = split rows more xs are in
      subst (HasRows before all) (sym s.is) (has_joined before mid all s.first s.second (one.each s.first s.are) (two.each s.second s.behind));
}

-- ---- rows by their number

first_are : {A : Type 0} (xs : List A) (i : ℕ) (x : A) → slice_get xs i ≡ Some x → take (suc i) xs ≡ take i xs ++ x ∷ []
first_are [] i x found = absurd cc
first_are (y ∷ ys) zero x found = let same : y ≡ x = cc in ap (λ z. z ∷ []) same
first_are (y ∷ ys) (suc i) x found = ap (λ zs. y ∷ zs) (first_are ys i x found)

one_more : {A : Type 0} (xs : List A) (i : ℕ) (x : A) → slice_get xs i ≡ Some x → take (i + 1) xs ≡ take i xs ++ x ∷ []
one_more xs i x found = ap (λ (k : ℕ). take k xs) (add-one i) ∙ first_are xs i x found

pub found_at : {A : Type 0} (xs : List A) (i : ℕ) (x : A) → i < length xs → x ≡ get_or xs i x → slice_get xs i ≡ Some x
found_at [] i x lt is = absurd (omega (arith, lt))
found_at (y ∷ ys) zero x lt is = ap Some (sym is)
found_at (y ∷ ys) (suc i) x lt is = found_at ys i x (omega (arith, lt)) is

pub ready_next : (rows : List Row) (changes : List Copied) (i : ℕ) (row : Row) (change : Copied) → slice_get changes i ≡ Some change
    → AreReady rows (map change_copied (take i changes)) → IsReady row (change_copied change) → AreReady (rows ++ row ∷ []) (map change_copied (take (i + 1) changes))
ready_next rows changes i row change found are is =
    subst (AreReady (rows ++ row ∷ []))
    (sym (ap (map change_copied) (one_more changes i change found) ∙ map-append change_copied (take i changes) (change ∷ [])))
    (ready_more rows (map change_copied (take i changes)) row (change_copied change) are is)

pub adds_next : (before mid all : List Stored) (rows : List Row) (i : ℕ) (row : Row) → slice_get rows i ≡ Some row → Adds before (take i rows) mid → Adds mid (row ∷ []) all
    → Adds before (take (i + 1) rows) all
adds_next before mid all rows i row found one two =
    subst (λ (l : List Row). Adds before l all) (sym (one_more rows i row found)) (adds_more before mid all (take i rows) (row ∷ []) one two)

-- ---- one row

pub adds_one : (before all : List Stored) (row : Row) (body : List ℕ) (columns : Columns) → body ≡ row.body.items → columns.kind.now ≡ row.kind.now
    → columns.number ≡ pos row.number → columns.outcome.now ≡ row.outcome.now → all ≡ before ++ record_of body columns ∷ [] → Adds before (row ∷ []) all
adds_one before all row body columns same kind number outcome is = record { each = each }
  where
    each : (xs : List LogEntry) → AreReady (row ∷ []) xs → HasRows before all xs
    each [] are = absurd are
    each (x ∷ []) are = record {
      rows = record_of body columns ∷ [];
      behind = is;
      are = (
        record {
          body = subst (λ (l : List ℕ). IsBodyOf l x) (sym same) are.0.body;
          kind = ap Text (kind ∙ are.0.kind);
          number = ap Int (number ∙ ap pos are.0.number);
          outcome = ap Text (outcome ∙ are.0.outcome);
        },
        tt,
      );
    }
    each (x ∷ (y ∷ ys)) are = absurd are.1
