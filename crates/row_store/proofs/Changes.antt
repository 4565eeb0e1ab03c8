-- Changes at the row of a number.
use Rattle.std.proofs.Common.{◌≡◌, ℕ, ◌+◌, true, false, cond, List, [], ◌∷◌, None, Some, refl, ap, arith, suc, fold}
use Rattle.std.specs.Prelude.{find}
use Rattle.std.specs.Option.{option_map}
use Rattle.std.proofs.lemmas.Bool.Decides.{nat_tests}
use Rattle.row_store.specs.declared.Row.{Row}
use Rattle.row_store.specs.Rows.{is_row, item_at}
use Rattle.row_store.specs.inner.Rows.{NumbersRise, changed_at, unlinked, without}
use Rattle.row_store.proofs.Places.{changed_at-missing, only_at, rest-missing}

rise-tail : {T : Type 0} (row : Row T) (rows : List (Row T)) → NumbersRise (row ∷ rows) → NumbersRise rows
rise-tail row rows rise = λ k inside.
    let next : suc k + 1 ≡ suc (k + 1) = omega arith in
    rw next at (rise (suc k) (omega arith))

is_row-true : {T : Type 0} (n : ℕ) (row : Row T) → is_row n row ≡ true → row.number ≡ n
is_row-true n row named = grind (arith, nat_tests)

module _ {T : Type 0} (n : ℕ) where
  -- where there is no such row, nothing changes
  pub changed_at-none : (change : Row T → Row T) (rows : List (Row T)) → item_at n rows ≡ None → changed_at n change rows ≡ rows
  changed_at-none change [] none = refl
  changed_at-none change (row ∷ rows) none =
      elim (is_row n row) as (λ b. option_map (λ (r : Row T). r.item) (cond b (Some row) (find (is_row n) rows)) ≡ None → cond b (change row) row ∷ changed_at n change rows ≡ row ∷ rows)
      [ true ↦ λ some. absurd cc | false ↦ λ rest. ap (λ rs. row ∷ rs) (changed_at-none change rows rest) ] none

  -- a change that keeps each row keeps the rows
  pub changed_at-kept : (rows : List (Row T)) → changed_at n (λ row. row) rows ≡ rows
  changed_at-kept [] = refl
  changed_at-kept (row ∷ rows) = elim (is_row n row) as (λ b. cond b row row ∷ changed_at n (λ row. row) rows ≡ row ∷ rows)
      [ true ↦ ap (λ rs. row ∷ rs) (changed_at-kept rows) | false ↦ ap (λ rs. row ∷ rs) (changed_at-kept rows) ]

  -- numbers rise, so the row of n is the one with its item: two changes that agree there agree
  pub changed_at-for : (f h : Row T → Row T) (rows : List (Row T)) (item : T) → NumbersRise rows → item_at n rows ≡ Some item
      → ((row : Row T) → row.item ≡ item → f row ≡ h row) → changed_at n f rows ≡ changed_at n h rows
  changed_at-for f h [] item rise found agree = absurd cc
  changed_at-for f h (row ∷ rows) item rise found agree =
      elim (is_row n row) as (λ b. is_row n row ≡ b → option_map (λ (r : Row T). r.item) (cond b (Some row) (find (is_row n) rows)) ≡ Some item → cond b (f row) row ∷ changed_at n f rows ≡ cond b (h row) row ∷ changed_at n h rows) [
        | true ↦ λ named here.
            let missing = rest-missing n row rows (only_at n 0 (row ∷ rows) rise (omega arith) (λ d. is_row-true n row named)) in
            let same : row.item ≡ item = cc in
            rw (changed_at-missing n f rows missing, changed_at-missing n h rows missing, agree row same) refl
        | false ↦ λ named later. ap (λ rs. row ∷ rs) (changed_at-for f h rows item (rise-tail row rows rise) later agree)
      ] refl found

  -- two changes in turn
  pub changed_at-twice : (f h : Row T → Row T) → ((row : Row T) → (h row).number ≡ row.number) → (rows : List (Row T)) → changed_at n f (changed_at n h rows) ≡ changed_at n (λ row. f (h row)) rows
  changed_at-twice f h keeps [] = refl
  changed_at-twice f h keeps (row ∷ rows) =
      elim (is_row n row) as (λ b. is_row n row ≡ b → cond (is_row n (cond b (h row) row)) (f (cond b (h row) row)) (cond b (h row) row) ∷ changed_at n f (changed_at n h rows) ≡ cond b (f (h row)) row ∷ changed_at n (λ row. f (h row)) rows) [
        | true ↦ λ named. rw (keeps row, named, changed_at-twice f h keeps rows) refl
        | false ↦ λ named. rw (named, changed_at-twice f h keeps rows) refl
      ] refl

  -- a row that leaves one queue after another
  pub fold-unlinked : (ds : List ℕ) (h : Row T → Row T) → ((row : Row T) → (h row).number ≡ row.number) → (rows : List (Row T))
      → fold (λ rows d. unlinked n d rows) (changed_at n h rows) ds ≡ changed_at n (λ row. record (h row) { mask = fold (λ mask d. without d mask) (h row).mask ds }) rows
  fold-unlinked [] h keeps rows = refl
  fold-unlinked (d ∷ ds) h keeps rows =
      rw (changed_at-twice (λ row. record row { mask = without d row.mask }) h keeps rows)
      (fold-unlinked ds (λ row. record (h row) { mask = without d (h row).mask }) keeps rows)
