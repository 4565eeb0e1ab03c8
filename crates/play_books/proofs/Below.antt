-- Numbers stay below a bound.
use Rattle.std.proofs.Common.{◌≡◌, ℕ, ◌<◌, ◌+◌, true, false, cond, not, List, [], ◌∷◌, ◌++◌, arith, zero, suc}
use Rattle.std.specs.Prelude.{All}
use Rattle.row_store.specs.declared.Row.{Row}
use Rattle.row_store.specs.Rows.{is_row}
use Rattle.row_store.specs.inner.Rows.{changed_at, removed}

abbrev pub AreBelow : {T : Type 0} → ℕ → List (Row T) → Type 0
AreBelow n rows = All (λ row. row.number < n) rows

module _ {T : Type 0} (n : ℕ) where
  tail : (row : Row T) (rows : List (Row T)) → AreBelow n (row ∷ rows) → AreBelow n rows
  tail row rows below = λ k d inside. below (suc k) d (omega arith)

  join : (row : Row T) (rows : List (Row T)) → row.number < n → AreBelow n rows → AreBelow n (row ∷ rows)
  join row rows first below zero d inside = first
  join row rows first below (suc k) d inside = below k d (omega arith)

  pub below_more : (rows : List (Row T)) → AreBelow n rows → AreBelow (n + 1) rows
  below_more rows below = λ k d inside. let low = below k d inside in omega arith

  pub below_push : (rows : List (Row T)) (row : Row T) → AreBelow n rows → row.number < n → AreBelow n (rows ++ row ∷ [])
  below_push [] row below last = join row [] last below
  below_push (first ∷ rows) row below last = join first (rows ++ row ∷ []) (below 0 first (omega arith)) (below_push rows row (tail first rows below) last)

  pub below_changed : (number : ℕ) (change : Row T → Row T) → ((row : Row T) → (change row).number ≡ row.number) → (rows : List (Row T)) → AreBelow n rows → AreBelow n (changed_at number change rows)
  below_changed number change keeps [] below = below
  below_changed number change keeps (row ∷ rows) below =
      join (cond (is_row number row) (change row) row) (changed_at number change rows)
      (elim (is_row number row) as (λ b. (cond b (change row) row).number < n) [ true ↦ rw (keeps row) (below 0 row (omega arith)) | false ↦ below 0 row (omega arith) ])
      (below_changed number change keeps rows (tail row rows below))

  pub below_removed : (number : ℕ) (rows : List (Row T)) → AreBelow n rows → AreBelow n (removed number rows)
  below_removed number [] below = below
  below_removed number (row ∷ rows) below =
      let rest = below_removed number rows (tail row rows below) in
      elim (is_row number row) as (λ b. AreBelow n (cond (not b) (row ∷ removed number rows) (removed number rows)))
      [ true ↦ rest | false ↦ join row (removed number rows) (below 0 row (omega arith)) rest ]
