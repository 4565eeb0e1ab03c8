-- The row of a number: its place, and what a change there does to the list.
use Rattle.std.proofs.Common.{◌≡◌, ◌≢◌, ℕ, ◌+◌, ◌<◌, ◌≤◌, Bool, true, false, cond, not, ◌==◌, ◌||◌, List, [], ◌∷◌, ◌++◌, length, get_or, None, Some, Result, Ok, Err, IfSome, IfNone, refl, ◌∙◌, ap, arith, set, suc, zero, inl, inr}
use Rattle.std.specs.Prelude.{filter, find, All, remove}
use Rattle.std.proofs.lemmas.Bool.Decides.{nat_tests}
use Rattle.std.specs.List.{HoldsAt}
use Rattle.std.specs.Result.{result_ok}
use Rattle.std.proofs.lemmas.Bool.{cases_lt}
use Rattle.std.proofs.lemmas.List.{get_or-map, length-map, length-append, get_or_append_left, get_or_push, map-append}
use Rattle.std.proofs.lemmas.List.Kept.{AllPairs-from_increasing, IsStrictlyIncreasing-filter}
use Rattle.std.specs.List.Sorted.{IsBinarySearchResult, IsNonDecreasingBy, IsStrictlyIncreasing}
use Rattle.std.specs.Ordering.{nat_cmp, ordering_index}
use Rattle.std.specs.declared.cmp.Ordering.TheVariants.{Less, Equal, Greater}
use Rattle.row_store.specs.declared.Row.{Row}
use Rattle.row_store.specs.Rows.{row_numbers, is_row, is_in_queue}
use Rattle.row_store.specs.inner.Rows.{NumbersRise, is_linked, changed_at, removed}

-- that number is at place i and nowhere else
pub record IsOnlyAt {T : Type 0} (n i : ℕ) (rows : List (Row T)) : Type 0 where
  pub inside : i < length rows
  pub here : (d : Row T) → (get_or rows i d).number ≡ n
  pub others : (k : ℕ) (d : Row T) → k < length rows → k ≢ i → (get_or rows k d).number ≢ n

pub is_row-no : {T : Type 0} (n : ℕ) (row : Row T) → row.number ≢ n → is_row n row ≡ false
is_row-no n row differs = grind (arith, nat_tests)

pub is_row-yes : {T : Type 0} (n : ℕ) (row : Row T) → row.number ≡ n → is_row n row ≡ true
is_row-yes n row same = grind (arith, nat_tests)

-- no row has that number
abbrev pub IsMissing : {T : Type 0} → ℕ → List (Row T) → Type 0
IsMissing n rows = All (λ row. row.number ≢ n) rows

module _ {T : Type 0} (n : ℕ) where
  pub missing-tail : (row : Row T) (rows : List (Row T)) → IsMissing n (row ∷ rows) → IsMissing n rows
  missing-tail row rows none = λ k d inside. none (suc k) d (omega arith)

  pub find-missing : (rows : List (Row T)) → IsMissing n rows → find (is_row n) rows ≡ None
  find-missing [] none = refl
  find-missing (row ∷ rows) none = rw (is_row-no n row (none 0 row (omega arith))) (find-missing rows (missing-tail row rows none))

  pub changed_at-missing : (change : Row T → Row T) (rows : List (Row T)) → IsMissing n rows → changed_at n change rows ≡ rows
  changed_at-missing change [] none = refl
  changed_at-missing change (row ∷ rows) none = rw (is_row-no n row (none 0 row (omega arith))) (ap (λ rest. row ∷ rest) (changed_at-missing change rows (missing-tail row rows none)))

  pub removed-missing : (rows : List (Row T)) → IsMissing n rows → removed n rows ≡ rows
  removed-missing [] none = refl
  removed-missing (row ∷ rows) none = rw (is_row-no n row (none 0 row (omega arith))) (ap (λ rest. row ∷ rest) (removed-missing rows (missing-tail row rows none)))

  pub is_linked-missing : (d : ℕ) (rows : List (Row T)) → IsMissing n rows → is_linked n d rows ≡ false
  is_linked-missing d [] none = refl
  is_linked-missing d (row ∷ rows) none = rw (is_row-no n row (none 0 row (omega arith))) (is_linked-missing d rows (missing-tail row rows none))

  pub rest-missing : (row : Row T) (rows : List (Row T)) → IsOnlyAt n 0 (row ∷ rows) → IsMissing n rows
  rest-missing row rows only = λ k d inside. only.others (suc k) d (omega arith) (omega arith)

  rest-only : (i : ℕ) (row : Row T) (rows : List (Row T)) → IsOnlyAt n (suc i) (row ∷ rows) → IsOnlyAt n i rows
  rest-only i row rows only = record {
    inside = let within = only.inside in omega arith;
    here = λ d. only.here d;
    others = λ k d inside differs. only.others (suc k) d (omega arith) (omega arith);
  }

  first-other : (i : ℕ) (row : Row T) (rows : List (Row T)) → IsOnlyAt n (suc i) (row ∷ rows) → is_row n row ≡ false
  first-other i row rows only = is_row-no n row (only.others 0 row (omega arith) (omega arith))

  pub find-at : (i : ℕ) (d : Row T) (rows : List (Row T)) → IsOnlyAt n i rows → find (is_row n) rows ≡ Some (get_or rows i d)
  find-at i d [] only = absurd (let within = only.inside in omega arith)
  find-at zero d (row ∷ rows) only = rw (is_row-yes n row (only.here row)) refl
  find-at (suc i) d (row ∷ rows) only = rw (first-other i row rows only) (find-at i d rows (rest-only i row rows only))

  pub changed_at-at : (change : Row T → Row T) (i : ℕ) (d : Row T) (rows : List (Row T)) → IsOnlyAt n i rows → changed_at n change rows ≡ set rows i (change (get_or rows i d))
  changed_at-at change i d [] only = absurd (let within = only.inside in omega arith)
  changed_at-at change zero d (row ∷ rows) only = rw (is_row-yes n row (only.here row)) (ap (λ rest. change row ∷ rest) (changed_at-missing change rows (rest-missing row rows only)))
  changed_at-at change (suc i) d (row ∷ rows) only = rw (first-other i row rows only) (ap (λ rest. row ∷ rest) (changed_at-at change i d rows (rest-only i row rows only)))

  pub removed-at : (i : ℕ) (rows : List (Row T)) → IsOnlyAt n i rows → removed n rows ≡ remove rows i
  removed-at i [] only = absurd (let within = only.inside in omega arith)
  removed-at zero (row ∷ rows) only = rw (is_row-yes n row (only.here row)) (removed-missing rows (rest-missing row rows only))
  removed-at (suc i) (row ∷ rows) only = rw (first-other i row rows only) (ap (λ rest. row ∷ rest) (removed-at i rows (rest-only i row rows only)))

  pub is_linked-at : (q i : ℕ) (d : Row T) (rows : List (Row T)) → IsOnlyAt n i rows → is_linked n q rows ≡ is_in_queue q (get_or rows i d)
  is_linked-at q i d [] only = absurd (let within = only.inside in omega arith)
  is_linked-at q zero d (row ∷ rows) only = rw (is_row-yes n row (only.here row), is_linked-missing q rows (rest-missing row rows only)) (elim (is_in_queue q row) as (λ b. (b || false) ≡ b) [ true ↦ refl | false ↦ refl ])
  is_linked-at q (suc i) d (row ∷ rows) only = rw (first-other i row rows only) (is_linked-at q i d rows (rest-only i row rows only))

pub get_or-numbers : {T : Type 0} (rows : List (Row T)) (k : ℕ) (d : Row T) (e : ℕ) → k < length rows → get_or (row_numbers rows) k e ≡ (get_or rows k d).number
get_or-numbers {T} rows k d e inside = get_or-map (λ (row : Row T). row.number) rows k d e inside

-- where numbers rise, a place with that number is the only one
pub only_at : {T : Type 0} (n i : ℕ) (rows : List (Row T)) → NumbersRise rows → i < length rows → HoldsAt (λ row. row.number ≡ n) rows i → IsOnlyAt n i rows
only_at {T} n i rows rise inside found =
    let apart = AllPairs-from_increasing (row_numbers rows) rise in
    let same_length = length-map rows (λ (row : Row T). row.number) in
    record {
      inside = inside;
      here = found;
      others = λ k d within differs same.
          let here_is : get_or (row_numbers rows) i 0 ≡ n = get_or-numbers rows i d 0 inside ∙ found d in
          let there_is : get_or (row_numbers rows) k 0 ≡ n = get_or-numbers rows k d 0 within ∙ same in
          elim (cases_lt k i) [
            | inl before ↦ let rises = apart k i 0 before (omega arith) in omega arith
            | inr after ↦ let rises = apart i k 0 (omega arith) (omega arith) in omega arith
          ];
    }

-- a change that keeps the number keeps all numbers
pub numbers-changed_at : {T : Type 0} (n : ℕ) (change : Row T → Row T) → ((row : Row T) → (change row).number ≡ row.number) → (rows : List (Row T)) → row_numbers (changed_at n change rows) ≡ row_numbers rows
numbers-changed_at n change keeps [] = refl
numbers-changed_at {T} n change keeps (row ∷ rows) =
    let rest = numbers-changed_at n change keeps rows in
    elim (is_row n row) as (λ b. (cond b (change row) row).number ∷ row_numbers (changed_at n change rows) ≡ row.number ∷ row_numbers rows)
    [ true ↦ rw (keeps row, rest) refl | false ↦ rw rest refl ]

pub numbers-removed : {T : Type 0} (n : ℕ) (rows : List (Row T)) → row_numbers (removed n rows) ≡ filter (λ k. not (k == n)) (row_numbers rows)
numbers-removed n [] = refl
numbers-removed {T} n (row ∷ rows) =
    let rest = numbers-removed n rows in
    elim (is_row n row) as (λ b. row_numbers (cond (not b) (row ∷ removed n rows) (removed n rows)) ≡ cond (not b) (row.number ∷ filter (λ k. not (k == n)) (row_numbers rows)) (filter (λ k. not (k == n)) (row_numbers rows)))
    [ true ↦ rest | false ↦ ap (λ ks. row.number ∷ ks) rest ]

pub NumbersRise-removed : {T : Type 0} (n : ℕ) (rows : List (Row T)) → NumbersRise rows → NumbersRise (removed n rows)
NumbersRise-removed n rows rise = rw (numbers-removed n rows) (IsStrictlyIncreasing-filter (λ k. not (k == n)) (row_numbers rows) rise)

rising-push : (xs : List ℕ) (y : ℕ) → IsStrictlyIncreasing xs → ((k : ℕ) → k < length xs → get_or xs k 0 < y) → IsStrictlyIncreasing (xs ++ y ∷ [])
rising-push xs y rise below = λ k inside.
    let longer = length-append xs (y ∷ []) in
    let here = get_or_append_left xs (y ∷ []) 0 k (omega arith) in
    elim (cases_lt (k + 1) (length xs)) [
      | inl within ↦ let next = get_or_append_left xs (y ∷ []) 0 (k + 1) within in let old = rise k within in omega arith
      | inr end ↦ let last = get_or_push xs y 0 (k + 1) (omega arith) in let low = below k (omega arith) in omega arith
    ]

pub NumbersRise-push : {T : Type 0} (rows : List (Row T)) (row : Row T) → NumbersRise rows → All (λ r. r.number < row.number) rows → NumbersRise (rows ++ row ∷ [])
NumbersRise-push {T} rows row rise below =
    let number : Row T → ℕ = λ r. r.number in
    rw (map-append number rows (row ∷ []))
    (rising-push (row_numbers rows) row.number rise
    (λ k inside. let within : k < length rows = omega (arith, length-map rows number) in
    let is = get_or-numbers rows k row 0 within in let low = below k row within in omega arith))

equal-from : (a n : ℕ) → nat_cmp a n ≡ Equal → a ≡ n
equal-from a n e = grind (arith, nat_tests)

less-from : (a n : ℕ) → nat_cmp a n ≡ Less → a < n
less-from a n e = grind (arith, nat_tests)

greater-from : (a n : ℕ) → nat_cmp a n ≡ Greater → n < a
greater-from a n e = grind (arith, nat_tests)

answers_rise : (a b n : ℕ) → a ≤ b → ordering_index (nat_cmp a n) ≤ ordering_index (nat_cmp b n)
answers_rise a b n le = grind (arith, nat_tests)

-- along rising numbers the answers rise
rising-answers : {T : Type 0} (n : ℕ) (rows : List (Row T)) → NumbersRise rows → IsNonDecreasingBy (λ row. ordering_index (nat_cmp row.number n)) rows
rising-answers {T} n rows rise = λ i j d le inside. answers_rise _ _ n (
    let apart = AllPairs-from_increasing (row_numbers rows) rise in
    let same_length = length-map rows (λ (row : Row T). row.number) in
    elim (cases_lt i j) [
      | inl before ↦
          let a = get_or-numbers rows i d 0 (omega arith) in
          let b = get_or-numbers rows j d 0 inside in
          let rises = apart i j 0 before (omega arith) in
          omega arith
      | inr same ↦ let at : i ≡ j = omega arith in rw at (omega arith)
    ])

-- what a binary search by number answers, as an option
pub searched-found : {T : Type 0} (n : ℕ) (rows : List (Row T)) (r : Result ℕ ℕ) → IsBinarySearchResult (λ row. nat_cmp row.number n) rows r
    → IfSome (result_ok r) (HoldsAt (λ row. row.number ≡ n) rows)
searched-found n rows (Ok i) found = λ d. equal-from (get_or rows i d).number n (found d)
searched-found n rows (Err i) found = tt

pub searched-missing : {T : Type 0} (n : ℕ) (rows : List (Row T)) (r : Result ℕ ℕ) → NumbersRise rows → IsBinarySearchResult (λ row. nat_cmp row.number n) rows r
    → IfNone (result_ok r) (IsMissing n rows)
searched-missing n rows (Ok i) rise found = tt
searched-missing {T} n rows (Err i) rise found =
    let parted = found (rising-answers n rows rise) in
    λ k d within same.
    elim (cases_lt k i) [
      | inl before ↦ let low = less-from (get_or rows k d).number n (parted.0 k d (omega arith) before) in omega arith
      | inr after ↦ let high = greater-from (get_or rows k d).number n (parted.1 k d after within) in omega arith
    ]

-- after a push that may have been refused
pub NumbersRise-push_if : {T : Type 0} (ok : Bool) (rows : List (Row T)) (row : Row T) → NumbersRise rows → All (λ r. r.number < row.number) rows → NumbersRise (cond ok (rows ++ row ∷ []) rows)
NumbersRise-push_if true rows row rise below = NumbersRise-push rows row rise below
NumbersRise-push_if false rows row rise below = rise
