-- The rows of the messages that are forgotten, and the first that stays.
use Rattle.std.proofs.Common.{◌≡◌, ℕ, ◌+◌, ◌-◌, ◌<◌, ◌≤◌, inl, inr, Bool, true, false, cond, not, ◌&&◌, ◌==◌, nat_lt, List, [], ◌∷◌, length, refl, sym, ap, subst, arith, suc, zero}
use Rattle.std.specs.Prelude.{All, filter, is_some}
use Rattle.std.specs.List.{AllByRecursion, range_with_len}
use Rattle.std.proofs.lemmas.Bool.Decides.{eqb_tells, nat_tests}
use Rattle.std.proofs.lemmas.List.Elements.{All-from_recursion, recursion_from_All}
use Rattle.std.proofs.lemmas.List.FromFn.{length-range_with_len}
use Rattle.std.proofs.lemmas.List.Sums.{count_by-le-length, length-filter}
use Rattle.row_store.specs.declared.Row.{Row}
use Rattle.row_store.specs.Rows.{row_numbers as numbers_of}
use Rattle.row_store.specs.inner.Rows.{removed}
use Rattle.dest_queue.specs.declared.slots.Queued.{Queued}
use Rattle.event_log.specs.History.{History, message_at, message_count}
use Rattle.event_log.specs.inner.Legal.{IsSound}
use Rattle.event_log.proofs.Forgetting.{in-turn}
use Rattle.event_log.proofs.OneMore.{lt-tells}
use Rattle.book_core.specs.declared.letter.Outbound.{Outbound}
use Rattle.book_core.specs.inner.Parts.{RowsAgree}

-- ---- rows dropped number by number

-- a number past the next is past this one, and is another
past-next : (k n : ℕ) → not (nat_lt k (n + 1)) ≡ (not (nat_lt k n) && not (k == n))
past-next k n = elim (lt-tells k n) [
  | inl w ↦ let less = w.1 in let yes : nat_lt k (n + 1) ≡ true = grind (arith, nat_tests) in rw (w.0, yes) refl
  | inr w ↦ elim (eqb_tells k n) [
    | inl v ↦ let same = v.1 in let yes : nat_lt k (n + 1) ≡ true = grind (arith, nat_tests) in rw (w.0, v.0, yes) refl
    | inr v ↦ let from = w.1 in let apart = v.1 in let no : nat_lt k (n + 1) ≡ false = grind (arith, nat_tests) in rw (w.0, v.0, no) refl
  ]
]

-- one number more is dropped
pub dropped-next : {T : Type 0} (n : ℕ) (rows : List (Row T))
    → removed n (filter (λ row. not (nat_lt row.number n)) rows) ≡ filter (λ row. not (nat_lt row.number (n + 1))) rows
dropped-next n [] = refl
dropped-next {T} n (row ∷ rows) = by (not (nat_lt row.number n)) (not (row.number == n)) (not (nat_lt row.number (n + 1)))
    (past-next row.number n) refl (dropped-next n rows)
  where
    by : (b c d : Bool) → d ≡ (b && c) → not (row.number == n) ≡ c
        → removed n (filter (λ row. not (nat_lt row.number n)) rows) ≡ filter (λ row. not (nat_lt row.number (n + 1))) rows
        → removed n (cond b (row ∷ filter (λ row. not (nat_lt row.number n)) rows) (filter (λ row. not (nat_lt row.number n)) rows))
        ≡ cond d (row ∷ filter (λ row. not (nat_lt row.number (n + 1))) rows) (filter (λ row. not (nat_lt row.number (n + 1))) rows)
    by true true d is passes rest = rw (is, passes) (ap (λ xs. row ∷ xs) rest)
    by true false d is passes rest = rw (is, passes) rest
    by false c d is passes rest = rw is rest

-- none is dropped where none is below
none-below : {T : Type 0} (n : ℕ) (rows : List (Row T)) → AllByRecursion (λ row. n ≤ row.number) rows
    → rows ≡ filter (λ row. not (nat_lt row.number n)) rows
none-below n [] all = refl
none-below n (row ∷ rows) all =
    let from = all.0 in
    let no : nat_lt row.number n ≡ false = grind (arith, nat_tests) in
    rw no (ap (λ xs. row ∷ xs) (none-below n rows all.1))

pub none-dropped : {T : Type 0} (first n : ℕ) (rows : List (Row T)) → n ≤ first → All (λ row. first ≤ row.number) rows
    → rows ≡ filter (λ row. not (nat_lt row.number n)) rows
none-dropped {T} first n rows less all = none-below n rows (lower rows (recursion_from_All (λ (row : Row T). first ≤ row.number) rows all))
  where
    lower : (rows : List (Row T)) → AllByRecursion (λ row. first ≤ row.number) rows → AllByRecursion (λ row. n ≤ row.number) rows
    lower [] all = tt
    lower (row ∷ rows) all = let from = all.0 in (omega arith, lower rows all.1)

-- ---- the first that stays

-- all of a range passes
pub filter-whole : (p : ℕ → Bool) (a k : ℕ) → ((m : ℕ) → a ≤ m → m < a + k → p m ≡ true) → filter p (range_with_len a k) ≡ range_with_len a k
filter-whole p a zero each = refl
filter-whole p a (suc k) each =
    let here = each a (omega arith) (omega arith) in
    let rest = filter-whole p (a + 1) k (λ m low high. each m (omega arith) (omega arith)) in rw here (ap (λ ns. a ∷ ns) rest)

range-from : (low a k : ℕ) → low ≤ a → AllByRecursion (λ n. low ≤ n) (range_with_len a k)
range-from low a zero less = tt
range-from low a (suc k) less = (less, range-from low (a + 1) k (omega arith))

-- where each number past one that passes does too, those that pass are the last ones
last-ones : (p : ℕ → Bool) (a k : ℕ) → ((n m : ℕ) → n ≤ m → m < a + k → p n ≡ true → p m ≡ true)
    → AllByRecursion (λ n. (a + k) - length (filter p (range_with_len a k)) ≤ n) (filter p (range_with_len a k))
last-ones p a zero turn = tt
last-ones p a (suc k) turn = by (p a) refl (λ fewer. last-ones p (a + 1) k fewer)
  where
    by : (b : Bool) → p a ≡ b
        → (((n m : ℕ) → n ≤ m → m < (a + 1) + k → p n ≡ true → p m ≡ true)
        → AllByRecursion (λ n. ((a + 1) + k) - length (filter p (range_with_len (a + 1) k)) ≤ n) (filter p (range_with_len (a + 1) k)))
        → AllByRecursion (λ n. (a + suc k) - length (filter p (range_with_len a (suc k))) ≤ n) (filter p (range_with_len a (suc k)))
    by true is rest =
        let whole : filter p (range_with_len a (suc k)) ≡ range_with_len a (suc k) = filter-whole p a (suc k) (λ m low high. turn a m low high is) in
        let many : length (range_with_len a (suc k)) ≡ suc k = length-range_with_len a (suc k) in
        let lowest : (a + suc k) - suc k ≤ a = omega arith in
        subst (λ ns. AllByRecursion (λ n. (a + suc k) - length ns ≤ n) ns) (sym whole)
        (subst (λ l. AllByRecursion (λ n. (a + suc k) - l ≤ n) (range_with_len a (suc k))) (sym many)
        (range-from ((a + suc k) - suc k) a (suc k) lowest))
    by false is rest =
        let next : (a + 1) + k ≡ a + suc k = omega arith in
        let same : filter p (range_with_len (a + 1) k) ≡ filter p (range_with_len a (suc k)) = rw is refl in
        subst (λ ns. AllByRecursion (λ n. (a + suc k) - length ns ≤ n) ns) same
        (subst (λ e. AllByRecursion (λ n. e - length (filter p (range_with_len (a + 1) k)) ≤ n) (filter p (range_with_len (a + 1) k))) next
        (rest (λ n m less below passes. turn n m less (omega arith) passes)))

pub length-numbers : {T : Type 0} (rows : List (Row T)) → length (numbers_of rows) ≡ length rows
length-numbers [] = refl
length-numbers (row ∷ rows) = ap suc (length-numbers rows)

from-numbers : {T : Type 0} (low : ℕ) (rows : List (Row T)) → AllByRecursion (λ n. low ≤ n) (numbers_of rows)
    → AllByRecursion (λ row. low ≤ row.number) rows
from-numbers low [] all = tt
from-numbers low (row ∷ rows) all = (all.0, from-numbers low rows all.1)

module _ (h : History) (rows : List (Row (Queued Outbound))) (agree : RowsAgree h rows) where
  -- there are as many rows as messages that aren't forgotten
  pub rows-few : length rows ≤ message_count h
  rows-few =
      let p : ℕ → Bool = λ n. is_some (message_at h n) in
      omega (
        arith,
        length-numbers rows,
        ap length agree.each_once,
        length-filter p (range_with_len 0 (message_count h)),
        count_by-le-length p (range_with_len 0 (message_count h)),
        length-range_with_len 0 (message_count h),
      )

  -- and none is below the first of them
  pub rows-last : IsSound h → All (λ row. message_count h - length rows ≤ row.number) rows
  rows-last sound =
      All-from_recursion (λ (row : Row (Queued Outbound)). message_count h - length rows ≤ row.number) rows
      (from-numbers (message_count h - length rows) rows numbered)
    where
      turn : (n m : ℕ) → n ≤ m → m < 0 + message_count h → is_some (message_at h n) ≡ true → is_some (message_at h m) ≡ true
      turn n m less below there = in-turn h sound n m less (omega arith) there

      start : 0 + message_count h ≡ message_count h
      start = omega arith

      numbered : AllByRecursion (λ n. message_count h - length rows ≤ n) (numbers_of rows)
      numbered =
          subst (λ l. AllByRecursion (λ n. message_count h - l ≤ n) (numbers_of rows)) (length-numbers rows)
          (subst (λ e. AllByRecursion (λ n. e - length (numbers_of rows) ≤ n) (numbers_of rows)) start
          (subst (λ ns. AllByRecursion (λ n. (0 + message_count h) - length ns ≤ n) ns) (sym agree.each_once)
          (last-ones (λ n. is_some (message_at h n)) 0 (message_count h) turn)))
