-- Lemmas on different numbers: n of them among n numbers are all of these.
use Rattle.std.proofs.Common.{◌≡◌, ◌≢◌, ◌⊎◌, ℕ, zero, suc, ◌+◌, ◌-◌, ◌<◌, ◌≤◌, ◌==◌, List, [], ◌∷◌, length, refl, subst, inl, inr, ⊎_elim, arith, All}
use Rattle.std.specs.Prelude.{AllPairs, sum_by}
use Rattle.std.specs.List.{Contains}
use Rattle.std.proofs.lemmas.List.Elements.{All-head, All-tail}
use Rattle.std.proofs.lemmas.List.Sums.{sum_by-cons}
use Rattle.ghost_log.proofs.Counting.{hit, hit_other, hit_same, hits}

-- the sum over the numbers below n
abbrev sum_below : (ℕ → ℕ) → ℕ → ℕ
sum_below f zero = 0
sum_below f (suc n) = sum_below f n + f n

none_below : (f : ℕ → ℕ) (n : ℕ) → ((i : ℕ) → f i ≡ 0) → sum_below f n ≡ 0
none_below f zero none = refl
none_below f (suc n) none = omega (arith, none_below f n none, none n)

both_below : (f g h : ℕ → ℕ) (n : ℕ) → ((i : ℕ) → h i ≡ f i + g i) → sum_below h n ≡ sum_below f n + sum_below g n
both_below f g h zero each = refl
both_below f g h (suc n) each = omega (arith, both_below f g h n each, each n)

-- a number from a on is hit once below a + n, if it is below that, and else not at all
hit_below : (a k n : ℕ) → a ≤ k → (a + n ≤ k → sum_below (λ i. hit (a + i) 1 k) n ≡ 0) × (k < a + n → sum_below (λ i. hit (a + i) 1 k) n ≡ 1)
hit_below a k zero from = ((λ _. refl), (λ lt. absurd (omega (arith, lt, from))))
hit_below a k (suc n) from =
    let before = hit_below a k n from in
    let other : a + n ≢ k → hit (a + n) 1 k ≡ 0 = hit_other (a + n) 1 k ((a + n) == k) refl in (
      (λ past. let none : sum_below (λ i. hit (a + i) 1 k) n ≡ 0 = before.0 (omega (arith, past)) in
          let here : hit (a + n) 1 k ≡ 0 = other (λ same. omega (arith, same, past)) in
          omega (arith, none, here)),
      (λ lt. ⊎_elim
          (λ (less : k < a + n). let one : sum_below (λ i. hit (a + i) 1 k) n ≡ 1 = before.1 less in
          let here : hit (a + n) 1 k ≡ 0 = other (λ same. omega (arith, same, less)) in
          omega (arith, one, here))
          (λ (last : a + n ≡ k). let none : sum_below (λ i. hit (a + i) 1 k) n ≡ 0 = before.0 (omega (arith, last)) in
          let here : hit (a + n) 1 k ≡ 1 = hit_same (a + n) 1 k ((a + n) == k) refl last in
          omega (arith, none, here))
          (less_or_last (a + n) k (omega (arith, lt)))),
    )
  where
    less_or_last : (m k : ℕ) → k < suc m → (k < m) ⊎ (m ≡ k)
    less_or_last zero zero lt = inr refl
    less_or_last zero (suc k) lt = absurd (omega (arith, lt))
    less_or_last (suc m) zero lt = inl (omega arith)
    less_or_last (suc m) (suc k) lt = ⊎_elim (λ less. inl (omega (arith, less))) (λ last. inr (omega (arith, last))) (less_or_last m k (omega (arith, lt)))

-- each of these numbers is hit once
all_hit : (a n : ℕ) (ks : List ℕ) → All (λ k. (a ≤ k) × (k < a + n)) ks → sum_below (λ i. sum_by (hit (a + i) 1) ks) n ≡ length ks
all_hit a n [] within = none_below (λ i. sum_by (hit (a + i) 1) []) n (λ i. refl)
all_hit a n (k ∷ ks) within =
    let here : (a ≤ k) × (k < a + n) = All-head (λ k. (a ≤ k) × (k < a + n)) k ks within in
    let one : sum_below (λ i. hit (a + i) 1 k) n ≡ 1 = (hit_below a k n here.0).1 here.1 in
    let rest : sum_below (λ i. sum_by (hit (a + i) 1) ks) n ≡ length ks = all_hit a n ks (All-tail (λ k. (a ≤ k) × (k < a + n)) k ks within) in
    let both = both_below (λ i. hit (a + i) 1 k) (λ i. sum_by (hit (a + i) 1) ks) (λ i. sum_by (hit (a + i) 1) (k ∷ ks)) n (λ i. sum_by-cons (hit (a + i) 1) k ks) in
    omega (arith, one, rest, both)

-- where n numbers of 0 and 1 add up to n, each is 1
few_below : (f : ℕ → ℕ) (n : ℕ) → ((i : ℕ) → f i ≤ 1) → sum_below f n ≤ n
few_below f zero few = omega arith
few_below f (suc n) few = omega (arith, few_below f n few, few n)

all_ones : (f : ℕ → ℕ) (n i : ℕ) → ((i : ℕ) → f i ≤ 1) → sum_below f n ≡ n → i < n → f i ≡ 1
all_ones f zero i few whole lt = absurd (omega (arith, lt))
all_ones f (suc n) i few whole lt =
    let rest : sum_below f n ≤ n = few_below f n few in
    let last : f n ≤ 1 = few n in
    ⊎_elim
    (λ (less : i < n). all_ones f n i few (omega (arith, rest, last, whole)) less)
    (λ (same : n ≡ i). subst (λ m. f m ≡ 1) same (omega (arith, rest, last, whole)))
    (less_or_same n i lt)
  where
    less_or_same : (m k : ℕ) → k < suc m → (k < m) ⊎ (m ≡ k)
    less_or_same zero zero lt = inr refl
    less_or_same zero (suc k) lt = absurd (omega (arith, lt))
    less_or_same (suc m) zero lt = inl (omega arith)
    less_or_same (suc m) (suc k) lt = ⊎_elim (λ less. inl (omega (arith, less))) (λ last. inr (omega (arith, last))) (less_or_same m k (omega (arith, lt)))

-- n different numbers from a on and below a + n are all of these
pub all_numbers : (a n : ℕ) (ks : List ℕ) → AllPairs (λ i j. i ≢ j) ks → All (λ k. (a ≤ k) × (k < a + n)) ks → length ks ≡ n → (m : ℕ) → a ≤ m → m < a + n → Contains ks m
all_numbers a n ks apart within count m from below =
    let few : (i : ℕ) → sum_by (hit (a + i) 1) ks ≤ 1 = λ i. ⊎_elim (λ none. omega (arith, none)) (λ one. let h = one.0 in omega (arith, h)) (hits (a + i) 1 ks apart) in
    let whole : sum_below (λ i. sum_by (hit (a + i) 1) ks) n ≡ n = omega (arith, all_hit a n ks within, count) in
    let at : a + (m - a) ≡ m = omega (arith, from) in
    let one : sum_by (hit (a + (m - a)) 1) ks ≡ 1 = all_ones (λ i. sum_by (hit (a + i) 1) ks) n (m - a) few whole (omega (arith, from, below)) in
    subst (Contains ks) at
    (⊎_elim (λ none. absurd (omega (arith, none, one))) (λ has. has.1) (hits (a + (m - a)) 1 ks apart))
