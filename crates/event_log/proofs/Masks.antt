-- Masks by a test of their bits.
use Rattle.std.proofs.Common.{◌≡◌, ℕ, ◌+◌, ◌-◌, ◌*◌, ◌^◌, ◌<◌, ◌≤◌, Bool, true, false, ◌==◌, inl, inr, [], ◌∷◌, ◌++◌, refl, ◌∙◌, ap, subst, arith, suc, zero, add-zero, add-one, zero-add, pow-suc}
use Rattle.std.specs.Prelude.{sum_by, if◌then◌else◌}
use Rattle.std.specs.List.{range_with_len}
use Rattle.std.specs.Int.{bit_at}
use Rattle.std.proofs.lemmas.Bool.{cases_lt}
use Rattle.std.proofs.lemmas.Bool.Decides.{nat_tests}
use Rattle.std.proofs.lemmas.List.Sums.{sum_by_push}
use Rattle.std.proofs.lemmas.Nat.Bits.{bit_at-zero, bit_at_above, bit_at_cat_low, bit_at_cat_high}
use Rattle.event_log.specs.Answers.{mask_where}

-- the numbers from a on and one more
range-push_from : (a n : ℕ) → range_with_len a (suc n) ≡ range_with_len a n ++ (a + n) ∷ []
range-push_from a zero = rw (add-zero a) refl
range-push_from a (suc n) =
    let next : a + 1 + n ≡ a + suc n = omega arith in
    ap (λ ks. a ∷ ks) (range-push_from (a + 1) n ∙ rw next refl)

-- the numbers below n and n
pub range-push : (n : ℕ) → range_with_len 0 (n + 1) ≡ range_with_len 0 n ++ n ∷ []
range-push n = rw (add-one n) (range-push_from 0 n ∙ rw (zero-add n) refl)

-- the mask of the destinations below k that a test names
abbrev pub mask_below : ℕ → (ℕ → Bool) → ℕ
mask_below k test = sum_by (λ d. if test d then 2 ^ d else 0) (range_with_len 0 k)

-- one more destination adds its bit
pub mask_below-more : (k : ℕ) (test : ℕ → Bool) → mask_below (k + 1) test ≡ mask_below k test + (if test k then 2 ^ k else 0)
mask_below-more k test = ap (sum_by (λ d. if test d then 2 ^ d else 0)) (range-push k) ∙ sum_by_push (λ d. if test d then 2 ^ d else 0) (range_with_len 0 k) k

-- a mask below bit k, with bit k or without, is below bit k + 1
added-below : (b : Bool) (mask k : ℕ) → mask < 2 ^ k → mask + (if b then 2 ^ k else 0) < 2 ^ (k + 1)
added-below true mask k fits = rw add-one (omega (arith, pow-suc 2 k))
added-below false mask k fits = rw add-one (omega (arith, pow-suc 2 k))

-- its bit k
added-bit : (b : Bool) (mask k : ℕ) → mask < 2 ^ k → (bit_at (mask + (if b then 2 ^ k else 0)) k == 1) ≡ b
added-bit true mask k fits =
    let split : mask + 2 ^ k ≡ 1 * 2 ^ k + mask = omega arith in
    let own : k - k ≡ 0 = omega arith in
    let is : bit_at (mask + 2 ^ k) k ≡ 1 = ap (λ x. bit_at x k) split ∙ bit_at_cat_high 1 k mask k fits (omega arith) ∙ ap (bit_at 1) own in
    grind (arith, nat_tests)
added-bit false mask k fits =
    let is : bit_at (mask + 0) k ≡ 0 = ap (λ x. bit_at x k) (add-zero mask) ∙ bit_at_above mask k k fits (omega arith) in
    grind (arith, nat_tests)

-- its bits below k are as before
added-other : (b : Bool) (mask k d : ℕ) → d < k → bit_at (mask + (if b then 2 ^ k else 0)) d ≡ bit_at mask d
added-other true mask k d below =
    let split : mask + 2 ^ k ≡ 1 * 2 ^ k + mask = omega arith in
    ap (λ x. bit_at x d) split ∙ bit_at_cat_low 1 k mask d below
added-other false mask k d below = ap (λ x. bit_at x d) (add-zero mask)

-- a mask of k bits is below 2 ^ k
pub mask_below-below : (k : ℕ) (test : ℕ → Bool) → mask_below k test < 2 ^ k
mask_below-below zero test = omega arith
mask_below-below (suc k) test =
    let so_far = mask_below-below k test in
    subst (λ n. mask_below n test < 2 ^ n) (add-one k) (rw (mask_below-more k test) (added-below (test k) (mask_below k test) k so_far))

-- the bits of a mask of k bits are as the test says
pub mask_below-bits : (k : ℕ) (test : ℕ → Bool) (d : ℕ) → d < k → (bit_at (mask_below k test) d == 1) ≡ test d
mask_below-bits zero test d below = absurd (omega arith)
mask_below-bits (suc k) test d below =
    subst (λ n. (bit_at (mask_below n test) d == 1) ≡ test d) (add-one k) (rw (mask_below-more k test) (elim (cases_lt d k) [
      | inl lower ↦ ap (λ x. x == 1) (added-other (test k) (mask_below k test) k d lower) ∙ mask_below-bits k test d lower
      | inr upper ↦ let same : d ≡ k = omega arith in rw same (added-bit (test k) (mask_below k test) k (mask_below-below k test))
    ]))

-- a mask has 32 bits
pub mask_where-below : (test : ℕ → Bool) → mask_where test < 2 ^ 32
unfolding mask_where
mask_where-below test = mask_below-below 32 test

-- the bits of a mask are as its test says
pub mask_where-bits : (test : ℕ → Bool) (d : ℕ) → d < 32 → (bit_at (mask_where test) d == 1) ≡ test d
unfolding mask_where
mask_where-bits test d below = mask_below-bits 32 test d below

-- no bit from 32 on is set
pub mask_where-beyond : (test : ℕ → Bool) (d : ℕ) → 32 ≤ d → (bit_at (mask_where test) d == 1) ≡ false
mask_where-beyond test d beyond = let clear = bit_at_above (mask_where test) 32 d (mask_where-below test) beyond in grind (arith, nat_tests)

-- an empty mask names none
pub mask_where-zero : (test : ℕ → Bool) → mask_where test ≡ 0 → (d : ℕ) → d < 32 → test d ≡ false
mask_where-zero test none d below =
    let clear : bit_at (mask_where test) d ≡ 0 = ap (λ x. bit_at x d) none ∙ bit_at-zero d in
    let bits = mask_where-bits test d below in grind (arith, nat_tests)
