-- A mask that is made bit by bit.
use Rattle.std.proofs.Common.{◌≡◌, ◌≢◌, ℕ, ◌+◌, ◌*◌, ◌%◌, ◌^◌, ◌<◌, ◌≤◌, Bool, true, false, ◌==◌, ◌&&◌, nat_lt, inl, inr, refl, sym, ◌∙◌, ap, arith, bit_or, w32}
use Rattle.std.specs.Int.{bit_at}
use Rattle.std.proofs.lemmas.Bool.Decides.{eqb_tells, nat_tests}
use Rattle.std.proofs.lemmas.Nat.Bits.{bit_at-zero, bit_at_set_other, bit_at_set_same}
use Rattle.event_log.proofs.OneMore.{lt-tells}

-- the bits below d are set where a test passes, and no others
abbrev pub HasBelow : (ℕ → Bool) → ℕ → ℕ → Type 0
HasBelow test d mask = (e : ℕ) → e < 32 → (bit_at mask e == 1) ≡ (nat_lt e d && test e)

-- a number that isn't d is below d + 1 where it is below d
below-next : (e d : ℕ) → e ≢ d → nat_lt e (d + 1) ≡ nat_lt e d
below-next e d apart = elim (lt-tells e d) [
  | inl w ↦ let less = w.1 in let yes : nat_lt e (d + 1) ≡ true = grind (arith, nat_tests) in yes ∙ sym w.0
  | inr w ↦ let from = w.1 in let no : nat_lt e (d + 1) ≡ false = grind (arith, nat_tests) in no ∙ sym w.0
]

here-next : (d : ℕ) → nat_lt d (d + 1) ≡ true
here-next d = grind (arith, nat_tests)

pub bits-none : (test : ℕ → Bool) → HasBelow test 0 0
bits-none test e below =
    let none : nat_lt e 0 ≡ false = grind (arith, nat_tests) in
    ap (λ (b : ℕ). b == 1) (bit_at-zero e) ∙ sym (ap (λ b. b && test e) none)

module _ (test : ℕ → Bool) (d mask : ℕ) (inside : d < 32) (so_far : HasBelow test d mask) where
  pub bits-more : test d ≡ true → HasBelow test (d + 1) (bit_or mask (1 * 2 ^ d % 2 ^ 32))
  bits-more passes e below = elim (eqb_tells e d) [
    | inl w ↦
        ap (λ k. bit_at (bit_or mask (1 * 2 ^ d % 2 ^ 32)) k == 1) w.1
        ∙ (ap (λ (b : ℕ). b == 1) (bit_at_set_same w32 mask d inside)
        ∙ sym (ap (λ k. nat_lt k (d + 1) && test k) w.1 ∙ rw (here-next d, passes) refl))
    | inr w ↦
        ap (λ (b : ℕ). b == 1) (bit_at_set_other w32 mask d inside e w.1)
        ∙ (so_far e below ∙ sym (ap (λ b. b && test e) (below-next e d w.1)))
  ]

  pub bits-same : test d ≡ false → HasBelow test (d + 1) mask
  bits-same fails e below = elim (eqb_tells e d) [
    | inl w ↦
        so_far e below
        ∙ (ap (λ k. nat_lt k d && test k) w.1
        ∙ (ap (λ t. nat_lt d d && t) fails
        ∙ (neither (nat_lt d d) (nat_lt d (d + 1)) ∙ sym (ap (λ k. nat_lt k (d + 1) && test k) w.1 ∙ ap (λ t. nat_lt d (d + 1) && t) fails))))
    | inr w ↦ so_far e below ∙ sym (ap (λ b. b && test e) (below-next e d w.1))
  ]
    where
      neither : (a b : Bool) → (a && false) ≡ (b && false)
      neither true true = refl
      neither true false = refl
      neither false true = refl
      neither false false = refl

pub bits-all : (test : ℕ → Bool) (d mask : ℕ) → 32 ≤ d → HasBelow test d mask → (e : ℕ) → e < 32 → (bit_at mask e == 1) ≡ test e
bits-all test d mask whole has e below =
    let inside : nat_lt e d ≡ true = grind (arith, nat_tests) in
    has e below ∙ ap (λ b. b && test e) inside
