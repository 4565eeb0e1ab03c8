-- Bits of a mask.
use Rattle.std.proofs.Common.{◌≡◌, ◌≢◌, ℕ, ◌<◌, ◌≤◌, ◌^◌, ◌-◌, ◌*◌, ◌%◌, ◌==◌, refl, true, false, arith, inl, inr, ◌⊎◌, ◌∙◌, bit_and, bit_xor, add-zero}
use Rattle.std.specs.Int.{bit_at}
use Rattle.std.proofs.lemmas.Bool.Decides.{nat_tests}
use Rattle.std.proofs.lemmas.Nat.Bits.{bit_at_above, bit_at-lt, and_pow, bit_at_xor, bit_at-pow_same, bit_at-pow_other}
use Rattle.std.proofs.lemmas.Bool.{cases_lt}
use Rattle.std.specs.Int.Bits.{xor_add_and}
use Rattle.std.proofs.Math.Pow.{pow-lt}
use Rattle.std.proofs.Math.Nat.{one-mul, mod-eq_of_lt}
use Rattle.row_store.specs.inner.Rows.{without}

-- a bit that is set lies within the width
pub within_width : (mask d w : ℕ) → mask < 2 ^ w → (bit_at mask d == 1) ≡ true → d < w
within_width mask d w fits set = elim (cases_lt d w) [ inl below ↦ below | inr above ↦ absurd (let clear = bit_at_above mask w d fits above in grind (arith, nat_tests)) ]

-- beyond the width no bit is set
pub beyond_width : (mask d : ℕ) → mask < 2 ^ 32 → 32 ≤ d → (bit_at mask d == 1) ≡ false
beyond_width mask d fits beyond = let clear = bit_at_above mask 32 d fits beyond in grind (arith, nat_tests)

-- to clear a bit that is set takes its power away
pub without-set : (mask d : ℕ) → mask < 2 ^ 32 → (bit_at mask d == 1) ≡ true → without d mask ≡ mask - 1 * 2 ^ d % 4294967296
without-set mask d fits set = rw (set, one-mul (2 ^ d), mod-eq_of_lt (pow-lt (within_width mask d 32 fits set))) refl

-- a bit is 0 or 1
bit_cases : (mask d : ℕ) → (bit_at mask d ≡ 0) ⊎ (bit_at mask d ≡ 1)
bit_cases mask d = elim (cases_lt (bit_at mask d) 1)
    [ inl low ↦ inl (omega arith) | inr high ↦ inr (let small = bit_at-lt mask d in omega arith) ]

without-as_xor : (mask d : ℕ) → bit_at mask d ≡ 1 → mask - 2 ^ d ≡ bit_xor mask (2 ^ d)
without-as_xor mask d set =
    let both : bit_and mask (2 ^ d) ≡ 2 ^ d = and_pow mask d ∙ (rw set (one-mul (2 ^ d))) in
    let total = xor_add_and mask (2 ^ d) in
    omega arith

pub bit_at-without_same : (mask d : ℕ) → bit_at (without d mask) d ≡ 0
bit_at-without_same mask d = elim (bit_cases mask d) [
  | inl clear ↦ (rw clear clear)
  | inr set ↦ (let cleared : bit_at (bit_xor mask (2 ^ d)) d ≡ 0 = bit_at_xor mask (2 ^ d) d ∙ rw (set, bit_at-pow_same d) refl in
      rw (set, without-as_xor mask d set) cleared)
]

pub bit_at-without_other : (mask d e : ℕ) → e ≢ d → bit_at (without d mask) e ≡ bit_at mask e
bit_at-without_other mask d e other = elim (bit_cases mask d) [
  | inl clear ↦ rw clear refl
  | inr set ↦ (let kept : bit_at (bit_xor mask (2 ^ d)) e ≡ bit_at mask e = bit_at_xor mask (2 ^ d) e ∙ rw (bit_at-pow_other d e other, add-zero (bit_at mask e)) (mod-eq_of_lt (bit_at-lt mask e)) in
      rw (set, without-as_xor mask d set) kept)
]
