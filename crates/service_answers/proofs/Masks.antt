-- A mask whose bits are set one after another.
use Rattle.std.proofs.Common.{◌≡◌, ◌≢◌, ◌==◌, ℕ, ◌+◌, ◌*◌, ◌%◌, ◌^◌, ◌<◌, ◌≤◌, Bool, true, false, ap, bit_or, w32, sym, ◌∙◌, inl, inr, arith, subst}
use Rattle.std.specs.Int.{bit_at}
use Rattle.std.proofs.lemmas.Nat.Bits.{bit_at-zero, bit_at_set_same, bit_at_set_other}
use Rattle.event_log.proofs.OneMore.{lt-tells}

-- a bit that is set, and the others
pub set_here : (mask d : ℕ) (is_set : Bool) → d < 32 → is_set ≡ true
    → (bit_at (bit_or mask (1 * 2 ^ d % 2 ^ 32)) d == 1) ≡ is_set
set_here mask d is_set within is = ap (λ b. b == 1) (bit_at_set_same w32 mask d within) ∙ sym is

pub set_others : (mask d : ℕ) → d < 32 → (c : ℕ) → c ≢ d
    → bit_at (bit_or mask (1 * 2 ^ d % 2 ^ 32)) c ≡ bit_at mask c
set_others mask d within c other = bit_at_set_other w32 mask d within c other

-- the bits below n are those of a function, and no other is set
pub record IsMask (f : ℕ → Bool) (n mask : ℕ) : Type 0 where
  pub below : (c : ℕ) → c < n → (bit_at mask c == 1) ≡ f c
  pub above : (c : ℕ) → n ≤ c → bit_at mask c ≡ 0

pub mask_none : (f : ℕ → Bool) → IsMask f 0 0
mask_none f = record { below = λ c less. absurd (omega (arith, less)); above = λ c _. bit_at-zero c }

pub mask_more : (f : ℕ → Bool) (n mask more : ℕ) → (bit_at mask n ≡ 0 → (bit_at more n == 1) ≡ f n)
    → ((c : ℕ) → c ≢ n → bit_at more c ≡ bit_at mask c) → IsMask f n mask → IsMask f (n + 1) more
mask_more f n mask more here others is = record {
  below = λ c less. elim (lt-tells c n) [
    | inl w ↦ ap (λ b. b == 1) (others c (λ same. omega (arith, same, w.1))) ∙ is.below c w.1
    | inr w ↦
        let past = w.1 in
        let same : n ≡ c = omega (arith, less, past) in
        subst (λ k. (bit_at more k == 1) ≡ f k) same (here (is.above n (omega arith)))
  ];
  above = λ c past. others c (λ same. omega (arith, same, past)) ∙ is.above c (omega (arith, past));
}

-- a mask with the bit of each destination is right at each
pub mask_below : (f : ℕ → Bool) (n mask : ℕ) → IsMask f n mask → n ≡ 32
    → (c : ℕ) → c < 32 → (bit_at mask c == 1) ≡ f c
mask_below f n mask is all c less = is.below c (subst (λ k. c < k) (sym all) less)
