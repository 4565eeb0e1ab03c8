-- What the bits of 64 compared bytes say.
use Rattle.std.proofs.Common.{◌≡◌, ℕ, ◌+◌, ◌<◌, ◌≤◌, ◌==◌, not, List, length, take, drop, map, get_or, min, sym, subst, arith, ◌⊎◌, inl, inr, ⊎_elim}
use Rattle.std.proofs.lemmas.Bool.{cases_lt, or_cases, or_left, or_right}
use Rattle.std.proofs.lemmas.Simd.{none_from_empty_mask, length-chunk, trailing_mask_l, run_in_chunk_fails, run_in_chunk_stops, run_in_chunk_le}
use Rattle.std.specs.Int.Count.{count_trailing_zeros}
use Rattle.std.specs.List.{prefix_len}
use Rattle.std.specs.Simd.Lanes.{mask_l}
use Rattle.memchr.specs.Find.{Passes, Nowhere, NoneBefore, is_byte, is_byte2}

module _ (byte : ℕ) (piece : List ℕ) (at : ℕ) (fits : at + 64 ≤ length piece) where
  abbrev bits : ℕ
  bits = mask_l (map (is_byte byte) (take 64 (drop at piece)))

  pub nowhere_among : bits ≡ 0 → Nowhere (Passes (is_byte byte) piece) at (at + 64)
  nowhere_among none k low high here = cc (none_from_empty_mask (is_byte byte) piece at 64 0 fits none k low high, here)

  counted : 0 < bits → count_trailing_zeros 64 bits ≡ prefix_len (λ x. not (is_byte byte x)) (take 64 (drop at piece))
  counted some = trailing_mask_l (is_byte byte) 64 (take 64 (drop at piece)) (omega (arith, length-chunk at 64 piece fits)) some

  pub few_before : 0 < bits → count_trailing_zeros 64 bits ≤ 64
  few_before some = run_in_chunk_le (is_byte byte) piece at 64 (count_trailing_zeros 64 bits) 0 fits (counted some)

  pub none_before : 0 < bits → Nowhere (Passes (is_byte byte) piece) at (at + count_trailing_zeros 64 bits)
  none_before some k low high here =
      cc (run_in_chunk_fails (is_byte byte) piece at 64 (count_trailing_zeros 64 bits) 0 fits (counted some) k low high, here)

  pub one_behind : 0 < bits → count_trailing_zeros 64 bits < 64 → Passes (is_byte byte) piece (at + count_trailing_zeros 64 bits)
  one_behind some few = run_in_chunk_stops (is_byte byte) piece at 64 (count_trailing_zeros 64 bits) 0 fits (counted some) few

-- Of two bytes, one that is m bytes behind an index at the earliest, and one that is n bytes behind it at the earliest.
module _ (a b : ℕ) (piece : List ℕ) (at m n : ℕ) (none_a : Nowhere (Passes (is_byte a) piece) at (at + m)) (none_b : Nowhere (Passes (is_byte b) piece) at (at + n)) where
  pub neither : (k : ℕ) → k ≤ m → k ≤ n → Nowhere (Passes (is_byte2 a b) piece) at (at + k)
  neither k one two i low high here = ⊎_elim (none_a i low (omega arith)) (none_b i low (omega arith)) (or_cases (get_or piece i 0 == a) (get_or piece i 0 == b) here)

  here_of : (k : ℕ) → ((k ≡ m) ⊎ (k ≡ n)) → (k ≡ m → Passes (is_byte a) piece (at + k)) → (k ≡ n → Passes (is_byte b) piece (at + k)) → Passes (is_byte2 a b) piece (at + k)
  here_of k which at_a at_b =
      ⊎_elim (λ e. or_left (get_or piece (at + k) 0 == a) (get_or piece (at + k) 0 == b) (at_a e))
      (λ e. or_right (get_or piece (at + k) 0 == a) (get_or piece (at + k) 0 == b) (at_b e)) which

  min_is : (min m n ≡ m) ⊎ (min m n ≡ n)
  min_is = elim (cases_lt m n) [ inl lt ↦ inl (omega arith) | inr ge ↦ inr (omega arith) ]

  pub first_of_two : min m n < 64 → (m < 64 → Passes (is_byte a) piece (at + m)) → (n < 64 → Passes (is_byte b) piece (at + n))
      → NoneBefore (Passes (is_byte2 a b) piece) at (at + 64) (at + min m n) × Passes (is_byte2 a b) piece (at + min m n)
  first_of_two few at_a at_b = (
    record { low = omega arith; high = omega arith; before = neither (min m n) (omega arith) (omega arith) },
    here_of (min m n) min_is (λ e. subst (λ k. Passes (is_byte a) piece (at + k)) (sym e) (at_a (omega arith)))
        (λ e. subst (λ k. Passes (is_byte b) piece (at + k)) (sym e) (at_b (omega arith))),
  )
