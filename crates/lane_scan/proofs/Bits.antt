-- The bits that say where a byte stands, shifted and searched.
use Rattle.std.proofs.Common.{◌≡◌, ℕ, zero, suc, ◌+◌, ◌-◌, ◌*◌, ◌/◌, ◌%◌, ◌^◌, ◌<◌, ◌≤◌, Bool, true, false, not, cond, nat_eq, List, [], ◌∷◌, length, get_or, map, take, drop, refl, sym, ap, ◌∙◌, subst, arith}
use Rattle.std.specs.Simd.Lanes.{mask_l}
use Rattle.std.specs.Int.Count.{count_trailing_zeros}
use Rattle.std.specs.List.{prefix_len}
use Rattle.std.proofs.lemmas.List.{drop-take, drop-map, drop-drop, length-map}
use Rattle.std.proofs.Common.{add-one, drop-cons}
use lib.Pow.{pow_mono}
use mir.Val.{bool_byte}
use Rattle.std.proofs.Common.{inl, inr}
use Rattle.std.specs.Prelude.{slice_index}
use Rattle.std.proofs.lemmas.Bool.{cases_lt}
use Rattle.std.proofs.lemmas.Simd.{length-chunk, none_from_empty_mask, trailing_mask_l, mask_l-lt, run_in_chunk_le, run_in_chunk_fails, run_in_chunk_stops}
use Rattle.std.proofs.Math.Nat.{div-one}
use native.Mathlib.Nat.{div-div-eq-div-mul}
use native.Mathlib.Numerals.{unary_clauses}
use Rattle.lane_scan.specs.inner.Scan.{AreAhead, IsNext, IsNowhere, bits_of, piece}

half : (b : Bool) (n : ℕ) → (cond b 1 0 + 2 * n) / 2 ≡ n
half true n = omega arith
half false n = omega arith

none_drop : (k : ℕ) → drop {A = Bool} k [] ≡ []
none_drop zero = refl
none_drop (suc k) = refl

two_times : (k : ℕ) → 2 ^ suc k ≡ 2 * 2 ^ k
two_times k = simp unary_clauses (omega arith)

pub mask_drop : (k : ℕ) (ms : List Bool) → mask_l ms / 2 ^ k ≡ mask_l (drop k ms)
mask_drop zero ms = div-one (mask_l ms)
mask_drop (suc k) [] = omega arith
mask_drop (suc k) (b ∷ bs) =
    let e : mask_l (b ∷ bs) / 2 ^ suc k ≡ mask_l (b ∷ bs) / 2 / 2 ^ k = ap (λ d. mask_l (b ∷ bs) / d) (two_times k) ∙ sym (div-div-eq-div-mul (mask_l (b ∷ bs)) 2 (2 ^ k)) in
    e ∙ ap (λ n. n / 2 ^ k) (half b (mask_l bs)) ∙ mask_drop k bs

-- the bits of a piece without its first bytes
pub bits_shifted : (byte at n k : ℕ) (text : List ℕ) → k ≤ n → bits_of byte (piece at n text) / 2 ^ k ≡ bits_of byte (piece (at + k) (n - k) text)
bits_shifted byte at n k text le =
    let split : k + (n - k) ≡ n = omega arith in
    mask_drop k (map (λ x. nat_eq x byte) (take n (drop at text)))
    ∙ ap mask_l (drop-map (λ x. nat_eq x byte) k (take n (drop at text))
    ∙ ap (map (λ x. nat_eq x byte)) (ap (λ m. drop k (take m (drop at text))) (sym split) ∙ drop-take k (n - k) (drop at text) ∙ ap (take (n - k)) (drop-drop k at text)))

-- where no bit is set the byte stands nowhere
pub empty-nowhere : (byte at end bits : ℕ) (text : List ℕ) → AreAhead byte text at end bits → bits ≡ 0 → IsNowhere byte text at end
empty-nowhere byte at end bits text are none k low high =
    none_from_empty_mask (λ x. nat_eq x byte) text at (end - at) 0 (let o = are.ordered in let w = are.within in omega arith) (sym are.said ∙ none) k low (let o = are.ordered in omega arith)

a_lane : (b : Bool) (m r n : ℕ) → 0 < cond b 1 0 + 2 * m → (0 < m → r < n) → cond (not b) (1 + r) 0 < suc n
a_lane true m r n some more = omega arith
a_lane false m r n some more = let h : r < n = more (omega arith) in omega arith

-- where a bit is set, some lane passes
pub some-lane : (p : ℕ → Bool) (xs : List ℕ) → 0 < mask_l (map p xs) → prefix_len (λ x. not (p x)) xs < length xs
some-lane p [] some = absurd (omega arith)
some-lane p (x ∷ xs) some = a_lane (p x) (mask_l (map p xs)) (prefix_len (λ x. not (p x)) xs) (length xs) some (some-lane p xs)

-- the lowest bit that is set is the next place
pub lowest-next : (byte at end bits : ℕ) (text : List ℕ) → AreAhead byte text at end bits → 0 < bits → let t = count_trailing_zeros 64 bits in (t < end - at) × IsNext byte text at (at + t)
lowest-next byte at end bits text are some =
    let n = end - at in
    let room : at + n ≤ length text = let o = are.ordered in let w = are.within in omega arith in
    let long : length (piece at n text) ≡ n = length-chunk at n text room in
    let short : length (piece at n text) ≤ 64 = let s = are.short in omega arith in
    let more : 0 < bits_of byte (piece at n text) = subst (λ b. 0 < b) are.said some in
    let counted : count_trailing_zeros 64 bits ≡ prefix_len (λ x. not (nat_eq x byte)) (piece at n text) =
    ap (count_trailing_zeros 64) are.said ∙ trailing_mask_l (λ x. nat_eq x byte) 64 (piece at n text) short more in
    let fewer : count_trailing_zeros 64 bits < n = let f = some-lane (λ x. nat_eq x byte) (piece at n text) more in omega (arith, f, counted, long) in (
      fewer,
      record {
        behind = omega arith;
        within = omega (arith, room, fewer);
        here = run_in_chunk_stops (λ x. nat_eq x byte) text at n (count_trailing_zeros 64 bits) 0 room counted fewer;
        before = run_in_chunk_fails (λ x. nat_eq x byte) text at n (count_trailing_zeros 64 bits) 0 room counted;
      },
    )

-- what is ahead behind a place that was found
pub ahead-behind : (byte at end bits t after : ℕ) (text : List ℕ) → AreAhead byte text at end bits → t < end - at → after ≡ bits / 2 ^ t / 2 → AreAhead byte text (at + t + 1) end after
ahead-behind byte at end bits t after text are few is =
    record {
      ordered = omega arith;
      within = are.within;
      short = let s = are.short in omega arith;
      said =
          is ∙ div-div-eq-div-mul bits (2 ^ t) 2 ∙ ap (λ d. bits / d) (sym (two-up t)) ∙ ap (λ b. b / 2 ^ (t + 1)) are.said
          ∙ bits_shifted byte at (end - at) (t + 1) text (omega arith)
          ∙ (λ i. bits_of byte (piece (place i) (left i) text));
    }
  where
    two-up : (t : ℕ) → 2 ^ (t + 1) ≡ 2 ^ t * 2
    two-up t = simp unary_clauses (omega arith)

    place : at + (t + 1) ≡ at + t + 1
    place = omega arith

    left : end - at - (t + 1) ≡ end - (at + t + 1)
    left = omega arith

-- at a place where nothing is known
pub ahead-nothing : (byte at : ℕ) (text : List ℕ) → at ≤ length text → AreAhead byte text at at 0
ahead-nothing byte at text le = record { ordered = omega arith; within = le; short = omega arith; said = let z : at - at ≡ 0 = omega arith in ap (λ n. bits_of byte (piece at n text)) (sym z) }

-- the bits of a piece to the text's end, with one byte more before it
pub one-more : (byte k : ℕ) (text : List ℕ) → k < length text
    → bits_of byte (piece k (length text - k) text) ≡ cond (nat_eq (get_or text k 0) byte) 1 0 + 2 * bits_of byte (piece (k + 1) (length text - (k + 1)) text)
one-more byte k text lt =
    let n = length text - (k + 1) in
    let longer : length text - k ≡ suc n = omega arith in
    let cut : drop k text ≡ get_or text k 0 ∷ drop (k + 1) text = rw add-one (drop-cons text k 0 lt) in
    λ i. bits_of byte (take (longer i) (cut i))

-- few bytes make a small number
pub few-small : (byte : ℕ) (xs : List ℕ) → length xs ≤ 63 → 2 * bits_of byte xs + 1 < 2 ^ 64
few-small byte xs few =
    let below = mask_l-lt (map (λ x. nat_eq x byte) xs) in
    let long : length (map (λ x. nat_eq x byte) xs) ≤ 63 = omega (arith, length-map xs (λ x. nat_eq x byte)) in
    let most : 2 ^ length (map (λ x. nat_eq x byte) xs) ≤ 2 ^ 63 = pow_mono long in
    omega (arith, below, most)

pub small-so-far : (byte from bits : ℕ) (text : List ℕ) → from ≤ length text → length text ≤ from + 63 → bits ≡ bits_of byte (piece from (length text - from) text) → 2 * bits + 1 < 2 ^ 64
small-so-far byte from bits text within few is =
    let long : length (piece from (length text - from) text) ≡ length text - from = length-chunk from (length text - from) text (omega arith) in
    let small = few-small byte (piece from (length text - from) text) (omega (arith, long)) in
    omega (arith, small, is)

-- what is ahead where the last lanes of the text are looked at
pub tail-ahead : (byte at bits : ℕ) (text : List ℕ) → at < length text → length text - at < 64 → 64 ≤ length text → bits ≡ bits_of byte (piece (length text - 64) 64 text)
    → AreAhead byte text at (length text) (bits / 2 ^ (64 - (length text - at)))
tail-ahead byte at bits text some few long is =
    let k = 64 - (length text - at) in
    let place : length text - 64 + k ≡ at = omega arith in
    let left : 64 - k ≡ length text - at = omega arith in
    record {
      ordered = omega arith;
      within = omega arith;
      short = omega arith;
      said = ap (λ b. b / 2 ^ k) is ∙ bits_shifted byte (length text - 64) 64 k text (omega arith) ∙ (λ i. bits_of byte (piece (place i) (left i) text));
    }

-- the byte stands nowhere up to what is compared, where no bit is set
pub nowhere-on : (byte from at end bits : ℕ) (text : List ℕ) → AreAhead byte text at end bits → bits ≡ 0 → IsNowhere byte text from at → IsNowhere byte text from end
nowhere-on byte from at end bits text are none before k low high =
    elim (cases_lt k at) [ inl lt ↦ before k low lt | inr ge ↦ empty-nowhere byte at end bits text are none k ge high ]

-- the place that is found is the next from an earlier place on
pub next-from : (byte from at place : ℕ) (text : List ℕ) → from ≤ at → IsNowhere byte text from at → IsNext byte text at place → IsNext byte text from place
next-from byte from at place text le none next =
    record {
      behind = let b = next.behind in omega arith;
      within = next.within;
      here = next.here;
      before = λ k low high. elim (cases_lt k at) [ inl lt ↦ none k low lt | inr ge ↦ next.before k ge high ];
    }

pub bit-small : (b : Bool) → bool_byte b ≤ 1
bit-small true = omega arith
bit-small false = omega arith
