-- A mask whose bits are set one after another.
use Rattle.std.proofs.Common.{◌≡◌, ◌≢◌, ◌==◌, ℕ, ◌+◌, ◌*◌, ◌%◌, ◌^◌, ◌<◌, ◌≤◌, Bool, true, false, is_some, length, ap, bit_or, w64, sym, ◌∙◌, inl, inr, arith, subst}
use Rattle.std.specs.Int.{bit_at}
use Rattle.std.specs.Option.{option_map_or}
use Rattle.std.proofs.lemmas.Nat.Bits.{bit_at-zero, bit_at_set_same, bit_at_set_other}
use Rattle.std.proofs.lemmas.Option.{slice_get_past}
use Rattle.event_log.proofs.OneMore.{lt-tells}
use Rattle.book_lock.specs.declared.status.Status.{Status}
use Rattle.plan_text.specs.Entries.{PlanEntry}
use Rattle.service_workers.specs.inner.Pauses.{held_back_at, held_back_route, pauses, pauses_at}

-- a bit that is set, and the others
pub set_here : (mask channel : ℕ) (is_set : Bool) → channel < 64 → is_set ≡ true
    → (bit_at (bit_or mask (1 * 2 ^ channel % 2 ^ 64)) channel == 1) ≡ is_set
set_here mask channel is_set within is = ap (λ b. b == 1) (bit_at_set_same w64 mask channel within) ∙ sym is

pub set_others : (mask channel : ℕ) → channel < 64 → (c : ℕ) → c ≢ channel
    → bit_at (bit_or mask (1 * 2 ^ channel % 2 ^ 64)) c ≡ bit_at mask c
set_others mask channel within c other = bit_at_set_other w64 mask channel within c other

-- the bits below n are those of a function, and no other is set
pub record IsMask (f : ℕ → Bool) (n mask : ℕ) : Type 0 where
  pub below : (c : ℕ) → c < n → (bit_at mask c == 1) ≡ f c
  pub above : (c : ℕ) → n ≤ c → bit_at mask c ≡ 0

pub mask_none : (f : ℕ → Bool) → IsMask f 0 0
mask_none f = record { below = λ c less. absurd (omega (arith, less)); above = λ c _. bit_at-zero c }

pub mask_more : (f : ℕ → Bool) (n mask more : ℕ) → (bit_at mask n ≡ 0 → (bit_at more n == 1) ≡ f n)
    → ((c : ℕ) → c ≢ n → bit_at more c ≡ bit_at mask c) → IsMask f n mask → IsMask f (n + 1) more
mask_more f n mask more here others is = record {
  below = λ c less. elim (lt-tells c n) [
    | inl w ↦ ap (λ b. b == 1) (others c (λ same. omega (arith, same, w.1))) ∙ is.below c w.1
    | inr w ↦
        let past = w.1 in
        let same : n ≡ c = omega (arith, less, past) in
        subst (λ k. (bit_at more k == 1) ≡ f k) same (here (is.above n (omega arith)))
  ];
  above = λ c past. others c (λ same. omega (arith, same, past)) ∙ is.above c (omega (arith, past));
}

-- a mask with the bit of each channel of a plan is right at every number
pub mask_all : (p : PlanEntry) (s : Status) (keep before mask : ℕ) → IsMask (pauses_at p s keep before) (length p.channels) mask
    → (c : ℕ) → (bit_at mask c == 1) ≡ pauses_at p s keep before c
mask_all p s keep before mask is c = elim (lt-tells c (length p.channels)) [
  | inl w ↦ is.below c w.1
  | inr w ↦
      ap (λ b. b == 1) (is.above c w.1) ∙ sym (ap (λ x. option_map_or (pauses p s keep (bit_at before c == 1)) x false) (slice_get_past p.channels c w.1))
]

pub mask_all_held_back : (p : PlanEntry) (s : Status) (mask : ℕ) → IsMask (held_back_at p s) (length p.channels) mask
    → (c : ℕ) → (bit_at mask c == 1) ≡ held_back_at p s c
mask_all_held_back p s mask is c = elim (lt-tells c (length p.channels)) [
  | inl w ↦ is.below c w.1
  | inr w ↦
      ap (λ b. b == 1) (is.above c w.1) ∙ sym (ap (λ x. option_map_or (λ e. is_some (held_back_route p s e)) x false) (slice_get_past p.channels c w.1))
]
