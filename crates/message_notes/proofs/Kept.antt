-- What notes keep once room is added behind them, or the first is taken away.
use Rattle.std.proofs.Common.{◌≡◌, ◌+◌, ◌-◌, ◌≤◌, ◌<◌, ◌∙◌, ◌++◌, ◌∷◌, [], ℕ, zero, suc, List, Option, None, Some, nat_lt, if◌then◌else◌, true, false, refl, sym, ap, arith, drop, inl, inr}
use Rattle.std.specs.Prelude.{slice_get, option_and_then}
use Rattle.std.proofs.lemmas.Bool.Decides.{leb_tells}
use Rattle.message_notes.specs.inner.Notes.{kept}

got_more : {T : Type 0} (slots : List (Option T)) (k : ℕ)
    → option_and_then (λ slot. slot) (slice_get (slots ++ None ∷ []) k) ≡ option_and_then (λ slot. slot) (slice_get slots k)
got_more [] zero = refl
got_more [] (suc k) = refl
got_more (slot ∷ slots) zero = refl
got_more (slot ∷ slots) (suc k) = got_more slots k

-- room for one number more has no note
pub kept_more : {T : Type 0} (first : ℕ) (slots : List (Option T)) (n : ℕ) → kept first (slots ++ None ∷ []) n ≡ kept first slots n
kept_more first slots n = ap (λ o. if nat_lt n first then None else o) (got_more slots (n - first))

got_rest : {T : Type 0} (slots : List (Option T)) (k : ℕ) → slice_get (drop 1 slots) k ≡ slice_get slots (suc k)
got_rest [] k = refl
got_rest (slot ∷ slots) k = refl

not_below : (n first : ℕ) → first + 1 ≤ n → nat_lt n first ≡ false
not_below n first above = elim (leb_tells (suc n) first) [
  | inl v ↦ absurd (omega (arith, v.1, above))
  | inr v ↦ v.0
]

-- what is kept from the next number on
pub kept_rest : {T : Type 0} (first : ℕ) (slots : List (Option T)) (n : ℕ)
    → kept (first + 1) (drop 1 slots) n ≡ (if nat_lt n (first + 1) then None else kept first slots n)
kept_rest first slots n = elim (leb_tells (suc n) (first + 1)) [
  | inl v ↦ rw v.0 refl
  | inr v ↦
      let above : first + 1 ≤ n = omega (arith, v.1) in
      let next : suc (n - (first + 1)) ≡ n - first = omega (arith, above) in
      rw (v.0, not_below n first above) (ap (option_and_then (λ slot. slot)) (got_rest slots (n - (first + 1)) ∙ ap (slice_get slots) next))
]
