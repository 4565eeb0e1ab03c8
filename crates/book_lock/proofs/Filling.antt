-- A list of 32 values that is filled one by one.
use Rattle.std.proofs.Common.{◌≡◌, ℕ, zero, suc, ◌+◌, ◌<◌, List, [], ◌∷◌, length, set, slice_get, Some, inl, inr, refl, ap, ◌∙◌, subst, arith, length-set}
use Rattle.event_log.proofs.OneMore.{lt-tells}

get-same : {A : Type 0} (xs : List A) (i : ℕ) (y : A) → i < length xs → slice_get (set xs i y) i ≡ Some y
get-same [] i y below = absurd (omega (arith, below))
get-same (z ∷ xs) zero y below = refl
get-same (z ∷ xs) (suc i) y below = get-same xs i y (omega (arith, below))

get-other : {A : Type 0} (xs : List A) (i j : ℕ) (y : A) → j < i → slice_get (set xs i y) j ≡ slice_get xs j
get-other [] i j y other = refl
get-other (z ∷ xs) zero j y other = absurd (omega (arith, other))
get-other (z ∷ xs) (suc i) zero y other = refl
get-other (z ∷ xs) (suc i) (suc j) y other = get-other xs i j y (omega (arith, other))

-- the values below d are those of a function
pub record IsFilled {A : Type 0} (f : ℕ → A) (d : ℕ) (xs : List A) : Type 0 where
  pub whole : length xs ≡ 32
  pub below : (e : ℕ) → e < d → slice_get xs e ≡ Some (f e)

pub none_filled : {A : Type 0} (f : ℕ → A) (xs : List A) → length xs ≡ 32 → IsFilled f 0 xs
none_filled f xs whole = record { whole = whole; below = λ e less. absurd (omega (arith, less)) }

pub filled_more : {A : Type 0} (f : ℕ → A) (d : ℕ) (xs : List A) (y : A) → d < 32 → y ≡ f d → IsFilled f d xs → IsFilled f (d + 1) (set xs d y)
filled_more f d xs y within is filled = record {
  whole = length-set xs d y ∙ filled.whole;
  below = λ e less. elim (lt-tells e d) [
    | inl w ↦ get-other xs d e y w.1 ∙ filled.below e w.1
    | inr w ↦
        let past = w.1 in
        let same : d ≡ e = omega (arith, less, past) in
        subst (λ k. slice_get (set xs d y) k ≡ Some (f k)) same (get-same xs d y (omega (arith, within, filled.whole)) ∙ ap Some is)
  ];
}
