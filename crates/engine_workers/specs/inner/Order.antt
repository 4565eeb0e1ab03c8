-- In which order what workers work with is handed in.
use Rattle.std.specs.Prelude.{◌≡◌, ◌+◌, ℕ, List, [], ◌∷◌, ⊤}
use mathlib.Core.HLevel.{×_prop, Unit-prop}
use native.Mathlib.Nat.{ℕ_set}

-- By their index, these are numbered from n on, in this order.
abbrev pub AreFrom : {X : Type 0} → (X → ℕ) → ℕ → List X → Type 0
AreFrom index n [] = ⊤
AreFrom index n (x ∷ xs) = (index x ≡ n) × AreFrom index (n + 1) xs

-- That is a fact.
pub are_from_prop : {X : Type 0} (index : X → ℕ) (n : ℕ) (xs : List X) → IsProp (AreFrom index n xs)
are_from_prop index n [] = Unit-prop
are_from_prop index n (x ∷ xs) = ×_prop (ℕ_set (index x) n) (are_from_prop index (n + 1) xs)
