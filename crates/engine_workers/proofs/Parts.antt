-- Lists by item, one item later.
use Rattle.std.proofs.Common.{◌≡◌, ◌+◌, ◌∙◌, ℕ, List, [], ◌∷◌, ◌++◌, Some, ap, length, map, subst, arith}
use Rattle.std.specs.Prelude.{Option}
use Rattle.std.specs.Option.{option_to_list}
use Rattle.std.specs.List.{filter_map}
use Rattle.std.proofs.lemmas.List.{map-append}
use Rattle.std.proofs.lemmas.List.Elements.{filter_map-append}
use Rattle.engine_workers.specs.inner.Order.{AreFrom}

pub map_more : {X Y : Type 0} (f : X → Y) (xs : List X) (x : X) → map f (xs ++ x ∷ []) ≡ map f xs ++ f x ∷ []
map_more f xs x = map-append f xs (x ∷ [])

pub filter_map_more : {X Y : Type 0} (f : X → Option Y) (xs : List X) (x : X) → filter_map f (xs ++ x ∷ []) ≡ filter_map f xs ++ filter_map f (x ∷ [])
filter_map_more f xs x = filter_map-append f xs (x ∷ [])

-- the first of those that are left in order, and the others
pub first_from : {X : Type 0} (index : X → ℕ) (n : ℕ) (old new : List X) (r : Option X) (x : X) → old ≡ option_to_list r ++ new → r ≡ Some x → AreFrom index n old
    → (index x ≡ n) × AreFrom index (n + 1) new
first_from {X} index n old new r x are is all = subst (λ (w : List X). AreFrom index n w) (are ∙ ap (λ (o : Option X). option_to_list o ++ new) is) all

-- one more in order
pub more_from : {X : Type 0} (index : X → ℕ) (n : ℕ) (xs : List X) (x : X) → AreFrom index n xs → index x ≡ n + length xs → AreFrom index n (xs ++ x ∷ [])
more_from index n [] x all is = (omega (arith, is), tt)
more_from index n (y ∷ ys) x all is = (all.0, more_from index (n + 1) ys x all.1 (omega (arith, is)))
