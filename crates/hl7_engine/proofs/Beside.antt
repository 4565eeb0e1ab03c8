-- Lists beside one another, and front parts of lists.
use Rattle.std.proofs.Common.{◌≡◌, ℕ, suc, zero, ◌+◌, ◌≤◌, List, [], ◌∷◌, ◌++◌, None, Some, length, map, take, refl, sym, ap, ◌∙◌, add-one, append_assoc, arith}
use Rattle.std.specs.Prelude.{Option, slice_get}
use Rattle.std.specs.List.{filter_map, zip}
use Rattle.std.proofs.lemmas.List.Elements.{filter_map-append}
use Rattle.std.proofs.lemmas.List.{map-append}

-- past the end of a list
pub length_from_none : {X : Type 0} (xs : List X) (n : ℕ) → slice_get xs n ≡ None → length xs ≤ n
length_from_none [] n none = omega arith
length_from_none (x ∷ xs) zero none = absurd cc
length_from_none (x ∷ xs) (suc n) none = let rest : length xs ≤ n = length_from_none xs n none in omega arith

-- one more of both
zip-suc : {K X : Type 0} (xs : List K) (ys : List X) (n : ℕ) (x : K) (y : X) → slice_get xs n ≡ Some x → slice_get ys n ≡ Some y
    → take (suc n) (zip xs ys) ≡ take n (zip xs ys) ++ (x, y) ∷ []
zip-suc [] ys n x y a b = absurd cc
zip-suc (z ∷ xs) [] n x y a b = absurd cc
zip-suc (z ∷ xs) (w ∷ ys) zero x y a b = cc
zip-suc (z ∷ xs) (w ∷ ys) (suc n) x y a b = ap (λ l. (z, w) ∷ l) (zip-suc xs ys n x y a b)

-- past the end of the first, all
pub zip-past_first : {K X : Type 0} (xs : List K) (ys : List X) (n : ℕ) → length xs ≤ n → take n (zip xs ys) ≡ zip xs ys
zip-past_first [] ys zero a = refl
zip-past_first [] ys (suc n) a = refl
zip-past_first (z ∷ xs) [] zero a = refl
zip-past_first (z ∷ xs) [] (suc n) a = refl
zip-past_first (z ∷ xs) (w ∷ ys) zero a = absurd (omega arith)
zip-past_first (z ∷ xs) (w ∷ ys) (suc n) a = ap (λ l. (z, w) ∷ l) (zip-past_first xs ys n (omega arith))

-- past the end of the second, all
pub zip-past_second : {K X : Type 0} (xs : List K) (ys : List X) (n : ℕ) → slice_get ys n ≡ None → take n (zip xs ys) ≡ zip xs ys
zip-past_second [] ys zero a = refl
zip-past_second [] ys (suc n) a = refl
zip-past_second (z ∷ xs) [] zero a = refl
zip-past_second (z ∷ xs) [] (suc n) a = refl
zip-past_second (z ∷ xs) (w ∷ ys) zero a = absurd cc
zip-past_second (z ∷ xs) (w ∷ ys) (suc n) a = ap (λ l. (z, w) ∷ l) (zip-past_second xs ys n a)

-- what a function gives of one more of both
pub filtered-more : {K X Y Z : Type 0} (f : K × X → Option Y) (v : Y → Z) (xs : List K) (ys : List X) (n : ℕ) (x : K) (y : X) (before new : List Z)
    → slice_get xs n ≡ Some x → slice_get ys n ≡ Some y → before ≡ map v (filter_map f (take n (zip xs ys))) → new ≡ before ++ map v (filter_map f ((x, y) ∷ []))
    → new ≡ map v (filter_map f (take (n + 1) (zip xs ys)))
filtered-more f v xs ys n x y before new a b so_far added =
    let t = take n (zip xs ys) in
    let joined : map v (filter_map f (t ++ (x, y) ∷ [])) ≡ map v (filter_map f t) ++ map v (filter_map f ((x, y) ∷ [])) =
    ap (map v) (filter_map-append f t ((x, y) ∷ [])) ∙ map-append v (filter_map f t) (filter_map f ((x, y) ∷ [])) in
    added ∙ (ap (λ l. l ++ map v (filter_map f ((x, y) ∷ []))) so_far ∙ (sym joined ∙ (ap (λ l. map v (filter_map f l)) (sym (zip-suc xs ys n x y a b)) ∙ rw add-one refl)))
