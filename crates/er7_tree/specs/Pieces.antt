-- Pieces of a text between separators.
use Rattle.std.specs.Prelude.{ℕ, zero, suc, ◌-◌, Bool, true, false, ◌&&◌, ◌==◌, List, [], ◌∷◌, slice_index_or}
use Rattle.std.specs.List.{slice_split, join_with_byte}

-- the pieces between the separators, one more than there are separators
abbrev pub split : ℕ → List ℕ → List (List ℕ)
split separator text = slice_split (λ b. b == separator) text

-- the pieces, with a separator between each two
abbrev pub join : ℕ → List (List ℕ) → List ℕ
join separator pieces = join_with_byte separator pieces

-- the nth piece, counted from 1; one that isn't there is empty
abbrev pub piece_at : ℕ → List (List ℕ) → List ℕ
piece_at n pieces = slice_index_or pieces (n - 1) []

-- the pieces with f of the one after the first n; missing pieces up to it are added empty
abbrev pub put_after : ℕ → (List ℕ → List ℕ) → List (List ℕ) → List (List ℕ)
put_after zero f [] = f [] ∷ []
put_after zero f (piece ∷ pieces) = f piece ∷ pieces
put_after (suc n) f [] = [] ∷ put_after n f []
put_after (suc n) f (piece ∷ pieces) = piece ∷ put_after n f pieces

-- the text with f of its nth piece; missing pieces before it are added empty
abbrev pub put : ℕ → ℕ → (List ℕ → List ℕ) → List ℕ → List ℕ
put separator n f text = join separator (put_after (n - 1) f (split separator text))

abbrev pub is_empty : List ℕ → Bool
is_empty [] = true
is_empty (b ∷ bs) = false

abbrev pub quotation_mark : ℕ
quotation_mark = 34

-- nothing, or the null value, two quotation marks
abbrev pub is_vacant : List ℕ → Bool
is_vacant [] = true
is_vacant (a ∷ b ∷ []) = a == quotation_mark && b == quotation_mark
is_vacant _ = false
