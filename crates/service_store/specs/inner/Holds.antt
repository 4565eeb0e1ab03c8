-- The names of the destinations that are held.
use Rattle.std.specs.Prelude.{ℕ, List, [], ◌∷◌, ◌++◌, String, string_bytes, flat_map}

-- names as their file has them: each with a line feed behind it
abbrev pub holds_text : {Z : Type 0} → List (String Z) → List ℕ
holds_text names = flat_map (λ name. string_bytes name ++ 10 ∷ []) names
