-- The keys that are known, each with the history index at which it was added.
use Rattle.std.specs.Prelude.{◌≡◌, ℕ, Bool, nat_le, List, [], ◌∷◌, Option, None, find, filter}
use Rattle.std.specs.Option.{option_map}
use Rattle.std.specs.Str.{bytes_eq}

-- a key and its history index
pub record Known : Type 0 where
  pub key : List ℕ
  pub place : ℕ

-- the known keys in the order in which they were added, and how many more fit without requesting memory
pub record Index : Type 0 where
  pub known : List Known
  pub room : ℕ

-- whether it is that key
abbrev pub is_key : List ℕ → Known → Bool
is_key key entry = bytes_eq key entry.key

-- the history index of a key
abbrev pub place_of : List ℕ → List Known → Option ℕ
place_of key known = option_map (λ (entry : Known). entry.place) (find (is_key key) known)

-- the keys whose history index is not before that
abbrev pub from_place : ℕ → List Known → List Known
from_place place known = filter (λ entry. nat_le place entry.place) known

-- each key is known once
abbrev pub EachOnce : List Known → Type 0
EachOnce [] = Unit {0}
EachOnce (entry ∷ known) = (place_of entry.key known ≡ None) × EachOnce known
