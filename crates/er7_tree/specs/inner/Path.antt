-- What proofs use beside the page Path.
use Rattle.std.specs.Prelude.{ℕ, Bool, not, ◌&&◌, nat_eq, List, ◌∷◌, ◌++◌}
use Rattle.std.specs.List.{starts_with}
use Rattle.er7_tree.specs.Path.{Place, part_numbers}

-- what a place says, from the outside in
abbrev pub address : Place → List ℕ
address p = p.segment ++ p.occurrence ∷ p.field ∷ part_numbers p.part

-- the piece at one place holds the piece at the other, or both are one
abbrev pub holds : Place → Place → Bool
holds p q = starts_with nat_eq (address q) (address p)

-- neither piece holds the other
abbrev pub are_apart : Place → Place → Bool
are_apart p q = not (holds p q) && not (holds q p)
