-- What proofs use beside the page Pieces.
use Rattle.std.specs.Prelude.{ℕ, List, [], Option, None, Some}
use Rattle.std.specs.Borrow.{Bor}
use Rattle.er7_tree.specs.Pieces.{split}

-- the pieces of a text that is left, where one is
abbrev pub pieces_left : ℕ → Option (Bor (List ℕ)) → List (List ℕ)
pieces_left separator None = []
pieces_left separator (Some rest) = split separator rest.now
