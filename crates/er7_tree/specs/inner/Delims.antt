-- What proofs use beside the page Delims.
use Rattle.std.specs.Prelude.{◌≡◌, ℕ, true, List, [], ◌∷◌}
use Rattle.er7_tree.specs.Delims.{Delims, are_delimiters}

-- the delimiters in the order of MSH-1 and MSH-2
abbrev pub delimiters : Delims → List ℕ
delimiters d = d.field ∷ d.component ∷ d.repetition ∷ d.escape ∷ d.subcomponent ∷ []

-- five that may be declared
pub record AreDelims (d : Delims) : Type 0 where
  pub declared : are_delimiters (delimiters d) ≡ true
