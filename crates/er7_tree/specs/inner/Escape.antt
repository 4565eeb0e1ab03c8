-- What proofs use beside the page Escape.
use Rattle.std.specs.Prelude.{ℕ, List, ◌∷◌, ◌++◌, map}
use Rattle.er7_tree.specs.Delims.{Delims}
use Rattle.er7_tree.specs.Escape.{letters, controls}

-- the bytes that are not written as they are
abbrev pub special : Delims → List ℕ
special d = map (λ entry. entry.1) (letters d) ++ controls

-- what an escaped text never holds: the separators and the control bytes
abbrev pub reserved : Delims → List ℕ
reserved d = d.field ∷ d.component ∷ d.repetition ∷ d.subcomponent ∷ controls
