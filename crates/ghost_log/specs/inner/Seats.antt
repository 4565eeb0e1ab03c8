-- What proofs use beside the page Seats.
use Rattle.std.specs.Prelude.{ℕ, List, map}

-- entries with the number of the seat that adds them
abbrev pub entries_by : {E : Type 0} → ℕ → List E → List (ℕ × E)
entries_by i es = map (λ e. (i, e)) es
