-- Seats of a log: which entries are a seat's own, and what a seat has seen of the log.
use Rattle.std.specs.Prelude.{◌≡◌, ℕ, ◌==◌, Bool, List, map}
use Rattle.std.specs.List.{filter}
use mathlib.Core.List.{IsPrefix}

-- whether an entry has this number
abbrev pub is_by : {E : Type 0} → ℕ → ℕ × E → Bool
is_by i x = x.0 == i

-- the entries that the seat with this number added, in their order
abbrev pub entries_of : {E : Type 0} → ℕ → List (ℕ × E) → List E
entries_of i log = map (λ x. x.1) (filter (is_by i) log)

-- a seat has seen a prefix of the log, in which all entries of its number are
pub record Agrees {E : Type 0} (seat : ℕ) (seen log : List (ℕ × E)) : Type 0 where
  pub begins : IsPrefix seen log
  pub own : entries_of seat log ≡ entries_of seat seen
