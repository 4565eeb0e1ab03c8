-- The numbers of connections.
use Rattle.std.specs.Prelude.{◌+◌, ℕ, List, [], ◌∷◌, ◌++◌, max, Option}
use Rattle.std.specs.Option.{option_map_or}
use Rattle.std.specs.Fmt.{decimal}

-- a number as its file has it: its decimal digits and a line feed
abbrev pub number_text : ℕ → List ℕ
number_text n = decimal n ++ 10 ∷ []

-- the first number that is unused, by what the file says and by the last connection of which the store knows
abbrev pub first_unused : ℕ → Option ℕ → ℕ
first_unused stored last = max stored (option_map_or (λ n. n + 1) last 0)
