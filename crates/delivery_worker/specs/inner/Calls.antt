-- How many calls were made, where that is known.
use Rattle.std.specs.Prelude.{◌≡◌, ◌+◌, ◌≤◌, ℕ, Option, None, Some, ⊤}

-- A known number of calls grows by n.
abbrev pub CallsMore : Option ℕ → Option ℕ → ℕ → Type 0
CallsMore None new n = ⊤
CallsMore (Some a) None n = ⊥
CallsMore (Some a) (Some b) n = b ≡ a + n

-- A known number of calls grows by at most n.
abbrev pub CallsUpTo : Option ℕ → Option ℕ → ℕ → Type 0
CallsUpTo None new n = ⊤
CallsUpTo (Some a) None n = ⊥
CallsUpTo (Some a) (Some b) n = b ≤ a + n
