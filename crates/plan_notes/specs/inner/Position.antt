-- Lines of a text.
use Rattle.std.specs.Prelude.{ℕ, Bool, ◌==◌}

-- a line feed ends a line
abbrev pub is_line_end : ℕ → Bool
is_line_end byte = byte == 10
