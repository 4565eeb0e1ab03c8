-- The bytes of a line.
use Rattle.std.specs.Prelude.{ℕ, Bool, ◌&&◌, nat_le}

-- a printing ASCII character or a space
abbrev pub is_printing : ℕ → Bool
is_printing byte = nat_le 32 byte && nat_le byte 126
