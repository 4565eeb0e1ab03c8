-- Bytes of messages as lines.
use Rattle.std.specs.Prelude.{ℕ, ◌+◌, ◌-◌, ◌/◌, ◌%◌, ◌==◌, ◌&&◌, Bool, not, nat_lt, nat_le, if◌then◌else◌, List, [], ◌∷◌, ◌++◌}

-- a hexadecimal digit
abbrev pub hex_digit : ℕ → ℕ
hex_digit n = if nat_lt n 10 then 48 + n else 65 + (n - 10)

-- a byte as it is shown: as it is, or as \xHH where it is a control byte
abbrev pub byte_shown : ℕ → List ℕ
byte_shown b = if nat_le 32 b && not (b == 127) then b ∷ [] else 92 ∷ 120 ∷ hex_digit (b / 16) ∷ hex_digit (b % 16) ∷ []

-- a byte of a text, by whether a line starts with it
abbrev pub byte_line : Bool → ℕ → List ℕ
byte_line starts b = (if starts then 32 ∷ 32 ∷ [] else []) ++ (if b == 13 then 10 ∷ [] else byte_shown b)

-- a text, a segment a line, by whether a line starts with it
abbrev pub lines_from : Bool → List ℕ → List ℕ
lines_from starts [] = if starts then [] else 10 ∷ []
lines_from starts (b ∷ bs) = byte_line starts b ++ lines_from (b == 13) bs
