-- Escape sequences.
use Rattle.std.specs.Prelude.{ℕ, ◌+◌, ◌-◌, ◌*◌, ◌/◌, ◌%◌, ◌&&◌, ◌==◌, nat_le, List, [], ◌∷◌, ◌++◌, option_map, slice_index, Option, None, Some, if◌then◌else◌, unwrap_or, codes}
use Rattle.std.specs.Char.{is_ascii_digit}
use Rattle.std.specs.List.{find, flat_map, zip}
use Rattle.std.specs.Option.{option_map_or}
use Rattle.er7_tree.specs.Delims.{Delims, lacks}
use Rattle.er7_tree.specs.Pieces.{split}

-- the value of a hexadecimal digit, upper or lower case
abbrev pub hex_value : ℕ → Option ℕ
hex_value b =
    if is_ascii_digit b then Some (b - 48)
    else (if nat_le 65 b && nat_le b 70 then Some (b - 55)
    else (if nat_le 97 b && nat_le b 102 then Some (b - 87) else None))

-- a byte before the others, where both are there
abbrev pub hex_onto : Option ℕ → Option ℕ → Option (List ℕ) → Option (List ℕ)
hex_onto (Some high) (Some low) (Some bytes) = Some ((16 * high + low) ∷ bytes)
hex_onto _ _ _ = None

-- the bytes that pairs of hexadecimal digits mean
abbrev pub hex_bytes : List ℕ → Option (List ℕ)
hex_bytes [] = Some []
hex_bytes (high ∷ []) = None
hex_bytes (high ∷ low ∷ digits) = hex_onto (hex_value high) (hex_value low) (hex_bytes digits)

-- the text between two escape characters, as it is written
abbrev pub sequence : Delims → List ℕ → List ℕ
sequence d inner = d.escape ∷ inner ++ d.escape ∷ []

-- the letters of escape sequences, each with the delimiter that it means (HL7 v2.5.1, 2.7.1)
abbrev pub letters : Delims → List (ℕ × ℕ)
letters d = zip (codes "FSTRE") (d.field ∷ d.component ∷ d.subcomponent ∷ d.repetition ∷ d.escape ∷ [])

abbrev pub meant_by : Delims → ℕ → Option ℕ
meant_by d letter = option_map (λ entry. entry.1) (find (λ entry. entry.0 == letter) (letters d))

abbrev pub letter_for : Delims → ℕ → Option ℕ
letter_for d b = option_map (λ entry. entry.0) (find (λ entry. entry.1 == b) (letters d))

-- what one letter between two escape characters means
abbrev pub letter_meaning : Delims → ℕ → List ℕ
letter_meaning d c = option_map_or (λ b. b ∷ []) (meant_by d c) (sequence d (c ∷ []))

-- the letter X, which begins hexadecimal digits
abbrev pub hexadecimal : ℕ
hexadecimal = 88

-- what the text between two escape characters means; what has no meaning is kept as it is written
abbrev pub meaning : Delims → List ℕ → List ℕ
meaning d [] = sequence d []
meaning d (c ∷ []) = letter_meaning d c
meaning d (c ∷ digits) = if c == hexadecimal then unwrap_or (hex_bytes digits) (sequence d (c ∷ digits)) else sequence d (c ∷ digits)

-- of the pieces between escape characters each second one is a sequence, but for one that nothing closes
abbrev pub plain_pieces : Delims → List (List ℕ) → List ℕ
plain_pieces d [] = []
plain_pieces d (text ∷ []) = text
plain_pieces d (text ∷ unclosed ∷ []) = text ++ d.escape ∷ unclosed
plain_pieces d (text ∷ inner ∷ next ∷ pieces) = text ++ meaning d inner ++ plain_pieces d (next ∷ pieces)

-- the bytes that an escaped text means
abbrev pub plain : Delims → List ℕ → List ℕ
plain d text = plain_pieces d (split d.escape text)

-- the bytes that are written in hexadecimal digits: CR and LF, which end segments and lines, and VT and FS, which frame a message
abbrev pub controls : List ℕ
controls = 13 ∷ 11 ∷ 28 ∷ 10 ∷ []

abbrev pub hex_digit : ℕ → ℕ
hex_digit n = slice_index (codes "0123456789ABCDEF") n

-- a control byte by its digits, any other as it is
abbrev pub bare_or_digits : Delims → ℕ → List ℕ
bare_or_digits d b = if lacks b controls then b ∷ [] else sequence d (hexadecimal ∷ hex_digit (b / 16) ∷ hex_digit (b % 16) ∷ [])

-- how a byte is written: a delimiter by its letter, else a control byte by its digits, else as it is
abbrev pub escaped : Delims → ℕ → List ℕ
escaped d b = option_map_or (λ letter. sequence d (letter ∷ [])) (letter_for d b) (bare_or_digits d b)

-- how bytes are written
abbrev pub escape : Delims → List ℕ → List ℕ
escape d value = flat_map (escaped d) value
