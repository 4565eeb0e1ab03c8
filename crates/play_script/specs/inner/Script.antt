-- How a script writes bytes.
use Rattle.std.specs.Prelude.{ℕ, ◌==◌, List, [], ◌∷◌, ◌++◌, length, codes, if◌then◌else◌, Option, None, Some}
use Rattle.std.specs.List.{flat_map}
use Rattle.std.specs.Option.{option_map_or}
use Rattle.std.specs.Str.Lossy.{utf8_lossy}

-- the name of a byte that isn't seen, behind its <
abbrev pub name_of : ℕ → Option (List ℕ)
name_of b =
    if b == 13 then Some (codes "CR>")
    else if b == 10 then Some (codes "LF>")
    else if b == 11 then Some (codes "VT>")
    else if b == 28 then Some (codes "FS>")
    else if b == 9 then Some (codes "TAB>")
    else if b == 32 then Some (codes "SP>")
    else None

-- a byte is written as itself, or by its name
abbrev pub shown_byte : ℕ → List ℕ
shown_byte b = option_map_or (λ name. codes "<" ++ name) (name_of b) (b ∷ [])

-- the empty text is <>; what is no UTF-8 is replaced
abbrev pub shown : List ℕ → List ℕ
shown bytes = if length bytes == 0 then codes "<>" else utf8_lossy (flat_map shown_byte bytes)
