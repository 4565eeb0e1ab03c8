-- How text from outside is written in HTML and in JSON.
use Rattle.std.specs.Prelude.{ℕ, Bool, Option, None, Some, false, not, ◌&&◌, ◌==◌, nat_lt, if◌then◌else◌, List, [], ◌∷◌, ◌++◌, codes}
use Rattle.std.specs.List.{flat_map}

-- a byte as HTML has it in text and in an attribute's value
abbrev pub html_byte : ℕ → List ℕ
html_byte b =
    if b == 60 then codes "&lt;"
    else (if b == 62 then codes "&gt;"
    else (if b == 38 then codes "&amp;"
    else (if b == 34 then codes "&quot;"
    else (if b == 39 then codes "&#39;"
    else b ∷ []))))

-- a text as HTML has it
abbrev pub html_text : List ℕ → List ℕ
html_text text = flat_map html_byte text

-- a byte as a JSON string has it; a control byte is shown as a question mark
abbrev pub json_byte : ℕ → List ℕ
json_byte b =
    if b == 34 then 92 ∷ 34 ∷ []
    else (if b == 92 then 92 ∷ 92 ∷ []
    else (if nat_lt b 32 then 63 ∷ []
    else b ∷ []))

-- a text as a JSON string
abbrev pub json_text : List ℕ → List ℕ
json_text text = 34 ∷ flat_map json_byte text ++ 34 ∷ []

-- what follows the first quotation mark that is no part of an escape, where there is one: the end of a JSON string. Whether the first
-- byte is part of an escape is given.
abbrev pub after_string : Bool → List ℕ → Option (List ℕ)
after_string escaped [] = None
after_string escaped (b ∷ bs) =
    if escaped then after_string false bs
    else (if b == 34 then Some bs
    else after_string (b == 92) bs)

-- a byte that begins no tag and ends no tag and no attribute's value
abbrev pub is_inert : ℕ → Bool
is_inert b = not (b == 60) && not (b == 62) && not (b == 34) && not (b == 39)
