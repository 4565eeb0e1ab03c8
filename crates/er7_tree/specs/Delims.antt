-- The delimiters of a message: the field separator of MSH-1 and the encoding characters of MSH-2 (HL7 v2.5.1, 2.5.4, 2.15.9.1 and 2.15.9.2).
use Rattle.std.specs.Prelude.{ℕ, Bool, true, not, ◌&&◌, ◌||◌, ◌==◌, List, [], ◌∷◌, length, nat_le, Option, None, Some, if◌then◌else◌, codes}
use Rattle.std.specs.Char.{is_ascii_graphic, is_ascii_alphanumeric}
use Rattle.std.specs.List.{list_all, list_any, before_first}

-- the five delimiters that a message declares, each a byte
pub record Delims : Type 0 where
  pub field : ℕ
  pub component : ℕ
  pub repetition : ℕ
  pub escape : ℕ
  pub subcomponent : ℕ

-- a character of the null value, of a time zone or of a decimal number
abbrev pub has_other_use : ℕ → Bool
has_other_use b = list_any (λ c. c == b) (codes "\"+.")

-- what a delimiter may be: a printing character that is no letter, no digit, and has no other use
abbrev pub is_delimiter : ℕ → Bool
is_delimiter b = is_ascii_graphic b && not (is_ascii_alphanumeric b || has_other_use b)

-- the byte is none of these
abbrev pub lacks : ℕ → List ℕ → Bool
lacks b bs = list_all (λ c. not (c == b)) bs

-- no two are equal
abbrev pub all_distinct : List ℕ → Bool
all_distinct [] = true
all_distinct (b ∷ bs) = lacks b bs && all_distinct bs

-- characters that may be declared together
abbrev pub are_delimiters : List ℕ → Bool
are_delimiters bs = list_all is_delimiter bs && all_distinct bs

-- what a field separator and encoding characters declare; a fifth encoding character is kept and has no meaning
abbrev pub declared_by : ℕ → List ℕ → Option Delims
declared_by field (c ∷ r ∷ e ∷ s ∷ extra) =
    if nat_le (length extra) 1 && are_delimiters (field ∷ c ∷ r ∷ e ∷ s ∷ extra)
    then Some (record { field = field; component = c; repetition = r; escape = e; subcomponent = s }) else None
declared_by field _ = None

-- what a header segment declares: MSH-1 is its fourth byte, and MSH-2 ends at the next field separator or with the segment
abbrev pub delims_of : List ℕ → Option Delims
delims_of (_ ∷ _ ∷ _ ∷ field ∷ rest) = declared_by field (before_first (λ b. b == field) rest)
delims_of _ = None
