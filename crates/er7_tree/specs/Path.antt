-- Paths to pieces of a message, and the pieces.
use Rattle.std.specs.Prelude.{ℕ, ◌+◌, Bool, true, false, not, ◌&&◌, ◌||◌, ◌==◌, nat_eq, nat_le, List, [], ◌∷◌, Option, None, Some, option_and_then, if◌then◌else◌, unwrap_or, codes}
use Rattle.std.specs.Bool.{then_some}
use Rattle.std.specs.List.{list_all, filter, starts_with, zip}
use Rattle.std.specs.Option.{option_map_or}
use Rattle.std.specs.Char.{is_ascii_digit}
use Rattle.std.specs.Str.Parse.{digits_value}
use Rattle.er7_tree.specs.declared.path.Part.{Part}
use Rattle.er7_tree.specs.declared.path.Part.TheVariants.{Whole, Repetition, Component, Subcomponent}
use Rattle.er7_tree.specs.Escape.{plain}
use Rattle.er7_tree.specs.Pieces.{split, piece_at}
use Rattle.er7_tree.specs.Tree.{Tree, is_name, has_name, is_header}
use Rattle.er7_tree.specs.Delims.{Delims}

-- a segment's name, which one of that name, the field, and the part of the field; all numbers count from 1
pub record Place : Type 0 where
  pub segment : List ℕ
  pub occurrence : ℕ
  pub field : ℕ
  pub part : Part

-- the nth segment of that name, empty where there is none
abbrev pub segment_at : List ℕ → ℕ → List (List ℕ) → List ℕ
segment_at name n segments = piece_at n (filter (has_name name) segments)

-- the index of a field among the pieces of its segment, of which the name is the first; MSH counts its separator as a field
abbrev pub field_place : List ℕ → ℕ → ℕ
field_place segment field = if is_header segment then field else field + 1

abbrev pub field_at : Delims → ℕ → List ℕ → List ℕ
field_at d field segment =
    if is_header segment && (field == 1) then d.field ∷ []
    else piece_at (field_place segment field) (split d.field segment)

-- the numbers of a part, from the outside in
abbrev pub part_numbers : Part → List ℕ
part_numbers Whole = []
part_numbers (Repetition r) = r ∷ []
part_numbers (Component r c) = r ∷ c ∷ []
part_numbers (Subcomponent r c s) = r ∷ c ∷ s ∷ []

-- the piece that is found by cutting at a separator and taking the nth piece, and so on inwards
abbrev pub piece_in : List (ℕ × ℕ) → List ℕ → List ℕ
piece_in [] text = text
piece_in ((separator, n) ∷ levels) text = piece_in levels (piece_at n (split separator text))

-- the separators and numbers by which a part is found in its field
abbrev pub levels : Delims → Part → List (ℕ × ℕ)
levels d part = zip (d.repetition ∷ d.component ∷ d.subcomponent ∷ []) (part_numbers part)

-- a part of a field
abbrev pub part_of : Delims → Part → List ℕ → List ℕ
part_of d part field = piece_in (levels d part) field

-- the raw piece at a place; one that isn't there is empty
abbrev pub raw : Tree → Place → List ℕ
raw t p = part_of t.delims p.part (field_at t.delims p.field (segment_at p.segment p.occurrence t.segments))

-- what the piece at a place means
abbrev pub value : Tree → Place → List ℕ
value t p = plain t.delims (raw t p)

-- MSH-1 and MSH-2
abbrev pub is_fixed : Place → Bool
is_fixed p = is_header p.segment && nat_le p.field 2

-- a piece of the header
abbrev pub header_place : ℕ → Option ℕ → Place
header_place field None = record { segment = codes "MSH"; occurrence = 1; field = field; part = Whole }
header_place field (Some c) = record { segment = codes "MSH"; occurrence = 1; field = field; part = Component 1 c }

-- both are whole fields, or repetitions, components or subcomponents
abbrev pub same_level : Part → Part → Bool
same_level Whole Whole = true
same_level (Repetition _) (Repetition _) = true
same_level (Component _ _) (Component _ _) = true
same_level (Subcomponent _ _ _) (Subcomponent _ _ _) = true
same_level _ _ = false

-- the numbers of a path
abbrev pub is_number : ℕ → Bool
is_number n = nat_le 1 n && nat_le n 999

abbrev pub is_whole : Part → Bool
is_whole Whole = true
is_whole _ = false

-- there is one MSH, and MSH-1 and MSH-2 have no parts
abbrev pub is_path : Place → Bool
is_path p =
    is_name p.segment
    && list_all is_number (p.occurrence ∷ p.field ∷ part_numbers p.part)
    && (not (is_header p.segment) || p.occurrence == 1)
    && (not (is_fixed p) || is_whole p.part)

-- one step after another, where each may refuse the text
infixl 10 ◌>>=◌
abbrev pub ◌>>=◌ : {A B : Type 0} → Option A → (A → Option B) → Option B
o >>= f = option_and_then f o

-- a number of a path in decimal digits, without a leading zero
abbrev pub number : List ℕ → Option ℕ
number digits =
    let n : ℕ = digits_value 10 digits in
    then_some (list_all is_ascii_digit digits && not (starts_with nat_eq digits (codes "0")) && is_number n) n

-- digits, and then the closing bracket
abbrev pub closed_number : List (List ℕ) → Option ℕ
closed_number (digits ∷ [] ∷ []) = number digits
closed_number _ = None

-- x or x[n], cut at the opening bracket
abbrev pub indexed : List (List ℕ) → Option (List ℕ × Option ℕ)
indexed (x ∷ []) = Some (x, None)
indexed (x ∷ index ∷ []) = closed_number (split 93 index) >>= λ n. Some (x, Some n)
indexed _ = None

-- C or C.S, cut at the dot, of a repetition
abbrev pub inner_part : ℕ → List (List ℕ) → Option Part
inner_part r (c ∷ []) = number c >>= λ c. Some (Component r c)
inner_part r (c ∷ s ∷ []) = number c >>= λ c. number s >>= λ s. Some (Subcomponent r c s)
inner_part _ _ = None

-- what follows the field; a component is of the first repetition where none is named
abbrev pub part_from : Option ℕ → List (List ℕ) → Option Part
part_from repetition [] = Some (option_map_or Repetition repetition Whole)
part_from repetition (c ∷ parts) = inner_part (unwrap_or repetition 1) (c ∷ parts)

-- F[r].C.S, cut at the dots
abbrev pub field_of : List (List ℕ) → Option (ℕ × Part)
field_of [] = None
field_of (first ∷ parts) = do
  first ← indexed (split 91 first)
  field ← number first.0
  part ← part_from first.1 parts
  Some (field, part)

-- the place, where a path may name it
abbrev pub checked_path : Place → Option Place
checked_path p = then_some (is_path p) p

-- a name with its occurrence, and a field with its part
abbrev pub place_by : List ℕ × Option ℕ → ℕ × Part → Place
place_by name field = record { segment = name.0; occurrence = unwrap_or name.1 1; field = field.0; part = field.1 }

-- NAME[n] and F[r].C.S, cut at the hyphen
abbrev pub path_of_pieces : List (List ℕ) → Option Place
path_of_pieces (name ∷ field ∷ []) = do
  name ← indexed (split 91 name)
  field ← field_of (split 46 field)
  checked_path (place_by name field)
path_of_pieces _ = None

-- what a path says, of the form NAME[n]-F[r].C.S
abbrev pub path_of : List ℕ → Option Place
path_of text = path_of_pieces (split 45 text)
