-- Messages as lists of segments (HL7 v2.5.1, 2.5.2 and 2.5.4).
use Rattle.std.specs.Prelude.{ℕ, Bool, true, false, not, ◌&&◌, ◌||◌, ◌==◌, nat_eq, nat_le, List, [], ◌∷◌, ◌++◌, length, drop, map, Option, None, Some, Result, Ok, Err, if◌then◌else◌, codes}
use Rattle.std.specs.Char.{is_ascii_uppercase, is_ascii_digit}
use Rattle.std.specs.List.{filter, flat_map, starts_with, position_from}
use Rattle.std.specs.Option.{ok_or}
use Rattle.er7_tree.specs.declared.refusal.Refusal.{Refusal}
use Rattle.er7_tree.specs.declared.refusal.Refusal.TheVariants.{NoHeader, BadDelimiters, BadSegmentName, TooManySegments}
use Rattle.er7_tree.specs.Pieces.{split, is_empty}
use Rattle.er7_tree.specs.Delims.{Delims, delims_of}

-- the byte that ends segments, and the one of which one is dropped behind it
abbrev pub segment_end : ℕ
segment_end = 13

abbrev pub line_feed : ℕ
line_feed = 10

-- the most segments of a message
abbrev pub segments_max : ℕ
segments_max = 4096

-- A message: the delimiters that it declares, and its segments without the carriage return that ends each.
pub record Tree : Type 0 where
  pub delims : Delims
  pub segments : List (List ℕ)

-- a piece without one line feed that it begins with
abbrev pub without_line_feed : List ℕ → List ℕ
without_line_feed [] = []
without_line_feed (b ∷ bs) = if b == line_feed then bs else b ∷ bs

-- each piece but the first loses one leading line feed
abbrev pub without_line_feeds : List (List ℕ) → List (List ℕ)
without_line_feeds [] = []
without_line_feeds (first ∷ others) = first ∷ map without_line_feed others

-- the segments of a text: its pieces between carriage returns that aren't empty
abbrev pub segments_of : List ℕ → List (List ℕ)
segments_of text = filter (λ piece. not (is_empty piece)) (without_line_feeds (split segment_end text))

-- a segment's name: three characters, a capital letter and then capital letters or digits
abbrev pub is_name : List ℕ → Bool
is_name (a ∷ b ∷ c ∷ []) = is_ascii_uppercase a && (is_ascii_uppercase b || is_ascii_digit b) && (is_ascii_uppercase c || is_ascii_digit c)
is_name _ = false

-- nothing follows, or the separator does
abbrev pub ends_by : ℕ → List ℕ → Bool
ends_by separator [] = true
ends_by separator (b ∷ _) = b == separator

-- a name, and then the field separator or the segment's end
abbrev pub is_named : Delims → List ℕ → Bool
is_named d (a ∷ b ∷ c ∷ rest) = is_name (a ∷ b ∷ c ∷ []) && ends_by d.field rest
is_named d _ = false

-- the segment has this name: names have three characters, and a segment of a message goes on with the field separator, so it begins with its name
-- and no other
abbrev pub has_name : List ℕ → List ℕ → Bool
has_name name segment = starts_with nat_eq segment name

-- a message header segment, MSH
abbrev pub is_header : List ℕ → Bool
is_header segment = has_name (codes "MSH") segment

-- what a segment after the header may be
abbrev pub is_body : Delims → List ℕ → Bool
is_body d segment = is_named d segment && not (is_header segment)

-- the first segment, empty where there is none
abbrev pub first_of : List (List ℕ) → List ℕ
first_of [] = []
first_of (first ∷ _) = first

-- a result, and then what follows from its value; a refusal ends it
infixl 10 ◌>>=◌
abbrev pub ◌>>=◌ : {A B E : Type 0} → Result A E → (A → Result B E) → Result B E
(Ok x) >>= f = f x
(Err e) >>= f = Err e

-- the header, which is the first segment
abbrev pub header_segment : List (List ℕ) → Result (List ℕ) Refusal
header_segment segments = if is_header (first_of segments) then Ok (first_of segments) else Err NoHeader

-- the index of the first segment that may not follow the header, where they are numbered from this index on
abbrev pub bad_name_place : ℕ → Delims → List (List ℕ) → Option ℕ
bad_name_place place d segments = position_from (λ segment. not (is_body d segment)) place segments

-- the message, where there is no such index
abbrev pub unless_bad : Tree → Option ℕ → Result Tree Refusal
unless_bad t None = Ok t
unless_bad t (Some place) = Err (BadSegmentName place)

-- the message, where it has not too many segments and each but the first, the header, may follow it; indices count from 1
abbrev pub checked_tree : Tree → Result Tree Refusal
checked_tree t =
    if nat_le (length t.segments) segments_max then unless_bad t (bad_name_place 2 t.delims (drop 1 t.segments))
    else Err TooManySegments

-- the message of these segments, or the first refusal: no header, bad delimiters, too many segments, the first bad name
abbrev pub tree_of : List (List ℕ) → Result Tree Refusal
tree_of segments = do
  header ← header_segment segments
  delims ← ok_or (delims_of header) BadDelimiters
  checked_tree (record { delims = delims; segments = segments })

-- the message that a text says
abbrev pub tree : List ℕ → Result Tree Refusal
tree text = tree_of (segments_of text)

-- a segment as it is written
abbrev pub ended : List ℕ → List ℕ
ended segment = segment ++ segment_end ∷ []

-- segments as they are written, one after another
abbrev pub written : List (List ℕ) → List ℕ
written segments = flat_map ended segments

-- the text of a message
abbrev pub text_of : Tree → List ℕ
text_of t = written t.segments
