-- Changes of a message.
use Rattle.std.specs.Prelude.{ℕ, ◌-◌, Bool, true, not, ◌&&◌, ◌||◌, ◌==◌, nat_le, List, [], ◌∷◌, length, Result, Ok, Err, if◌then◌else◌}
use Rattle.std.specs.List.{filter}
use Rattle.er7_tree.specs.declared.refusal.Refusal.{Refusal}
use Rattle.er7_tree.specs.declared.refusal.Refusal.TheVariants.{BadPath, NoSuchSegment}
use Rattle.er7_tree.specs.Pieces.{split, piece_at, put}
use Rattle.er7_tree.specs.Tree.{Tree, is_name, has_name, is_header}
use Rattle.er7_tree.specs.Path.{Place, segment_at, field_place, levels, raw, is_fixed, same_level}
use Rattle.er7_tree.specs.Escape.{escape}
use Rattle.er7_tree.specs.Delims.{Delims}

-- the text with another piece; missing pieces before it are added empty
abbrev pub put_in : List (ℕ × ℕ) → List ℕ → List ℕ → List ℕ
put_in [] piece text = piece
put_in ((separator, n) ∷ levels) piece text = put separator n (put_in levels piece) text

-- the piece is there
abbrev pub has_in : List (ℕ × ℕ) → List ℕ → Bool
has_in [] text = true
has_in ((separator, n) ∷ levels) text = nat_le n (length (split separator text)) && has_in levels (piece_at n (split separator text))

-- the separators and numbers by which a place is found in its segment
abbrev pub field_levels : Delims → Place → List ℕ → List (ℕ × ℕ)
field_levels d p segment = (d.field, field_place segment p.field) ∷ levels d p.part

-- a segment with another piece at a place of it
abbrev pub put_field : Delims → Place → List ℕ → List ℕ → List ℕ
put_field d p piece segment = put_in (field_levels d p segment) piece segment

-- the segments with f of the nth of that name
abbrev pub change_segment : List ℕ → ℕ → (List ℕ → List ℕ) → List (List ℕ) → List (List ℕ)
change_segment name n f [] = []
change_segment name n f (segment ∷ segments) =
    if has_name name segment then (if n == 1 then f segment ∷ segments else segment ∷ change_segment name (n - 1) f segments)
    else segment ∷ change_segment name n f segments

-- the message with a raw piece at a place
abbrev pub with_piece : Tree → Place → List ℕ → Tree
with_piece t p piece = record t { segments = change_segment p.segment p.occurrence (put_field t.delims p piece) t.segments }

-- the segment of a place is there
abbrev pub has_segment : Tree → Place → Bool
has_segment t p = nat_le p.occurrence (length (filter (has_name p.segment) t.segments))

-- the piece at a place is there
abbrev pub has : Tree → Place → Bool
has t p = let segment : List ℕ = segment_at p.segment p.occurrence t.segments in has_segment t p && has_in (field_levels t.delims p segment) segment

-- the message with a raw piece at a place, if its segment is there
abbrev pub put_piece : Tree → Place → List ℕ → Result Tree Refusal
put_piece t p piece = if has_segment t p then Ok (with_piece t p piece) else Err NoSuchSegment

-- the piece at a place means this value
abbrev pub set : Tree → Place → List ℕ → Result Tree Refusal
set t p value = if is_fixed p then Err BadPath else put_piece t p (escape t.delims value)

-- the piece at one place is the raw one at another of the same level
abbrev pub copy : Tree → Place → Place → Result Tree Refusal
copy t from to =
    if is_fixed from || is_fixed to || not (same_level from.part to.part) then Err BadPath
    else put_piece t to (raw t from)

-- the piece at a place is empty, where it is there
abbrev pub clear : Tree → Place → Result Tree Refusal
clear t p = if is_fixed p then Err BadPath else Ok (if has t p then with_piece t p [] else t)

-- no segment has this name
abbrev pub remove_segments : Tree → List ℕ → Result Tree Refusal
remove_segments t name =
    if not (is_name name) || is_header name then Err BadPath
    else Ok (record t { segments = filter (λ segment. not (has_name name segment)) t.segments })
