-- What proofs use beside the page Tree.
use Rattle.std.specs.Prelude.{◌≡◌, ◌≤◌, ◌<◌, ℕ, ◌-◌, true, List, [], length, take, drop, slice_index_or, Some, Result, Ok, Err, IsOk}
use Rattle.std.specs.List.{filter, list_all}
use Rattle.er7_tree.specs.declared.refusal.Refusal.{Refusal}
use Rattle.er7_tree.specs.declared.refusal.Refusal.TheVariants.{NoMemory}
use Rattle.er7_tree.specs.Delims.{delims_of, lacks}
use Rattle.er7_tree.specs.Tree.{segment_end, segments_max, Tree, has_name, is_header, is_body, first_of}

-- the index of the nth segment of a name: it has that name, and so have n - 1 of those before it
pub record IsOccurrence (name : List ℕ) (n : ℕ) (segments : List (List ℕ)) (place : ℕ) : Type 0 where
  pub within : place < length segments
  pub named : has_name name (slice_index_or segments place []) ≡ true
  pub before : length (filter (has_name name) (take place segments)) ≡ n - 1

-- What reading gives and edits keep: the first segment is the one header and declares the delimiters, the others have good names,
-- there are not too many, and none holds the byte that ends segments.
pub record IsMessage (t : Tree) : Type 0 where
  pub header : is_header (first_of t.segments) ≡ true
  pub declared : delims_of (first_of t.segments) ≡ Some t.delims
  pub named : list_all (is_body t.delims) (drop 1 t.segments) ≡ true
  pub few : length t.segments ≤ segments_max
  pub unbroken : list_all (lacks segment_end) t.segments ≡ true

-- What was answered is this answer; out of memory is answered only where there would have been a value.
abbrev pub Gives : {X : Type 0} → Result X Refusal → Result X Refusal → Type 0
Gives (Ok x) answer = answer ≡ Ok x
Gives (Err NoMemory) answer = IsOk answer
Gives (Err e) answer = answer ≡ Err e
