-- What a path says, read piece by piece.
use Rattle.std.proofs.Common.{◌≡◌, ℕ, suc, zero, ◌+◌, ◌*◌, ◌-◌, ◌<◌, ◌≤◌, Bool, true, false, not, ◌&&◌, List, [], ◌∷◌, length, take, get_or, Option, Some, None, Bor, MatchOption, is_some, refl, sym, arith, nat_eq, nat_le, cond, unwrap_or}
use Rattle.std.proofs.lemmas.Bool.{and_parts, and_left, and_right, false≢true, lt-leb, leb-true}
use Rattle.std.proofs.lemmas.Str.Parse.{digits_value-take-le}
use Rattle.std.proofs.lemmas.Str.{digit_value_digit}
use Rattle.std.proofs.lemmas.Int.Digits.{digits_value_more}
use Rattle.std.specs.Char.{is_ascii_digit, digit_value}
use Rattle.std.specs.List.{list_all, starts_with, onto_first}
use Rattle.std.specs.Str.Parse.{digits_value}
use Rattle.er7_tree.specs.Path.{number, closed_number, indexed, inner_part, part_from, field_of, place_by, checked_path, path_of_pieces, path_of}
use Rattle.er7_tree.specs.declared.path.Part.{Part}
use Rattle.er7_tree.specs.Pieces.{split}
use Rattle.er7_tree.proofs.Escaping.{some_piece}

-- a text with a separator has a piece behind the first one
Cut : ℕ → List ℕ → List ℕ → Option (Bor (List ℕ)) → Type 0
Cut separator text first after = MatchOption after (split separator text ≡ first ∷ []) (λ rest. split separator text ≡ first ∷ split separator rest.now)

more_pieces : (separator : ℕ) (text first : List ℕ) (after : Option (Bor (List ℕ))) → Cut separator text first after → is_some after ≡ true
    → (more : List (List ℕ)) × (0 < length more) × (split separator text ≡ first ∷ more)
unfolding Cut
more_pieces separator text first None cut is = absurd (false≢true is)
more_pieces separator text first (Some rest) cut is = (split separator rest.now, some_piece separator rest.now, cut)

indexed_many : (before index : List ℕ) (more : List (List ℕ)) → 0 < length more → indexed (before ∷ index ∷ more) ≡ None
indexed_many before index [] some = absurd (omega arith)
indexed_many before index (next ∷ more) some = refl

inner_many : (r : ℕ) (component subcomponent : List ℕ) (more : List (List ℕ)) → 0 < length more → inner_part r (component ∷ subcomponent ∷ more) ≡ None
inner_many r component subcomponent [] some = absurd (omega arith)
inner_many r component subcomponent (next ∷ more) some = refl

path_many : (name field : List ℕ) (more : List (List ℕ)) → 0 < length more → path_of_pieces (name ∷ field ∷ more) ≡ None
path_many name field [] some = absurd (omega arith)
path_many name field (next ∷ more) some = refl

-- three pieces are too many
pub indexed_more : (text first rest index : List ℕ) (after : Option (Bor (List ℕ))) → split 91 text ≡ first ∷ split 91 rest
    → MatchOption after (split 91 rest ≡ index ∷ []) (λ r. split 91 rest ≡ index ∷ split 91 r.now) → is_some after ≡ true → indexed (split 91 text) ≡ None
unfolding Cut
indexed_more text first rest index after is cut some =
    let (more, has, pieces) = more_pieces 91 rest index after cut some in rw (is, pieces) (indexed_many first index more has)

pub inner_more : (r : ℕ) (text first rest second : List ℕ) (after : Option (Bor (List ℕ))) → split 46 text ≡ first ∷ split 46 rest
    → MatchOption after (split 46 rest ≡ second ∷ []) (λ r. split 46 rest ≡ second ∷ split 46 r.now) → is_some after ≡ true → inner_part r (split 46 text) ≡ None
unfolding Cut
inner_more r text first rest second after is cut some =
    let (more, has, pieces) = more_pieces 46 rest second after cut some in rw (is, pieces) (inner_many r first second more has)

pub path_more : (text first rest second : List ℕ) (after : Option (Bor (List ℕ))) → split 45 text ≡ first ∷ split 45 rest
    → MatchOption after (split 45 rest ≡ second ∷ []) (λ r. split 45 rest ≡ second ∷ split 45 r.now) → is_some after ≡ true → path_of text ≡ None
unfolding Cut
path_more text first rest second after is cut some =
    let (more, has, pieces) = more_pieces 45 rest second after cut some in rw (is, pieces) (path_many first second more has)

-- nothing follows a closing bracket
closed_many : (digits : List ℕ) (more : List (List ℕ)) → 0 < length more → closed_number (digits ∷ [] ∷ more) ≡ None
closed_many digits [] some = absurd (omega arith)
closed_many digits (next ∷ more) some = refl

closed_onto : (digits : List ℕ) (b : ℕ) (more : List (List ℕ)) → closed_number (digits ∷ onto_first b more) ≡ None
closed_onto digits b [] = refl
closed_onto digits b (next ∷ []) = refl
closed_onto digits b (next ∷ last ∷ more) = refl

closed_rest : (digits bs : List ℕ) (b : ℕ) (last : Bool) → closed_number (digits ∷ cond last ([] ∷ split 93 bs) (onto_first b (split 93 bs))) ≡ None
closed_rest digits bs b true = closed_many digits (split 93 bs) (some_piece 93 bs)
closed_rest digits bs b false = closed_onto digits b (split 93 bs)

pub closed_more : (text digits rest : List ℕ) → split 93 text ≡ digits ∷ split 93 rest → nat_eq (length rest) 0 ≡ false → closed_number (split 93 text) ≡ None
closed_more text digits [] is some = absurd (false≢true (sym some))
closed_more text digits (b ∷ bs) is some = rw is (closed_rest digits bs b (nat_eq b 93))

-- a component follows the dot
part_some : (repetition : Option ℕ) (parts : List (List ℕ)) → 0 < length parts → inner_part (unwrap_or repetition 1) parts ≡ part_from repetition parts
part_some repetition [] some = absurd (omega arith)
part_some repetition (part ∷ parts) some = refl

pub part_inner : (repetition : Option ℕ) (text : List ℕ) → inner_part (unwrap_or repetition 1) (split 46 text) ≡ part_from repetition (split 46 text)
part_inner repetition text = part_some repetition (split 46 text) (some_piece 46 text)

-- a name and a field
pub path_parts : (text name rest field : List ℕ) (after : Option (Bor (List ℕ))) (named : List ℕ × Option ℕ) (read : ℕ × Part)
    → split 45 text ≡ name ∷ split 45 rest → MatchOption after (split 45 rest ≡ field ∷ []) (λ r. split 45 rest ≡ field ∷ split 45 r.now) → is_some after ≡ false
    → indexed (split 91 name) ≡ Some named → Some read ≡ field_of (split 46 field) → checked_path (place_by named read) ≡ path_of text
path_parts text name rest field None named read is cut none is_named is_read = rw (is, cut, is_named, ← is_read) refl
path_parts text name rest field (Some more) named read is cut none is_named is_read = absurd (false≢true (sym none))

not_all : (test : ℕ → Bool) (xs : List ℕ) (i : ℕ) → i < length xs → test (get_or xs i 0) ≡ false → list_all test xs ≡ false
not_all test [] i below isnt = absurd (omega arith)
not_all test (x ∷ xs) zero below isnt = and_left _ _ isnt
not_all test (x ∷ xs) (suc i) below isnt = and_right _ _ (not_all test xs i (omega arith) isnt)

-- a byte that is no digit
pub number_bad : (digits : List ℕ) (i : ℕ) → i < length digits → is_ascii_digit (get_or digits i 0) ≡ false → number digits ≡ None
number_bad digits i below isnt = rw (not_all is_ascii_digit digits i below isnt) refl

-- digits that begin too large a number
pub number_large : (digits : List ℕ) (i value : ℕ) → value ≡ digits_value 10 (take i digits) → 999 < value → number digits ≡ None
number_large digits i value is large =
    let grows : digits_value 10 (take i digits) ≤ digits_value 10 digits = digits_value-take-le 10 digits i (omega arith) in
    let above : nat_le (digits_value 10 digits) 999 ≡ false = lt-leb _ _ (omega arith) in
    rw (and_right (list_all is_ascii_digit digits && not (starts_with nat_eq digits (48 ∷ []))) _ (and_right (nat_le 1 (digits_value 10 digits)) _ above)) refl

-- one more digit
pub number_more : (digits : List ℕ) (i value : ℕ) → i < length digits → is_ascii_digit (get_or digits i 0) ≡ true → value ≡ digits_value 10 (take i digits)
    → 10 * value + (get_or digits i 0 - 48) ≡ digits_value 10 (take (i + 1) digits)
number_more digits i value below is so_far =
    let range = and_parts (nat_le 48 (get_or digits i 0)) (nat_le (get_or digits i 0) 57) is in
    let digit : digit_value (get_or digits i 0) + 48 ≡ get_or digits i 0 = digit_value_digit _ (leb-true _ _ range.0, leb-true _ _ range.1) in
    let step = digits_value_more 10 digits i below in
    omega (arith, step, so_far, digit)
