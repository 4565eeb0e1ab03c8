-- A segment with another piece: its name and, if it is the header, its delimiters stay.
use Rattle.std.proofs.Common.{◌≡◌, ℕ, suc, ◌+◌, ◌-◌, ◌≤◌, Bool, true, false, not, ◌&&◌, ◌||◌, List, [], ◌∷◌, ◌++◌, length, Some, None, refl, sym, ap, ◌∙◌, arith, nat_eq, nat_le, inl, inr, cond, codes, append-nil}
use Rattle.std.proofs.lemmas.Bool.{and_parts, cases_Bool, eqb-true, eq-eqb, false≢true}
use Rattle.std.specs.Char.{is_ascii_uppercase, is_ascii_digit, is_ascii_alphanumeric}
use Rattle.std.specs.List.{before_first, onto_first, position_or_len}
use Rattle.er7_tree.specs.Delims.{Delims, delims_of, declared_by, lacks, are_delimiters}
use Rattle.er7_tree.specs.inner.Delims.{AreDelims}
use Rattle.er7_tree.specs.Pieces.{split, join, put_after}
use Rattle.er7_tree.specs.Tree.{is_name, has_name, is_header, is_body, is_named, ends_by}
use Rattle.er7_tree.specs.Edit.{put_in}
use Rattle.er7_tree.proofs.Distinct.{five, apart, not_true}
use Rattle.er7_tree.proofs.EditedPieces.{split-append, split-whole, split-put}
use Rattle.er7_tree.proofs.EditedFields.{separators, own-put_in}
use Rattle.er7_tree.proofs.Putting.{rejoined}

-- a segment whose first piece is this
pub record Leads (d : Delims) (name : List ℕ) (segment : List ℕ) : Type 0 where
  pub pieces : List (List ℕ)
  pub is : split d.field segment ≡ name ∷ pieces

-- a segment begins with its first piece
more_than : ℕ → List (List ℕ) → List ℕ
more_than separator [] = []
more_than separator (piece ∷ pieces) = separator ∷ join separator (piece ∷ pieces)

pub begins : (d : Delims) (name segment : List ℕ) → Leads d name segment → (more : List ℕ) × (segment ≡ name ++ more) × (ends_by d.field more ≡ true)
begins d name segment leads = first leads.pieces (sym (rejoined d.field segment) ∙ ap (join d.field) leads.is) where
  first : (pieces : List (List ℕ)) → segment ≡ join d.field (name ∷ pieces) → (more : List ℕ) × (segment ≡ name ++ more) × (ends_by d.field more ≡ true)
  first [] is = ([], is ∙ sym (append-nil name), refl)
  first (piece ∷ pieces) is = (d.field ∷ join d.field (piece ∷ pieces), is, eq-eqb d.field d.field refl)

-- names have three characters
three_bytes : (name : List ℕ) → length name ≡ 3 → (a : ℕ) × (b : ℕ) × (c : ℕ) × (name ≡ a ∷ b ∷ c ∷ [])
three_bytes [] three = absurd (omega arith)
three_bytes (a ∷ []) three = absurd (omega arith)
three_bytes (a ∷ b ∷ []) three = absurd (omega arith)
three_bytes (a ∷ b ∷ c ∷ []) three = (a, b, c, refl)
three_bytes (a ∷ b ∷ c ∷ d ∷ more) three = absurd (omega arith)

pub is_name-length : (name : List ℕ) → is_name name ≡ true → length name ≡ 3
is_name-length [] named = cc
is_name-length (a ∷ []) named = cc
is_name-length (a ∷ b ∷ []) named = cc
is_name-length (a ∷ b ∷ c ∷ []) named = refl
is_name-length (a ∷ b ∷ c ∷ d ∷ more) named = cc

-- what begins with a name has that name
same_name : (name more other_name : List ℕ) → length name ≡ 3 → length other_name ≡ 3 → has_name other_name (name ++ more) ≡ has_name other_name name
same_name name more other_name three three_other =
    let (a, b, c, is) = three_bytes name three in
    let (x, y, z, is_other) = three_bytes other_name three_other in
    rw (is, is_other) refl

pub named_so : (name other_name : List ℕ) → length name ≡ 3 → length other_name ≡ 3 → has_name other_name name ≡ true → other_name ≡ name
named_so name other_name three three_other named =
    let (a, b, c, is) = three_bytes name three in
    let (x, y, z, is_other) = three_bytes other_name three_other in
    let same : has_name (x ∷ y ∷ z ∷ []) (a ∷ b ∷ c ∷ []) ≡ true = rw (is, is_other) at named in
    let first = and_parts (nat_eq x a) (nat_eq y b && (nat_eq z c && true)) same in
    let second = and_parts (nat_eq y b) (nat_eq z c && true) first.1 in
    let third = and_parts (nat_eq z c) true second.1 in
    rw (is, is_other, eqb-true x a first.0, eqb-true y b second.0, eqb-true z c third.0) refl

-- no segment has two names
two_names : (a b c x y z : ℕ) (segment : List ℕ) → has_name (a ∷ b ∷ c ∷ []) segment ≡ true → has_name (x ∷ y ∷ z ∷ []) segment ≡ true → a ∷ b ∷ c ∷ [] ≡ x ∷ y ∷ z ∷ []
two_names a b c x y z [] named other = cc
two_names a b c x y z (u ∷ []) named other =
    let wrong = and_parts (nat_eq a u) false named in absurd (false≢true wrong.1)
two_names a b c x y z (u ∷ v ∷ []) named other =
    let first = and_parts (nat_eq a u) (nat_eq b v && false) named in
    let wrong = and_parts (nat_eq b v) false first.1 in absurd (false≢true wrong.1)
two_names a b c x y z (u ∷ v ∷ w ∷ rest) named other =
    let first = and_parts (nat_eq a u) (nat_eq b v && (nat_eq c w && true)) named in
    let second = and_parts (nat_eq b v) (nat_eq c w && true) first.1 in
    let third = and_parts (nat_eq c w) true second.1 in
    let first_other = and_parts (nat_eq x u) (nat_eq y v && (nat_eq z w && true)) other in
    let second_other = and_parts (nat_eq y v) (nat_eq z w && true) first_other.1 in
    let third_other = and_parts (nat_eq z w) true second_other.1 in
    rw (eqb-true a u first.0, eqb-true b v second.0, eqb-true c w third.0, eqb-true x u first_other.0, eqb-true y v second_other.0, eqb-true z w third_other.0) refl

pub one_name : (name other_name segment : List ℕ) → is_name name ≡ true → is_name other_name ≡ true → has_name name segment ≡ true → has_name other_name segment ≡ true → name ≡ other_name
one_name name other_name segment good good_other named named_other =
    let (a, b, c, is) = three_bytes name (is_name-length name good) in
    let (x, y, z, is_other) = three_bytes other_name (is_name-length other_name good_other) in
    let has : has_name (a ∷ b ∷ c ∷ []) segment ≡ true = ap (λ name. has_name name segment) (sym is) ∙ named in
    let has_other : has_name (x ∷ y ∷ z ∷ []) segment ≡ true = ap (λ name. has_name name segment) (sym is_other) ∙ named_other in
    is ∙ two_names a b c x y z segment has has_other ∙ sym is_other

pub has_name-leads : (d : Delims) (name segment other_name : List ℕ) → length name ≡ 3 → length other_name ≡ 3 → Leads d name segment → has_name other_name segment ≡ has_name other_name name
has_name-leads d name segment other_name three three_other leads =
    let (more, is, ends) = begins d name segment leads in rw is (same_name name more other_name three three_other)

-- the bytes of a name are letters and digits
or_true : (x : Bool) → (x || true) ≡ true
or_true true = refl
or_true false = refl

upper_word : (b : ℕ) → is_ascii_uppercase b ≡ true → is_ascii_alphanumeric b ≡ true
upper_word b upper = rw (upper, or_true (is_ascii_digit b)) refl

name_word : (b : ℕ) → (is_ascii_uppercase b || is_ascii_digit b) ≡ true → is_ascii_alphanumeric b ≡ true
name_word b upper_or_digit =
    elim (cases_Bool (is_ascii_uppercase b)) [
      | inl upper ↦ upper_word b upper
      | inr not_upper ↦ digit_word (rw not_upper at upper_or_digit)
    ] where
      digit_word : is_ascii_digit b ≡ true → is_ascii_alphanumeric b ≡ true
      digit_word digit = rw digit refl

name_lacks : (d : Delims) → AreDelims d → (a b c : ℕ) → is_name (a ∷ b ∷ c ∷ []) ≡ true → lacks d.field (a ∷ b ∷ c ∷ []) ≡ true
name_lacks d good a b c named =
    let front = and_parts (is_ascii_uppercase a && (is_ascii_uppercase b || is_ascii_digit b)) (is_ascii_uppercase c || is_ascii_digit c) named in
    let first = and_parts (is_ascii_uppercase a) (is_ascii_uppercase b || is_ascii_digit b) front.0 in
    let is = (five d good).field in
    rw (apart a d.field is (upper_word a first.0), apart b d.field is (name_word b first.1), apart c d.field is (name_word c front.1)) refl

-- what leads a text that goes on with the separator
front_leads : (d : Delims) (name rest : List ℕ) → lacks d.field name ≡ true → ends_by d.field rest ≡ true → Leads d name (name ++ rest)
front_leads d name [] lack ends = record { pieces = []; is = rw append-nil (split-whole d.field name lack) }
front_leads d name (x ∷ rest) lack ends = record { pieces = split d.field rest; is = rw (eqb-true x d.field ends) (split-append d.field name rest lack) }

-- a segment after the header
pub body_leads : (d : Delims) → AreDelims d → (segment : List ℕ) → is_body d segment ≡ true → (name : List ℕ) × (is_name name ≡ true) × (is_header name ≡ false) × Leads d name segment
body_leads d good [] body = cc
body_leads d good (a ∷ []) body = cc
body_leads d good (a ∷ b ∷ []) body = cc
body_leads d good (a ∷ b ∷ c ∷ rest) body =
    let parts = and_parts (is_named d (a ∷ b ∷ c ∷ rest)) (not (is_header (a ∷ b ∷ c ∷ rest))) body in
    let named = and_parts (is_name (a ∷ b ∷ c ∷ [])) (ends_by d.field rest) parts.0 in
    (a ∷ b ∷ c ∷ [], named.0, not_true (is_header (a ∷ b ∷ c ∷ [])) parts.1, front_leads d (a ∷ b ∷ c ∷ []) rest (name_lacks d good a b c named.0) named.1)

body_of : (d : Delims) (a b c : ℕ) (more : List ℕ) → is_name (a ∷ b ∷ c ∷ []) ≡ true → is_header (a ∷ b ∷ c ∷ []) ≡ false → ends_by d.field more ≡ true → is_body d (a ∷ b ∷ c ∷ more) ≡ true
body_of d a b c more named no_header ends = rw (named, ends, no_header) refl

pub leads_body : (d : Delims) (name segment : List ℕ) → is_name name ≡ true → is_header name ≡ false → Leads d name segment → is_body d segment ≡ true
leads_body d name segment named other leads =
    let (more, is, ends) = begins d name segment leads in
    let (a, b, c, name_is) = three_bytes name (is_name-length name named) in
    let text_is : segment ≡ a ∷ b ∷ c ∷ more = is ∙ ap (λ front. front ++ more) name_is in
    let good_name : is_name (a ∷ b ∷ c ∷ []) ≡ true = ap is_name (sym name_is) ∙ named in
    let no_header : is_header (a ∷ b ∷ c ∷ []) ≡ false = ap is_header (sym name_is) ∙ other in
    ap (is_body d) text_is ∙ body_of d a b c more good_name no_header ends

-- the first piece is what stands before the first separator
before-yes : (separator b : ℕ) (text : List ℕ) → nat_eq b separator ≡ true → before_first (λ b. nat_eq b separator) (b ∷ text) ≡ []
before-yes separator b text here = rw here refl

before-no : (separator b : ℕ) (text : List ℕ) → nat_eq b separator ≡ false → before_first (λ b. nat_eq b separator) (b ∷ text) ≡ b ∷ before_first (λ b. nat_eq b separator) text
before-no separator b text other =
    let one_more : 1 + position_or_len (λ b. nat_eq b separator) text ≡ suc (position_or_len (λ b. nat_eq b separator) text) = omega arith in
    rw (other, one_more) refl

split-before : (separator : ℕ) (text : List ℕ) → (pieces : List (List ℕ)) × (split separator text ≡ before_first (λ b. nat_eq b separator) text ∷ pieces)
split-before separator [] = ([], refl)
split-before separator (b ∷ text) =
    elim (cases_Bool (nat_eq b separator)) [
      | inl here ↦ (split separator text, rw (here) refl)
      | inr other ↦
          let (pieces, is) = split-before separator text in
          (pieces, rw (before-no separator b text other) (rw other (ap (onto_first b) is)))
    ]

-- the header
pub record Heads (d : Delims) (segment : List ℕ) : Type 0 where
  pub declared : List ℕ
  pub pieces : List (List ℕ)
  pub declares : declared_by d.field declared ≡ Some d
  pub is : split d.field segment ≡ codes "MSH" ∷ declared ∷ pieces

declared_field : (field : ℕ) (characters : List ℕ) (d : Delims) → declared_by field characters ≡ Some d → field ≡ d.field
declared_field field [] d is = cc
declared_field field (c ∷ []) d is = cc
declared_field field (c ∷ r ∷ []) d is = cc
declared_field field (c ∷ r ∷ e ∷ []) d is = cc
declared_field field (c ∷ r ∷ e ∷ s ∷ extra) d is = chosen_field (nat_le (length extra) 1 && are_delimiters (field ∷ c ∷ r ∷ e ∷ s ∷ extra)) is where
  chosen_field : (allowed : Bool) → cond allowed (Some (record { field = field; component = c; repetition = r; escape = e; subcomponent = s })) None ≡ Some d → field ≡ d.field
  chosen_field true is = ap field_of (some_of is) where
    field_of : Delims → ℕ
    field_of d = d.field

    some_of : {x y : Delims} → Some x ≡ Some y → x ≡ y
    some_of same = cc
  chosen_field false is = cc

pub header_heads : (d : Delims) → AreDelims d → (segment : List ℕ) → is_header segment ≡ true → delims_of segment ≡ Some d → Heads d segment
header_heads d good [] header declares = cc
header_heads d good (a ∷ []) header declares = cc
header_heads d good (a ∷ b ∷ []) header declares = cc
header_heads d good (a ∷ b ∷ c ∷ []) header declares = cc
header_heads d good (a ∷ b ∷ c ∷ field ∷ rest) header declares =
    let first = and_parts (nat_eq 77 a) (nat_eq 83 b && (nat_eq 72 c && true)) header in
    let second = and_parts (nat_eq 83 b) (nat_eq 72 c && true) first.1 in
    let third = and_parts (nat_eq 72 c) true second.1 in
    let is_field : field ≡ d.field = declared_field field (before_first (λ b. nat_eq b field) rest) d declares in
    let (pieces, is) = split-before d.field rest in
    let text_is : a ∷ b ∷ c ∷ field ∷ rest ≡ codes "MSH" ++ d.field ∷ rest =
    rw (sym (eqb-true 77 a first.0), sym (eqb-true 83 b second.0), sym (eqb-true 72 c third.0), is_field) refl in
    record {
      declared = before_first (λ b. nat_eq b d.field) rest;
      pieces = pieces;
      declares = rw is_field at declares;
      is = ap (split d.field) text_is ∙ split-append d.field (codes "MSH") rest (name_lacks d good 77 83 72 refl) ∙ ap (λ more. codes "MSH" ∷ more) is;
    }

pub heads_header : (d : Delims) → AreDelims d → (segment : List ℕ) → Heads d segment → (is_header segment ≡ true) × (delims_of segment ≡ Some d)
heads_header d good segment heads =
    let rest : List ℕ = join d.field (heads.declared ∷ heads.pieces) in
    let text_is : segment ≡ codes "MSH" ++ d.field ∷ rest = sym (rejoined d.field segment) ∙ ap (join d.field) heads.is in
    let (pieces, is) = split-before d.field rest in
    let both : codes "MSH" ∷ (heads.declared ∷ heads.pieces) ≡ codes "MSH" ∷ (before_first (λ b. nat_eq b d.field) rest ∷ pieces) =
    sym heads.is ∙ ap (split d.field) text_is ∙ split-append d.field (codes "MSH") rest (name_lacks d good 77 83 72 refl) ∙ ap (λ more. codes "MSH" ∷ more) is in
    let declared_is : heads.declared ≡ before_first (λ b. nat_eq b d.field) rest = second_is heads.declared heads.pieces (before_first (λ b. nat_eq b d.field) rest) pieces both in
    (ap is_header text_is, ap delims_of text_is ∙ ap (declared_by d.field) (sym declared_is) ∙ heads.declares) where
      second_is : (x : List ℕ) (xs : List (List ℕ)) (y : List ℕ) (ys : List (List ℕ)) → codes "MSH" ∷ (x ∷ xs) ≡ codes "MSH" ∷ (y ∷ ys) → x ≡ y
      second_is x xs y ys same = cc

-- an edit of a field keeps what leads a segment, and an edit behind MSH-2 what the header declares
module _ (d : Delims) (good : AreDelims d) (place : ℕ) (inner : List (ℕ × ℕ)) (piece segment : List ℕ)
    (apart_inner : lacks d.field (separators inner) ≡ true) (lack : lacks d.field piece ≡ true) where
  pieces_of : split d.field (put_in ((d.field, place) ∷ inner) piece segment) ≡ put_after (place - 1) (put_in inner piece) (split d.field segment)
  pieces_of = split-put d.field place (put_in inner piece) segment (own-put_in d.field place inner piece segment apart_inner lack)

  pub put_in-leads : (name : List ℕ) → 2 ≤ place → Leads d name segment → Leads d name (put_in ((d.field, place) ∷ inner) piece segment)
  put_in-leads name later leads =
      let below : place - 1 ≡ suc (place - 2) = omega arith in
      record {
        pieces = put_after (place - 2) (put_in inner piece) leads.pieces;
        is = pieces_of ∙ ap (λ pieces. put_after (place - 1) (put_in inner piece) pieces) leads.is ∙ ap (λ k. put_after k (put_in inner piece) (name ∷ leads.pieces)) below;
      }

  pub put_in-heads : 3 ≤ place → Heads d segment → Heads d (put_in ((d.field, place) ∷ inner) piece segment)
  put_in-heads later heads =
      let below : place - 1 ≡ suc (suc (place - 3)) = omega arith in
      record {
        declared = heads.declared;
        pieces = put_after (place - 3) (put_in inner piece) heads.pieces;
        declares = heads.declares;
        is = pieces_of ∙ ap (λ pieces. put_after (place - 1) (put_in inner piece) pieces) heads.is ∙ ap (λ k. put_after k (put_in inner piece) (codes "MSH" ∷ heads.declared ∷ heads.pieces)) below;
      }
