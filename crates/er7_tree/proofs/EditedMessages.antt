-- A message with another piece.
use Rattle.std.proofs.Common.{◌≡◌, ◌≢◌, ℕ, zero, suc, ◌+◌, ◌-◌, ◌<◌, ◌≤◌, Bool, true, false, not, ◌&&◌, List, [], ◌∷◌, ◌++◌, length, Some, None, get_or, drop, refl, sym, ap, subst, ◌∙◌, arith, nat_eq, nat_le, inl, inr, cond, codes}
use Rattle.std.proofs.lemmas.Bool.{and_parts, and_from, and_left, and_right, cases_Bool, false≢true, ne_eqb, eqb-true, eq-eqb, leb-true, leb-false}
use Rattle.std.specs.List.{list_all, filter, starts_with}
use Rattle.er7_tree.specs.declared.path.Part.{Part}
use Rattle.er7_tree.specs.declared.path.Part.TheVariants.{Whole, Repetition, Component, Subcomponent}
use Rattle.er7_tree.specs.Delims.{Delims, is_delimiter, delims_of, declared_by, are_delimiters, lacks, all_distinct}
use Rattle.er7_tree.specs.inner.Delims.{AreDelims}
use Rattle.er7_tree.specs.Pieces.{split, join, piece_at}
use Rattle.er7_tree.specs.Tree.{Tree, is_name, has_name, is_header, is_body, first_of}
use Rattle.er7_tree.specs.inner.Tree.{IsMessage}
use Rattle.er7_tree.specs.Path.{Place, is_path, is_fixed, is_number, part_numbers, field_place, field_at, segment_at, levels, piece_in, part_of, raw}
use Rattle.er7_tree.specs.inner.Path.{holds, are_apart}
use Rattle.er7_tree.specs.Edit.{put_in, put_field, change_segment, with_piece, has_segment}
use Rattle.er7_tree.proofs.Distinct.{five, not_true, list_all_at}
use Rattle.er7_tree.proofs.EditedFields.{Fits, separators, lacks-put_in, own-put_in, piece_in-put_in, piece_in-put_in-other, parting}
use Rattle.er7_tree.proofs.EditedPieces.{put-other, piece-lacks}
use Rattle.er7_tree.proofs.Putting.{rejoined}
use Rattle.er7_tree.proofs.EditedLists.{length-change_segment, list_all-change_segment, filter-change_segment-other, nth-change_segment, nth-change_segment-other}
use Rattle.er7_tree.proofs.EditedSegments.{Leads, Heads, is_name-length, named_so, has_name-leads, body_leads, leads_body, header_heads, heads_header, put_in-leads, put_in-heads}
use Rattle.er7_tree.proofs.Messages.{delims_are}

-- the separators from the field's inwards are distinct, and no other byte
levels_distinct : (d : Delims) → AreDelims d → (part : Part) → all_distinct (d.field ∷ separators (levels d part)) ≡ true
levels_distinct d good Whole = refl
levels_distinct d good (Repetition r) = let ds = five d good in rw ds.repetition_field refl
levels_distinct d good (Component r c) = let ds = five d good in rw (ds.repetition_field, ds.component_field, ds.component_repetition) refl
levels_distinct d good (Subcomponent r c s) =
    let ds = five d good in
    rw (ds.repetition_field, ds.component_field, ds.subcomponent_field, ds.component_repetition, ds.subcomponent_repetition, ds.subcomponent_component) refl

levels_lack : (b : ℕ) (d : Delims) → AreDelims d → (part : Part) → is_delimiter b ≡ false → lacks b (d.field ∷ separators (levels d part)) ≡ true
levels_lack b d good part isnt = by_part part where
  other : (c : ℕ) → is_delimiter c ≡ true → nat_eq c b ≡ false
  other c is = ne_eqb c b (λ same. false≢true (sym isnt ∙ ap is_delimiter (sym same) ∙ is))

  by_part : (part : Part) → lacks b (d.field ∷ separators (levels d part)) ≡ true
  by_part Whole = rw (other d.field (five d good).field) refl
  by_part (Repetition r) = rw (other d.field (five d good).field, other d.repetition (five d good).repetition) refl
  by_part (Component r c) =
      rw (other d.field (five d good).field, other d.repetition (five d good).repetition, other d.component (five d good).component) refl
  by_part (Subcomponent r c s) =
      rw (other d.field (five d good).field, other d.repetition (five d good).repetition, other d.component (five d good).component, other d.subcomponent (five d good).subcomponent) refl

-- a byte that a message lacks is none of its delimiters
declared_lacks : (b field : ℕ) (characters : List ℕ) (d : Delims) → declared_by field characters ≡ Some d → lacks b characters ≡ true
    → (nat_eq d.component b ≡ false) × (nat_eq d.repetition b ≡ false) × (nat_eq d.subcomponent b ≡ false)
declared_lacks b field [] d is lack = cc
declared_lacks b field (c ∷ []) d is lack = cc
declared_lacks b field (c ∷ r ∷ []) d is lack = cc
declared_lacks b field (c ∷ r ∷ e ∷ []) d is lack = cc
declared_lacks b field (c ∷ r ∷ e ∷ s ∷ extra) d is lack = chosen (nat_le (length extra) 1 && are_delimiters (field ∷ c ∷ r ∷ e ∷ s ∷ extra)) is where
  chosen : (allowed : Bool) → cond allowed (Some (record { field = field; component = c; repetition = r; escape = e; subcomponent = s })) None ≡ Some d
      → (nat_eq d.component b ≡ false) × (nat_eq d.repetition b ≡ false) × (nat_eq d.subcomponent b ≡ false)
  chosen false is = cc
  chosen true is =
      let made : Delims = record { field = field; component = c; repetition = r; escape = e; subcomponent = s } in
      let same : made ≡ d = cc in
      let first = and_parts (not (nat_eq c b)) (lacks b (r ∷ e ∷ s ∷ extra)) lack in
      let second = and_parts (not (nat_eq r b)) (lacks b (e ∷ s ∷ extra)) first.1 in
      let third = and_parts (not (nat_eq e b)) (lacks b (s ∷ extra)) second.1 in
      let fourth = and_parts (not (nat_eq s b)) (lacks b extra) third.1 in
      subst (λ (d : Delims). (nat_eq d.component b ≡ false) × (nat_eq d.repetition b ≡ false) × (nat_eq d.subcomponent b ≡ false)) same
      (not_true (nat_eq c b) first.0, not_true (nat_eq r b) second.0, not_true (nat_eq s b) fourth.0)

header_lacks : (b : ℕ) (d : Delims) → AreDelims d → (segment : List ℕ) → is_header segment ≡ true → delims_of segment ≡ Some d → lacks b segment ≡ true
    → (part : Part) → lacks b (d.field ∷ separators (levels d part)) ≡ true
header_lacks b d good segment header declared lack = by_part where
  heads : Heads d segment
  heads = header_heads d good segment header declared

  text_is : segment ≡ codes "MSH" ++ d.field ∷ join d.field (heads.declared ∷ heads.pieces)
  text_is = sym (rejoined d.field segment) ∙ ap (join d.field) heads.is

  field : nat_eq d.field b ≡ false
  field = not_true (nat_eq d.field b) (list_all_at (λ c. not (nat_eq c b)) (codes "MSH") d.field (join d.field (heads.declared ∷ heads.pieces)) (sym (ap (lacks b) text_is) ∙ lack))

  others : (nat_eq d.component b ≡ false) × (nat_eq d.repetition b ≡ false) × (nat_eq d.subcomponent b ≡ false)
  others = declared_lacks b d.field heads.declared d heads.declares (rw heads.is at (piece-lacks b d.field 2 segment lack))

  by_part : (part : Part) → lacks b (d.field ∷ separators (levels d part)) ≡ true
  by_part Whole = rw field refl
  by_part (Repetition r) = rw (field, others.1) refl
  by_part (Component r c) = rw (field, others.1, others.0) refl
  by_part (Subcomponent r c s) = rw (field, others.1, others.0, others.2) refl

first_of_lacks : (b : ℕ) (segments : List (List ℕ)) → list_all (lacks b) segments ≡ true → lacks b (first_of segments) ≡ true
first_of_lacks b [] lack = refl
first_of_lacks b (first ∷ others) lack = (and_parts (lacks b first) (list_all (lacks b) others) lack).0

pub message_lacks : (b : ℕ) (t : Tree) → IsMessage t → list_all (lacks b) t.segments ≡ true → (part : Part) → lacks b (t.delims.field ∷ separators (levels t.delims part)) ≡ true
message_lacks b t whole lack = header_lacks b t.delims (delims_are t whole) (first_of t.segments) whole.header whole.declared (first_of_lacks b t.segments lack)

-- the parts of a path's invariant
record Path_parts (p : Place) : Type 0 where
  named : is_name p.segment ≡ true
  occurrence : 1 ≤ p.occurrence
  field : 1 ≤ p.field
  inner : list_all is_number (part_numbers p.part) ≡ true

path_parts : (p : Place) → is_path p ≡ true → Path_parts p
path_parts p path =
    let front = (and_parts _ _ path).0 in
    let front = (and_parts _ _ front).0 in
    let parts = and_parts (is_name p.segment) (list_all is_number (p.occurrence ∷ p.field ∷ part_numbers p.part)) front in
    let first = and_parts (is_number p.occurrence) (list_all is_number (p.field ∷ part_numbers p.part)) parts.1 in
    let second = and_parts (is_number p.field) (list_all is_number (part_numbers p.part)) first.1 in
    record {
      named = parts.0;
      occurrence = leb-true 1 p.occurrence (and_parts (nat_le 1 p.occurrence) (nat_le p.occurrence 999) first.0).0;
      field = leb-true 1 p.field (and_parts (nat_le 1 p.field) (nat_le p.field 999) second.0).0;
      inner = second.1;
    }

pub is_path-occurrence : (p : Place) → is_path p ≡ true → 1 ≤ p.occurrence
is_path-occurrence p path = (path_parts p path).occurrence

pub is_path-name : (p : Place) → is_path p ≡ true → is_name p.segment ≡ true
is_path-name p path = (path_parts p path).named

-- a segment that is led by a name
abbrev pub is_led : Delims → List ℕ → Bool
is_led d segment = nat_eq (length (piece_at 1 (split d.field segment))) 3

led : (d : Delims) (segment : List ℕ) → is_led d segment ≡ true → (name : List ℕ) × (length name ≡ 3) × Leads d name segment
led d segment is = by_pieces (split d.field segment) refl where
  by_pieces : (pieces : List (List ℕ)) → split d.field segment ≡ pieces → (name : List ℕ) × (length name ≡ 3) × Leads d name segment
  by_pieces [] none = let wrong : nat_eq 0 3 ≡ true = rw none at is in cc
  by_pieces (name ∷ pieces) cut = (name, eqb-true (length name) 3 (rw cut at is), record { pieces = pieces; is = cut })

leads_led : (d : Delims) (name segment : List ℕ) → length name ≡ 3 → Leads d name segment → is_led d segment ≡ true
leads_led d name segment three leads = rw leads.is (eq-eqb (length name) 3 three)

heads_leads : (d : Delims) (segment : List ℕ) → Heads d segment → Leads d (codes "MSH") segment
heads_leads d segment heads = record { pieces = heads.declared ∷ heads.pieces; is = heads.is }

body_led : (d : Delims) → AreDelims d → (segment : List ℕ) → is_body d segment ≡ true → is_led d segment ≡ true
body_led d good segment body = let (name, named, other, leads) = body_leads d good segment body in leads_led d name segment (is_name-length name named) leads

list_all-weaker : (test weaker : List ℕ → Bool) → ((segment : List ℕ) → test segment ≡ true → weaker segment ≡ true) → (segments : List (List ℕ)) → list_all test segments ≡ true → list_all weaker segments ≡ true
list_all-weaker test weaker follows [] all = refl
list_all-weaker test weaker follows (segment ∷ segments) all =
    let parts = and_parts (test segment) (list_all test segments) all in and_from _ _ (follows segment parts.0) (list_all-weaker test weaker follows segments parts.1)

all_led : (d : Delims) → AreDelims d → (segments : List (List ℕ)) → is_header (first_of segments) ≡ true → delims_of (first_of segments) ≡ Some d → list_all (is_body d) (drop 1 segments) ≡ true
    → list_all (is_led d) segments ≡ true
all_led d good [] header declared named = refl
all_led d good (first ∷ others) header declared named =
    and_from _ _ (leads_led d (codes "MSH") first refl (heads_leads d first (header_heads d good first header declared)))
    (list_all-weaker (is_body d) (is_led d) (body_led d good) others named)

pub message_led : (t : Tree) → IsMessage t → list_all (is_led t.delims) t.segments ≡ true
message_led t whole = all_led t.delims (delims_are t whole) t.segments whole.header whole.declared whole.named

-- a field that is not MSH-1
field_at-behind : (d : Delims) (field : ℕ) (segment : List ℕ) → (is_header segment && nat_eq field 1) ≡ false → field_at d field segment ≡ piece_at (field_place segment field) (split d.field segment)
field_at-behind d field segment behind = rw behind refl

places_differ : (header : Bool) (m n : ℕ) → 1 ≤ m → 1 ≤ n → m ≢ n → cond header m (m + 1) - 1 ≢ cond header n (n + 1) - 1
places_differ true m n some some_too differ equal = differ (omega arith)
places_differ false m n some some_too differ equal = differ (omega arith)

few_numbers : (part : Part) → length (part_numbers part) ≤ 3
few_numbers Whole = omega arith
few_numbers (Repetition r) = omega arith
few_numbers (Component r c) = omega arith
few_numbers (Subcomponent r c s) = omega arith

-- the edit of a segment that a path names
module _ (d : Delims) (good : AreDelims d) (p : Place) (path : is_path p ≡ true) (free : is_fixed p ≡ false) (piece : List ℕ)
    (fits : Fits ((d.field, zero) ∷ levels d p.part) piece) where
  parts : Path_parts p
  parts = path_parts p path

  distinct : all_distinct (d.field ∷ separators (levels d p.part)) ≡ true
  distinct = levels_distinct d good p.part

  inner_apart : lacks d.field (separators (levels d p.part)) ≡ true
  inner_apart = (and_parts (lacks d.field (separators (levels d p.part))) (all_distinct (separators (levels d p.part))) distinct).0

  piece_lacks : lacks d.field piece ≡ true
  piece_lacks = (and_parts (lacks d.field piece) (list_all (λ separator. lacks separator piece) (separators (levels d p.part))) fits).0

  -- MSH-1 and MSH-2 are not edited
  behind : is_header p.segment ≡ true → 3 ≤ p.field
  behind header =
      elim (cases_Bool (nat_le p.field 2)) [
        | inl front ↦ absurd (false≢true (sym free ∙ and_from _ _ header front))
        | inr later ↦ leb-false p.field 2 later
      ]

  -- the first piece of the segment stays
  place_later : (segment : List ℕ) → (is_header segment ≡ true → is_header p.segment ≡ true) → 2 ≤ field_place segment p.field
  place_later segment same =
      elim (cases_Bool (is_header segment)) [
        | inl header ↦ let later : 3 ≤ p.field = behind (same header) in rw header (omega arith)
        | inr other ↦ let some : 1 ≤ p.field = parts.field in rw other (omega arith)
      ]

  pub kept_leads : (name segment : List ℕ) → (is_header segment ≡ true → is_header p.segment ≡ true) → Leads d name segment → Leads d name (put_field d p piece segment)
  kept_leads name segment same leads =
      put_in-leads d good (field_place segment p.field) (levels d p.part) piece segment inner_apart piece_lacks name (place_later segment same) leads

  -- a body segment stays one
  pub kept_body : (segment : List ℕ) → is_body d segment ≡ true → is_body d (put_field d p piece segment) ≡ true
  kept_body segment body =
      let (name, named, other, leads) = body_leads d good segment body in
      let three = is_name-length name named in
      let no_header : is_header segment ≡ false = has_name-leads d name segment (codes "MSH") three refl leads ∙ other in
      leads_body d name (put_field d p piece segment) named other (kept_leads name segment (λ header. absurd (false≢true (sym no_header ∙ header))) leads)

  -- a led segment that has the path's name is led by it
  pub named_leads : (segment : List ℕ) → is_led d segment ≡ true → has_name p.segment segment ≡ true → Leads d p.segment segment
  named_leads segment is named =
      let (name, three, leads) = led d segment is in
      let three_too = is_name-length p.segment parts.named in
      let has : has_name p.segment name ≡ true = sym (has_name-leads d name segment p.segment three three_too leads) ∙ named in
      subst (λ front. Leads d front segment) (sym (named_so name p.segment three three_too has)) leads

  pub named_header : (segment : List ℕ) → is_led d segment ≡ true → has_name p.segment segment ≡ true → is_header segment ≡ is_header p.segment
  named_header segment is named = has_name-leads d p.segment segment (codes "MSH") (is_name-length p.segment parts.named) refl (named_leads segment is named)

  pub kept_named : (segment : List ℕ) → is_led d segment ≡ true → has_name p.segment segment ≡ true → Leads d p.segment (put_field d p piece segment)
  kept_named segment is named =
      kept_leads p.segment segment (λ header. sym (named_header segment is named) ∙ header) (named_leads segment is named)

  -- so it has the names that it had
  pub kept_names : (name segment : List ℕ) → length name ≡ 3 → is_led d segment ≡ true → has_name p.segment segment ≡ true → has_name name (put_field d p piece segment) ≡ has_name name segment
  kept_names name segment three is named =
      has_name-leads d p.segment (put_field d p piece segment) name (is_name-length p.segment parts.named) three (kept_named segment is named)
      ∙ sym (has_name-leads d p.segment segment name (is_name-length p.segment parts.named) three (named_leads segment is named))

  -- the header stays one, and declares what it declared
  pub kept_header : (segment : List ℕ) → is_header segment ≡ true → delims_of segment ≡ Some d → has_name p.segment segment ≡ true
      → (is_header (put_field d p piece segment) ≡ true) × (delims_of (put_field d p piece segment) ≡ Some d)
  kept_header segment header declared named =
      let heads = header_heads d good segment header declared in
      let is = leads_led d (codes "MSH") segment refl (heads_leads d segment heads) in
      let later : 3 ≤ p.field = behind (sym (named_header segment is named) ∙ header) in
      let later_place : 3 ≤ field_place segment p.field = rw header later in
      heads_header d good (put_field d p piece segment) (put_in-heads d good (field_place segment p.field) (levels d p.part) piece segment inner_apart piece_lacks later_place heads)

  -- no byte is added but those of separators and of the piece
  pub kept_lacks : (b : ℕ) → lacks b (d.field ∷ separators (levels d p.part)) ≡ true → lacks b piece ≡ true → (segment : List ℕ) → lacks b segment ≡ true → lacks b (put_field d p piece segment) ≡ true
  kept_lacks b isnt new segment lack = lacks-put_in b ((d.field, field_place segment p.field) ∷ levels d p.part) piece segment isnt lack new

  pub kept_lacks_all : (b : ℕ) → lacks b (d.field ∷ separators (levels d p.part)) ≡ true → lacks b piece ≡ true → (segments : List (List ℕ)) → list_all (lacks b) segments ≡ true
      → list_all (lacks b) (change_segment p.segment p.occurrence (put_field d p piece) segments) ≡ true
  kept_lacks_all b isnt new segments lack =
      list_all-change_segment p.segment (put_field d p piece) (lacks b) (λ segment named. kept_lacks b isnt new segment) p.occurrence segments lack

  kept_bodies : (n : ℕ) (segments : List (List ℕ)) → list_all (is_body d) segments ≡ true → list_all (is_body d) (change_segment p.segment n (put_field d p piece) segments) ≡ true
  kept_bodies n segments all = list_all-change_segment p.segment (put_field d p piece) (is_body d) (λ segment named. kept_body segment) n segments all

  pub kept : (segments : List (List ℕ)) → lacks 13 piece ≡ true → IsMessage (record { delims = d; segments = segments })
      → IsMessage (record { delims = d; segments = change_segment p.segment p.occurrence (put_field d p piece) segments })
  kept [] new whole = whole
  kept (first ∷ others) new whole =
      let unbroken = kept_lacks_all 13 (levels_lack 13 d good p.part refl) new (first ∷ others) whole.unbroken in
      let few : length (change_segment p.segment p.occurrence (put_field d p piece) (first ∷ others)) ≤ 4096 =
      omega (arith, whole.few, length-change_segment p.segment (put_field d p piece) p.occurrence (first ∷ others)) in
      elim (cases_Bool (has_name p.segment first)) [
        | inl named ↦ elim (cases_Bool (nat_eq p.occurrence 1)) [
          | inl here ↦
              let header = kept_header first whole.header whole.declared named in
              record {
                header = rw (named, here) header.0;
                declared = rw (named, here) header.1;
                named = rw (named, here) whole.named;
                few = few;
                unbroken = unbroken;
              }
          | inr later ↦ record {
            header = rw (named, later) whole.header;
            declared = rw (named, later) whole.declared;
            named = rw (named, later) (kept_bodies (p.occurrence - 1) others whole.named);
            few = few;
            unbroken = unbroken;
          }
        ]
        | inr other ↦ record {
          header = rw other whole.header;
          declared = rw other whole.declared;
          named = rw other (kept_bodies p.occurrence others whole.named);
          few = few;
          unbroken = unbroken;
        }
      ]

  -- the segment of the path is the edited one, and the others are what they were
  pub segment_at-same : (segments : List (List ℕ)) → list_all (is_led d) segments ≡ true → p.occurrence ≤ length (filter (has_name p.segment) segments)
      → segment_at p.segment p.occurrence (change_segment p.segment p.occurrence (put_field d p piece) segments) ≡ put_field d p piece (segment_at p.segment p.occurrence segments)
  segment_at-same segments all within =
      let some : 1 ≤ p.occurrence = parts.occurrence in
      let whole : p.occurrence - 1 + 1 ≡ p.occurrence = omega arith in
      rw whole at (nth-change_segment p.segment (put_field d p piece) (is_led d) (λ segment is named. kept_names p.segment segment (is_name-length p.segment parts.named) is named ∙ named)
      (p.occurrence - 1) segments all (omega arith))

  pub segment_at-occurrence : (n : ℕ) (segments : List (List ℕ)) → list_all (is_led d) segments ≡ true → n - 1 ≢ p.occurrence - 1
      → segment_at p.segment n (change_segment p.segment p.occurrence (put_field d p piece) segments) ≡ segment_at p.segment n segments
  segment_at-occurrence n segments all other =
      let some : 1 ≤ p.occurrence = parts.occurrence in
      let whole : p.occurrence - 1 + 1 ≡ p.occurrence = omega arith in
      rw whole at (nth-change_segment-other p.segment (put_field d p piece) (is_led d) (λ segment is named. kept_names p.segment segment (is_name-length p.segment parts.named) is named ∙ named)
      (p.occurrence - 1) (n - 1) segments all other)

  pub segment_at-name : (name : List ℕ) (n : ℕ) (segments : List (List ℕ)) → length name ≡ 3 → has_name name p.segment ≡ false → list_all (is_led d) segments ≡ true
      → segment_at name n (change_segment p.segment p.occurrence (put_field d p piece) segments) ≡ segment_at name n segments
  segment_at-name name n segments three other all =
      let three_too = is_name-length p.segment parts.named in
      let was : (segment : List ℕ) → is_led d segment ≡ true → has_name p.segment segment ≡ true → has_name name segment ≡ false =
      λ segment is named. has_name-leads d p.segment segment name three_too three (named_leads segment is named) ∙ other in
      ap (piece_at n) (filter-change_segment-other p.segment (put_field d p piece) (is_led d) name was
      (λ segment is named. kept_names name segment three is named ∙ was segment is named) p.occurrence segments all)

  -- MSH-1 is not edited
  no_separator : (segment : List ℕ) → is_led d segment ≡ true → has_name p.segment segment ≡ true → (is_header segment && nat_eq p.field 1) ≡ false
  no_separator segment is named =
      elim (cases_Bool (is_header segment)) [
        | inl header ↦
            let later : 3 ≤ p.field = behind (sym (named_header segment is named) ∙ header) in
            and_right (is_header segment) (nat_eq p.field 1) (ne_eqb p.field 1 (λ same. absurd (omega arith)))
        | inr other ↦ and_left (is_header segment) (nat_eq p.field 1) other
      ]

  header_same : (segment : List ℕ) → is_led d segment ≡ true → has_name p.segment segment ≡ true → is_header (put_field d p piece segment) ≡ is_header segment
  header_same segment is named = kept_names (codes "MSH") segment refl is named

  -- what is found at the field of the path
  pub found : (part : Part) (segment : List ℕ) → is_led d segment ≡ true → has_name p.segment segment ≡ true
      → part_of d part (field_at d p.field segment) ≡ piece_in ((d.field, field_place segment p.field) ∷ levels d part) segment
  found part segment is named = ap (part_of d part) (field_at-behind d p.field segment (no_separator segment is named))

  found_new : (part : Part) (segment : List ℕ) → is_led d segment ≡ true → has_name p.segment segment ≡ true
      → part_of d part (field_at d p.field (put_field d p piece segment)) ≡ piece_in ((d.field, field_place segment p.field) ∷ levels d part) (put_field d p piece segment)
  found_new part segment is named =
      let same = header_same segment is named in
      let none : (is_header (put_field d p piece segment) && nat_eq p.field 1) ≡ false = ap (λ header. header && nat_eq p.field 1) same ∙ no_separator segment is named in
      ap (part_of d part) (field_at-behind d p.field (put_field d p piece segment) none
      ∙ ap (λ header. piece_at (cond header p.field (p.field + 1)) (split d.field (put_field d p piece segment))) same)

  -- the piece at the path is the new one
  pub part_of-same : (segment : List ℕ) → is_led d segment ≡ true → has_name p.segment segment ≡ true → part_of d p.part (field_at d p.field (put_field d p piece segment)) ≡ piece
  part_of-same segment is named =
      found_new p.part segment is named ∙ piece_in-put_in ((d.field, field_place segment p.field) ∷ levels d p.part) piece segment distinct fits

  -- another part of that field that is apart is what it was
  pub part_of-part : (part : Part) (segment : List ℕ) → list_all is_number (part_numbers part) ≡ true → is_led d segment ≡ true → has_name p.segment segment ≡ true
      → starts_with nat_eq (part_numbers p.part) (part_numbers part) ≡ false → starts_with nat_eq (part_numbers part) (part_numbers p.part) ≡ false
      → part_of d part (field_at d p.field (put_field d p piece segment)) ≡ part_of d part (field_at d p.field segment)
  part_of-part part segment good_numbers is named no_first no_second =
      let place = field_place segment p.field in
      let ways = parting (d.repetition ∷ d.component ∷ d.subcomponent ∷ []) (part_numbers p.part) (part_numbers part) (few_numbers p.part) (few_numbers part) parts.inner good_numbers no_first no_second in
      found_new part segment is named
      ∙ piece_in-put_in-other ((d.field, place) ∷ levels d p.part) ((d.field, place) ∷ levels d part) piece segment distinct fits (refl, inr (refl, ways))
      ∙ sym (found part segment is named)

  -- so is another field
  pub field_at-other : (field : ℕ) (segment : List ℕ) → 1 ≤ field → is_led d segment ≡ true → has_name p.segment segment ≡ true → nat_eq field p.field ≡ false
      → field_at d field (put_field d p piece segment) ≡ field_at d field segment
  field_at-other field segment some is named other =
      let same = header_same segment is named in
      let some_too : 1 ≤ p.field = parts.field in
      let differ : field ≢ p.field = λ equal. false≢true (sym other ∙ eq-eqb field p.field equal) in
      let pieces = put-other d.field (field_place segment p.field) (put_in (levels d p.part) piece) segment
      (own-put_in d.field (field_place segment p.field) (levels d p.part) piece segment inner_apart piece_lacks) (field_place segment field) (places_differ (is_header segment) field p.field some some_too differ) in
      ap (λ header. cond (header && nat_eq field 1) (d.field ∷ []) (piece_at (cond header field (field + 1)) (split d.field (put_field d p piece segment)))) same
      ∙ ap (λ piece. cond (is_header segment && nat_eq field 1) (d.field ∷ []) piece) pieces

-- places that are apart
starts_with-front : (front xs ys : List ℕ) → starts_with nat_eq (front ++ xs) (front ++ ys) ≡ starts_with nat_eq xs ys
starts_with-front [] xs ys = refl
starts_with-front (x ∷ front) xs ys = rw (eq-eqb x x refl) (starts_with-front front xs ys)

-- the element of a filtered list passes the test, and what all pass
filtered : (test good : List ℕ → Bool) (i : ℕ) (segments : List (List ℕ)) → list_all good segments ≡ true → i < length (filter test segments)
    → (good (get_or (filter test segments) i []) ≡ true) × (test (get_or (filter test segments) i []) ≡ true)
filtered test good i [] all within = absurd (omega arith)
filtered test good zero (segment ∷ segments) all within =
    let parts = and_parts (good segment) (list_all good segments) all in
    elim (cases_Bool (test segment)) [
      | inl passes ↦ rw passes (parts.0, passes)
      | inr fails ↦ rw fails (filtered test good zero segments parts.1 (rw fails at within))
    ]
filtered test good (suc i) (segment ∷ segments) all within =
    let parts = and_parts (good segment) (list_all good segments) all in
    elim (cases_Bool (test segment)) [
      | inl passes ↦ rw passes (filtered test good i segments parts.1 (let here : suc i < suc (length (filter test segments)) = rw passes at within in omega arith))
      | inr fails ↦ rw fails (filtered test good (suc i) segments parts.1 (rw fails at within))
    ]

-- at one field of one segment a place holds another where its part does
holds-part : (p q : Place) → q.segment ≡ p.segment → q.occurrence ≡ p.occurrence → q.field ≡ p.field → holds p q ≡ starts_with nat_eq (part_numbers q.part) (part_numbers p.part)
holds-part p q segment occurrence field =
    rw (segment, occurrence, field)
    (starts_with-front p.segment (p.occurrence ∷ p.field ∷ part_numbers q.part) (p.occurrence ∷ p.field ∷ part_numbers p.part)
    ∙ starts_with-front (p.occurrence ∷ p.field ∷ []) (part_numbers q.part) (part_numbers p.part))

-- a message with another piece at a path whose segment is there
module _ (t : Tree) (whole : IsMessage t) (p : Place) (path : is_path p ≡ true) (free : is_fixed p ≡ false) (piece : List ℕ)
    (fits : Fits ((t.delims.field, zero) ∷ levels t.delims p.part) piece) where
  good : AreDelims t.delims
  good = delims_are t whole

  pub kept_message : lacks 13 piece ≡ true → IsMessage (with_piece t p piece)
  kept_message new = kept t.delims good p path free piece fits t.segments new whole

  pub adds_none : (b : ℕ) → lacks b piece ≡ true → list_all (lacks b) t.segments ≡ true → list_all (lacks b) (with_piece t p piece).segments ≡ true
  adds_none b new lack = kept_lacks_all t.delims good p path free piece fits b (message_lacks b t whole lack p.part) new t.segments lack

  module _ (there : has_segment t p ≡ true) where
    within : p.occurrence ≤ length (filter (has_name p.segment) t.segments)
    within = leb-true p.occurrence (length (filter (has_name p.segment) t.segments)) there

    pub segment_is : (is_led t.delims (segment_at p.segment p.occurrence t.segments) ≡ true) × (has_name p.segment (segment_at p.segment p.occurrence t.segments) ≡ true)
    segment_is =
        let some : 1 ≤ p.occurrence = (path_parts p path).occurrence in
        filtered (has_name p.segment) (is_led t.delims) (p.occurrence - 1) t.segments (message_led t whole) (let enough = within in omega arith)

    pub raw-same : raw (with_piece t p piece) p ≡ piece
    raw-same =
        ap (λ segment. part_of t.delims p.part (field_at t.delims p.field segment)) (segment_at-same t.delims good p path free piece fits t.segments (message_led t whole) within)
        ∙ part_of-same t.delims good p path free piece fits (segment_at p.segment p.occurrence t.segments) segment_is.0 segment_is.1

    pub raw-apart : (q : Place) → is_path q ≡ true → are_apart p q ≡ true → raw (with_piece t p piece) q ≡ raw t q
    raw-apart q other_path apart =
        let d = t.delims in
        let all = message_led t whole in
        let ours = path_parts p path in
        let theirs = path_parts q other_path in
        let some : 1 ≤ p.occurrence = ours.occurrence in
        let some_other : 1 ≤ q.occurrence = theirs.occurrence in
        let ways = and_parts (not (holds p q)) (not (holds q p)) apart in
        elim (cases_Bool (has_name q.segment p.segment)) [
          | inr other_name ↦
              ap (λ segment. part_of d q.part (field_at d q.field segment))
              (segment_at-name d good p path free piece fits q.segment q.occurrence t.segments (is_name-length q.segment theirs.named) other_name all)
          | inl one_name ↦
              let name = named_so p.segment q.segment (is_name-length p.segment ours.named) (is_name-length q.segment theirs.named) one_name in
              elim (cases_Bool (nat_eq q.occurrence p.occurrence)) [
                | inr other_occurrence ↦
                    let differ : q.occurrence - 1 ≢ p.occurrence - 1 = λ equal. false≢true (sym other_occurrence ∙ eq-eqb q.occurrence p.occurrence (omega arith)) in
                    rw name (ap (λ segment. part_of d q.part (field_at d q.field segment))
                    (segment_at-occurrence d good p path free piece fits q.occurrence t.segments all differ))
                | inl one_occurrence ↦
                    let occurrence = eqb-true q.occurrence p.occurrence one_occurrence in
                    rw (name, occurrence) (ap (λ segment. part_of d q.part (field_at d q.field segment)) (segment_at-same d good p path free piece fits t.segments all within)
                    ∙ elim (cases_Bool (nat_eq q.field p.field)) [
                      | inr other_field ↦
                          ap (part_of d q.part) (field_at-other d good p path free piece fits q.field (segment_at p.segment p.occurrence t.segments) theirs.field segment_is.0 segment_is.1 other_field)
                      | inl one_field ↦
                          let field = eqb-true q.field p.field one_field in
                          rw field (part_of-part d good p path free piece fits q.part (segment_at p.segment p.occurrence t.segments) theirs.inner segment_is.0 segment_is.1
                          (sym (holds-part q p (sym name) (sym occurrence) (sym field)) ∙ not_true (holds q p) ways.1)
                          (sym (holds-part p q name occurrence field) ∙ not_true (holds p q) ways.0))
                    ])
              ]
        ]

-- a message without the segments of a name
pub filter-all : (test stays : List ℕ → Bool) (segments : List (List ℕ)) → list_all test segments ≡ true → list_all test (filter stays segments) ≡ true
filter-all test stays [] all = refl
filter-all test stays (segment ∷ segments) all =
    let parts = and_parts (test segment) (list_all test segments) all in
    elim (cases_Bool (stays segment)) [
      | inl yes_stays ↦ rw yes_stays (and_from _ _ parts.0 (filter-all test stays segments parts.1))
      | inr goes ↦ rw goes (filter-all test stays segments parts.1)
    ]

length-filter-le : (stays : List ℕ → Bool) (segments : List (List ℕ)) → length (filter stays segments) ≤ length segments
length-filter-le stays [] = omega arith
length-filter-le stays (segment ∷ segments) =
    let less = length-filter-le stays segments in
    elim (cases_Bool (stays segment)) [
      | inl yes_stays ↦ rw yes_stays (omega arith)
      | inr goes ↦ rw goes (omega arith)
    ]

pub removed : (d : Delims) → AreDelims d → (name : List ℕ) → is_name name ≡ true → is_header name ≡ false → (segments : List (List ℕ)) → IsMessage (record { delims = d; segments = segments })
    → IsMessage (record { delims = d; segments = filter (λ segment. not (has_name name segment)) segments })
removed d good name named other [] whole = whole
removed d good name named other (first ∷ others) whole =
    let stays : List ℕ → Bool = λ segment. not (has_name name segment) in
    let leads = heads_leads d first (header_heads d good first whole.header whole.declared) in
    let not_first : has_name name first ≡ false =
    has_name-leads d (codes "MSH") first name refl (is_name-length name named) leads ∙ elim (cases_Bool (has_name name (codes "MSH"))) [
      | inl same ↦ let wrong : is_header name ≡ true = ap is_header (named_so (codes "MSH") name refl (is_name-length name named) same) in absurd (false≢true (sym other ∙ wrong))
      | inr differs ↦ differs
    ] in
    let few : length (filter (λ segment. not (has_name name segment)) (first ∷ others)) ≤ 4096 = omega (arith, length-filter-le (λ segment. not (has_name name segment)) (first ∷ others), whole.few) in
    record {
      header = rw not_first whole.header;
      declared = rw not_first whole.declared;
      named = rw not_first (filter-all (is_body d) (λ segment. not (has_name name segment)) others whole.named);
      few = few;
      unbroken = filter-all (lacks 13) (λ segment. not (has_name name segment)) (first ∷ others) whole.unbroken;
    }

pub with_piece-length : (t : Tree) (p : Place) (piece : List ℕ) → length (with_piece t p piece).segments ≡ length t.segments
with_piece-length t p piece = length-change_segment p.segment (put_field t.delims p piece) p.occurrence t.segments
