-- What edits keep, add and leave.
use Rattle.std.proofs.Common.{◌≡◌, ◌≢◌, ℕ, zero, suc, ◌-◌, ◌≤◌, Bool, true, false, not, ◌⊎◌, List, [], ◌∷◌, ◌++◌, length, get_or, Ok, Err, refl, sym, ap, subst, ◌∙◌, arith, nat_eq, nat_le, inl, inr}
use Rattle.std.proofs.lemmas.Bool.{and_parts, and_right, cases_Bool, eqb-true, leb-false}
use Rattle.std.proofs.lemmas.List.{get_or_past}
use Rattle.std.specs.List.{list_all, filter}
use Rattle.er7_tree.specs.declared.refusal.Refusal.TheVariants.{BadPath, NoSuchSegment}
use Rattle.er7_tree.specs.Delims.{Delims, lacks}
use Rattle.er7_tree.specs.inner.Delims.{AreDelims}
use Rattle.er7_tree.specs.Tree.{Tree, is_name, has_name, is_header}
use Rattle.er7_tree.specs.inner.Tree.{IsMessage}
use Rattle.er7_tree.specs.Path.{Place, is_path, is_fixed, same_level, raw, segment_at, levels, piece_in, part_of, field_at}
use Rattle.er7_tree.specs.inner.Path.{are_apart}
use Rattle.er7_tree.specs.Pieces.{split, piece_at}
use Rattle.er7_tree.specs.Escape.{escape, controls}
use Rattle.er7_tree.specs.inner.Escape.{reserved}
use Rattle.er7_tree.specs.Edit
use Rattle.er7_tree.specs.Edit.{with_piece, put_piece, has_segment, has, has_in, field_levels}
use Rattle.er7_tree.proofs.EditedFields.{Fits}
use Rattle.er7_tree.proofs.EditedMessages.{kept_message, adds_none, raw-same, raw-apart, with_piece-length, is_path-occurrence, is_path-name}
use Rattle.er7_tree.proofs.EditedSegments.{one_name}
use Rattle.er7_tree.proofs.Placing.{missing_is}
use Rattle.er7_tree.proofs.Editing.{raw_is}
use Rattle.er7_tree.proofs.RoundTrip.{escape-reserved}

-- an edit put a piece at a path
pub record Puts (t u : Tree) (p : Place) (piece : List ℕ) : Type 0 where
  pub free : is_fixed p ≡ false
  pub there : has_segment t p ≡ true
  pub is : u ≡ with_piece t p piece

put_there : (t u : Tree) (p : Place) (piece : List ℕ) → is_fixed p ≡ false → put_piece t p piece ≡ Ok u → Puts t u p piece
put_there t u p piece free gave =
    elim (cases_Bool (has_segment t p)) [
      | inl there ↦ let made : Ok (with_piece t p piece) ≡ Ok u = rw there at gave in record { free = free; there = there; is = cc }
      | inr absent ↦ let made : Err NoSuchSegment ≡ Ok u = rw absent at gave in cc
    ]

pub set_puts : (t u : Tree) (p : Place) (bytes : List ℕ) → Edit.set t p bytes ≡ Ok u → Puts t u p (escape t.delims bytes)
set_puts t u p bytes gave =
    elim (cases_Bool (is_fixed p)) [
      | inl fixed ↦ let made : Err BadPath ≡ Ok u = rw fixed at gave in cc
      | inr free ↦ put_there t u p (escape t.delims bytes) free (rw free at gave)
    ]

pub copy_puts : (t u : Tree) (from to : Place) → Edit.copy t from to ≡ Ok u → (is_fixed from ≡ false) × (same_level from.part to.part ≡ true) × Puts t u to (raw t from)
copy_puts t u from to gave =
    elim (cases_Bool (is_fixed from)) [
      | inl fixed ↦ let made : Err BadPath ≡ Ok u = rw fixed at gave in cc
      | inr free ↦ elim (cases_Bool (is_fixed to)) [
        | inl fixed_to ↦ let made : Err BadPath ≡ Ok u = rw (free, fixed_to) at gave in cc
        | inr free_to ↦ elim (cases_Bool (same_level from.part to.part)) [
          | inl same ↦ (free, same, put_there t u to (raw t from) free_to (rw (free, free_to, same) at gave))
          | inr other ↦ let made : Err BadPath ≡ Ok u = rw (free, free_to, other) at gave in cc
        ]
      ]
    ]

-- a piece that isn't there is empty, and clearing it changes nothing
pub clear_puts : (t u : Tree) (p : Place) → Edit.clear t p ≡ Ok u → (is_fixed p ≡ false) × (Puts t u p [] ⊎ ((has t p ≡ false) × (u ≡ t)))
clear_puts t u p gave =
    elim (cases_Bool (is_fixed p)) [
      | inl fixed ↦ let made : Err BadPath ≡ Ok u = rw fixed at gave in cc
      | inr free ↦ elim (cases_Bool (has t p)) [
        | inl present ↦
            let made : Ok (with_piece t p []) ≡ Ok u = rw (free, present) at gave in
            let there = (and_parts (has_segment t p) (has_in (field_levels t.delims p (segment_at p.segment p.occurrence t.segments)) (segment_at p.segment p.occurrence t.segments)) present).0 in
            (free, inl (record { free = free; there = there; is = cc }))
        | inr absent ↦ let made : Ok t ≡ Ok u = rw (free, absent) at gave in (free, inr (absent, cc))
      ]
    ]

pub remove_gives : (t u : Tree) (name : List ℕ) → Edit.remove_segments t name ≡ Ok u
    → (is_name name ≡ true) × (is_header name ≡ false) × (u ≡ record t { segments = filter (λ segment. not (has_name name segment)) t.segments })
remove_gives t u name gave =
    elim (cases_Bool (is_name name)) [
      | inl named ↦ elim (cases_Bool (is_header name)) [
        | inl header ↦ let made : Err BadPath ≡ Ok u = rw (named, header) at gave in cc
        | inr other ↦
            let without : Tree = record t { segments = filter (λ segment. not (has_name name segment)) t.segments } in
            let made : Ok without ≡ Ok u = rw (named, other) at gave in
            (named, other, cc)
      ]
      | inr unnamed ↦ let made : Err BadPath ≡ Ok u = rw unnamed at gave in cc
    ]

-- what an edit that put a piece keeps, adds and leaves
module _ (t u : Tree) (p : Place) (piece : List ℕ) (whole : IsMessage t) (path : is_path p ≡ true) (puts : Puts t u p piece) (fits : Fits ((t.delims.field, zero) ∷ levels t.delims p.part) piece) where
  pub puts_message : lacks 13 piece ≡ true → IsMessage u
  puts_message lack = subst IsMessage (sym puts.is) (kept_message t whole p path puts.free piece fits lack)

  pub puts_lacks : (b : ℕ) → lacks b piece ≡ true → list_all (lacks b) t.segments ≡ true → list_all (lacks b) u.segments ≡ true
  puts_lacks b new lack = ap (λ (u : Tree). list_all (lacks b) u.segments) puts.is ∙ adds_none t whole p path puts.free piece fits b new lack

  pub puts_same : raw u p ≡ piece
  puts_same = ap (λ u. raw u p) puts.is ∙ raw-same t whole p path puts.free piece fits puts.there

  pub puts_apart : (q : Place) → is_path q ≡ true → are_apart p q ≡ true → raw u q ≡ raw t q
  puts_apart q other_path apart = ap (λ u. raw u q) puts.is ∙ raw-apart t whole p path puts.free piece fits puts.there q other_path apart

pub puts_length : (t u : Tree) (p : Place) (piece : List ℕ) → Puts t u p piece → length u.segments ≡ length t.segments
puts_length t u p piece puts = ap (λ (u : Tree). length u.segments) puts.is ∙ with_piece-length t p piece

-- what one of a list passes, where all do
pub list_all-among : (test : ℕ → Bool) (xs : List ℕ) (b : ℕ) → list_all test xs ≡ true → lacks b xs ≡ false → test b ≡ true
list_all-among test [] b all among = cc
list_all-among test (x ∷ xs) b all among =
    let parts = and_parts (test x) (list_all test xs) all in
    elim (cases_Bool (nat_eq x b)) [
      | inl same ↦ subst (λ x. test x ≡ true) (eqb-true x b same) parts.0
      | inr other ↦ list_all-among test xs b parts.1 (rw other at among)
    ]

-- a piece that isn't there is empty
piece_in-empty : (levels : List (ℕ × ℕ)) → piece_in levels [] ≡ []
piece_in-empty [] = refl
piece_in-empty ((separator, n) ∷ levels) = ap (piece_in levels) (no_piece (n - 1)) ∙ piece_in-empty levels where
  no_piece : (k : ℕ) → get_or {A = List ℕ} ([] ∷ []) k [] ≡ []
  no_piece zero = refl
  no_piece (suc k) = refl

pub piece_in-absent : (levels : List (ℕ × ℕ)) (text : List ℕ) → has_in levels text ≡ false → piece_in levels text ≡ []
piece_in-absent [] text absent = cc
piece_in-absent ((separator, n) ∷ levels) text absent =
    elim (cases_Bool (nat_le n (length (split separator text)))) [
      | inl present ↦ piece_in-absent levels (piece_at n (split separator text)) (rw present at absent)
      | inr past ↦
          let beyond : length (split separator text) ≤ n - 1 = let above = leb-false _ _ past in omega arith in
          ap (piece_in levels) (get_or_past (split separator text) (n - 1) [] beyond) ∙ piece_in-empty levels
    ]

pub clear_empty : (t : Tree) → IsMessage t → (p : Place) → is_path p ≡ true → is_fixed p ≡ false → has t p ≡ false → raw t p ≡ []
clear_empty t whole p path free absent =
    raw_is t whole p path free ∙ elim (cases_Bool (has_segment t p)) [
      | inl there ↦ piece_in-absent (field_levels t.delims p (segment_at p.segment p.occurrence t.segments)) (segment_at p.segment p.occurrence t.segments) (rw there at absent)
      | inr none ↦
          let few : length (filter (has_name p.segment) t.segments) ≤ p.occurrence - 1 =
          let some = is_path-occurrence p path in let above = leb-false _ _ none in omega arith in
          ap (λ segment. piece_in (field_levels t.delims p segment) segment) (missing_is p.segment p.occurrence t.segments few)
          ∙ piece_in-empty (field_levels t.delims p [])
    ]

-- a segment of another name stays
pub filter-apart : (name other_name : List ℕ) → ((segment : List ℕ) → has_name other_name segment ≡ true → has_name name segment ≡ false) → (segments : List (List ℕ))
    → filter (has_name other_name) (filter (λ segment. not (has_name name segment)) segments) ≡ filter (has_name other_name) segments
filter-apart name other_name apart [] = refl
filter-apart name other_name apart (segment ∷ segments) =
    elim (cases_Bool (has_name other_name segment)) [
      | inl named ↦ rw (apart segment named, named) (ap (λ more. segment ∷ more) (filter-apart name other_name apart segments))
      | inr unnamed ↦ rw unnamed (elim (cases_Bool (has_name name segment)) [
        | inl goes ↦ rw goes (filter-apart name other_name apart segments)
        | inr stays ↦ rw (stays, unnamed) (filter-apart name other_name apart segments)
      ])
    ]

lacks-behind : (b : ℕ) (front back : List ℕ) → lacks b back ≡ false → lacks b (front ++ back) ≡ false
lacks-behind b [] back among = among
lacks-behind b (x ∷ front) back among = and_right (not (nat_eq x b)) (lacks b (front ++ back)) (lacks-behind b front back among)

-- an escaped text lacks the control bytes
pub escape_lacks : (d : Delims) → AreDelims d → (b : ℕ) (bytes : List ℕ) → lacks b controls ≡ false → lacks b (escape d bytes) ≡ true
escape_lacks d good b bytes control =
    let among : lacks b (reserved d) ≡ false = lacks-behind b (d.field ∷ d.component ∷ d.repetition ∷ d.subcomponent ∷ []) controls control in
    list_all-among (λ b. lacks b (escape d bytes)) (reserved d) b (escape-reserved d good bytes) among

pub filter-passes : (test : List ℕ → Bool) (segments : List (List ℕ)) → list_all test (filter test segments) ≡ true
filter-passes test [] = refl
filter-passes test (segment ∷ segments) =
    elim (cases_Bool (test segment)) [
      | inl passes ↦ rw passes (rw passes (filter-passes test segments))
      | inr fails ↦ rw fails (filter-passes test segments)
    ]

pub removed_apart : (t : Tree) → IsMessage t → (name : List ℕ) → is_name name ≡ true → (q : Place) → is_path q ≡ true → q.segment ≢ name
    → raw (record t { segments = filter (λ segment. not (has_name name segment)) t.segments }) q ≡ raw t q
removed_apart t whole name named q path other =
    let named_q = is_path-name q path in
    let apart : (segment : List ℕ) → has_name q.segment segment ≡ true → has_name name segment ≡ false =
    λ segment has. elim (cases_Bool (has_name name segment)) [
      | inl has_too ↦ absurd (other (one_name q.segment name segment named_q named has has_too))
      | inr hasnt ↦ hasnt
    ] in
    ap (λ segments. part_of t.delims q.part (field_at t.delims q.field (piece_at q.occurrence segments))) (filter-apart name q.segment apart t.segments)
