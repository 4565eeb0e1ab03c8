-- The header of a message is that of its header segment.
use Rattle.std.proofs.Common.{◌≡◌, ℕ, ◌+◌, ◌<◌, ◌≤◌, Bool, true, false, ◌&&◌, find, inl, inr, List, [], ◌∷◌, length, get_or, Some, refl, sym, ap, ◌∙◌, arith, slice_get, nat_eq, codes}
use Rattle.std.proofs.lemmas.Bool.{ne_eqb, eqb-true, and_parts, cases_Bool}
use Rattle.er7_tree.specs.Delims.{Delims}
use Rattle.er7_tree.specs.Path.{field_at}
use Rattle.er7_tree.specs.Pieces.{split, piece_at}
use Rattle.er7_tree.specs.Tree.{Tree, has_name, is_header}
use Rattle.er7_tree.specs.declared.segments.Span.{Span}
use Rattle.hl7_head.specs.Header.{header}
use Rattle.er7_tree.specs.inner.Spans.{covered}
use Rattle.hl7_head.specs.inner.Places.{AreFirstPieces}
use Rattle.hl7_head.specs.inner.Segment.{component_at, header_in}

-- a field of a header segment, of whose pieces the name is the first and stands for MSH-1
pub field_read : (d : Delims) (segment text : List ℕ) (spans : List Span) → is_header segment ≡ true
    → AreFirstPieces text (split d.field segment) spans
    → (n : ℕ) (s : Span) → 1 ≤ n → n < length spans → covered text (get_or spans n s) ≡ field_at d (n + 1) segment
field_read d segment text spans is all n s low short =
    let not_first : nat_eq (n + 1) 1 ≡ false = ne_eqb (n + 1) 1 (λ e. absurd (omega arith)) in
    all.read n s short ∙ rw (is, not_first) refl

-- a component of the first repetition of a field of a header segment
pub component_read : (d : Delims) (segment text : List ℕ) (field : Span) (f : ℕ) (spans : List Span) → covered text field ≡ field_at d f segment
    → AreFirstPieces text (split d.component (piece_at 1 (split d.repetition (covered text field)))) spans
    → (n : ℕ) (s : Span) → n < length spans → covered text (get_or spans n s) ≡ component_at d f (n + 1) segment
component_read d segment text field f spans is all n s short = all.read n s short ∙ ap (λ piece. piece_at (n + 1) (split d.component (piece_at 1 (split d.repetition piece)))) is

header_first : (d : Delims) (segments : List (List ℕ)) (first : List ℕ) → slice_get segments 0 ≡ Some first → is_header first ≡ true
    → header_in d first ≡ header (record { delims = d; segments = segments })
header_first d [] first at is = cc
header_first d (other ∷ rest) first at is =
    let same : other ≡ first = cc in
    rw (same, is, is) refl

-- what the header segment says is the header of its message
pub header_by_segment : (t : Tree) (first : List ℕ) → slice_get t.segments 0 ≡ Some first → is_header first ≡ true → header_in t.delims first ≡ header t
header_by_segment t first at is = header_first t.delims t.segments first at is

-- a segment of another name is no header
not_header : (segment : List ℕ) → has_name (codes "MSA") segment ≡ true → is_header segment ≡ false
not_header [] named = cc
not_header (x ∷ []) named = let parts = and_parts (nat_eq 77 x) false named in cc
not_header (x ∷ y ∷ []) named =
    let parts = and_parts (nat_eq 77 x) (nat_eq 83 y && false) named in
    let later = and_parts (nat_eq 83 y) false parts.1 in cc
not_header (x ∷ y ∷ z ∷ rest) named =
    let first = and_parts (nat_eq 77 x) (nat_eq 83 y && has_name (codes "A") (z ∷ rest)) named in
    let second = and_parts (nat_eq 83 y) (has_name (codes "A") (z ∷ rest)) first.1 in
    let third = and_parts (nat_eq 65 z) (has_name [] rest) second.1 in
    rw (sym (eqb-true 65 z third.0), first.0, second.0) refl

-- the first that passes does pass
pub found_passes : {X : Type 0} (p : X → Bool) (xs : List X) (x : X) → Some x ≡ find p xs → p x ≡ true
found_passes p [] x is = cc
found_passes p (y ∷ ys) x is =
    elim (cases_Bool (p y)) [
      | inl here ↦ let same : Some x ≡ Some y = rw here at is in let one : x ≡ y = cc in rw one here
      | inr other ↦ found_passes p ys x (rw other at is)
    ]

-- a field of an MSA segment, whose pieces begin with its name
pub msa_field_read : (d : Delims) (segment : List ℕ) (spans : List Span) → has_name (codes "MSA") segment ≡ true → AreFirstPieces segment (split d.field segment) spans
    → (n : ℕ) (s : Span) → n < length spans → covered segment (get_or spans n s) ≡ field_at d n segment
msa_field_read d segment spans named all n s short = all.read n s short ∙ rw (not_header segment named) refl
