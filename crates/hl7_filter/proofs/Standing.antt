-- A text that stands in a value.
use Rattle.std.proofs.Common.{◌≡◌, ℕ, zero, suc, ◌+◌, List, [], ◌∷◌, ◌++◌, Bool, true, false, ◌||◌, nat_eq, length, take, drop, Option, None, Some, refl, sym, ap, subst, take-append-drop, length-append, ◌∙◌, arith, inl, inr}
use Rattle.std.specs.List.{starts_with}
use Rattle.std.specs.Bool.{Decides}
use Rattle.std.specs.Option.{is_some}
use Rattle.std.specs.Str.Iter.{HasSubslice}
use Rattle.std.proofs.lemmas.Bool.{cases_Bool}
use Rattle.std.proofs.lemmas.List.{length-take}
use Rattle.std.proofs.Math.Seq.{drop-append_seam, take-append_seam}
use Rattle.std.proofs.lemmas.Slice.Eq.{bytes_eq-Decides}
use Rattle.memchr.specs.Find.{OccursAt, FindsNeedle, Nowhere}
use Rattle.memchr.proofs.lemmas.MatchLemmas.{OccursAt-part, OccursAt-from_part, OccursAt-split}
use Rattle.hl7_filter.specs.Condition.{occurs_in}

-- a value begins with a text exactly where the text occurs at its start
begins : (text value : List ℕ) → OccursAt value text 0 → starts_with nat_eq value text ≡ true
begins text value h = (bytes_eq-Decides text (take (length text) value)).1 (sym (OccursAt-part value text 0 h))

occurs : (text value : List ℕ) → starts_with nat_eq value text ≡ true → OccursAt value text 0
occurs text value h =
    let same = (bytes_eq-Decides text (take (length text) value)).0 h in
    let long : length text ≡ length (take (length text) value) = ap length same in
    OccursAt-from_part value text 0 (omega (arith, length-take (length text) value)) (sym same)

-- an occurrence after the first byte is one in the bytes after it
later : (text : List ℕ) (b : ℕ) (bs : List ℕ) (k : ℕ) → OccursAt (b ∷ bs) text (suc k) → OccursAt bs text k
later text b bs k h = OccursAt-from_part bs text k (omega (arith, h.fits)) (OccursAt-part (b ∷ bs) text (suc k) h)

sooner : (text : List ℕ) (b : ℕ) (bs : List ℕ) (k : ℕ) → OccursAt bs text k → OccursAt (b ∷ bs) text (suc k)
sooner text b bs k h = OccursAt-from_part (b ∷ bs) text (suc k) (omega (arith, h.fits)) (OccursAt-part bs text k h)

found_first : (text value : List ℕ) → starts_with nat_eq value text ≡ true → occurs_in text value ≡ true
found_first text [] h = h
found_first text (b ∷ bs) h = rw h refl

or_later : (x y : Bool) → y ≡ true → (x || y) ≡ true
or_later true y h = refl
or_later false y h = h

pub found : (text value : List ℕ) (k : ℕ) → OccursAt value text k → occurs_in text value ≡ true
found text value zero h = found_first text value (begins text value h)
found text [] (suc k) h = absurd (omega (arith, h.fits))
found text (b ∷ bs) (suc k) h = or_later _ _ (found text bs k (later text b bs k h))

not_first : (text value : List ℕ) → (OccursAt value text 0 → ⊥) → starts_with nat_eq value text ≡ false
not_first text value none = elim (cases_Bool (starts_with nat_eq value text)) [ inl is ↦ absurd (none (occurs text value is)) | inr isnt ↦ isnt ]

pub absent : (text value : List ℕ) → Nowhere (OccursAt value text) 0 (length value + 1) → occurs_in text value ≡ false
absent text [] none = not_first text [] (none 0 (omega arith) (omega arith))
absent text (b ∷ bs) none =
    rw (not_first text (b ∷ bs) (none 0 (omega arith) (omega arith)))
    (absent text bs (λ k low high h. none (suc k) (omega arith) (omega arith) (sooner text b bs k h)))

inside : (before text after : List ℕ) → OccursAt (before ++ (text ++ after)) text (length before)
inside before text after =
    let rest : drop (length before) (before ++ (text ++ after)) ≡ text ++ after = drop-append_seam before (text ++ after) in
    OccursAt-from_part (before ++ (text ++ after)) text (length before) (simp length-append (omega arith))
    (ap (take (length text)) rest ∙ take-append_seam text after)

-- what a search answers tells whether the text stands in the value
pub finds : (text value : List ℕ) (at : Option ℕ) → FindsNeedle value text 0 at → is_some at ≡ occurs_in text value
finds text value None none = sym (absent text value none)
finds text value (Some k) h = sym (found text value k h.1)

place_of : (text value : List ℕ) → occurs_in text value ≡ true → (k : ℕ) × OccursAt value text k
place_of text [] h = (0, occurs text [] h)
place_of text (b ∷ bs) h =
    elim (cases_Bool (starts_with nat_eq (b ∷ bs) text)) [
      | inl first ↦ (0, occurs text (b ∷ bs) first)
      | inr not_first ↦ let k = place_of text bs (rw not_first at h) in (suc k.0, sooner text b bs k.0 k.1)
    ]

-- a text stands in a value exactly where the value is something, the text and something
pub stands_in-Decides : (text value : List ℕ) → Decides (occurs_in text value) (HasSubslice value text)
stands_in-Decides text value = (
  λ h. let k = place_of text value h in (
    take k.0 value,
    drop (k.0 + length text) value,
    sym (take-append-drop k.0 value) ∙ ap (λ rest. take k.0 value ++ rest) (OccursAt-split value text k.0 k.1),
  ),
  λ parts. found text value (length parts.0) (subst (λ whole. OccursAt whole text (length parts.0)) (sym parts.2) (inside parts.0 text parts.1)),
)
