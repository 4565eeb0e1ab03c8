-- What the calls that edit a message give.
use Rattle.std.proofs.Common.{◌≡◌, ℕ, zero, suc, ◌+◌, ◌-◌, ◌≤◌, Bool, true, false, List, [], ◌∷◌, length, take, set, get_or, Some, Result, Ok, Err, IsOk, refl, sym, ap, subst, ◌∙◌, arith, inl, inr, length-append}
use Rattle.std.proofs.lemmas.Bool.{and_parts, and_from, le-leb, lt-leb, leb-false, cases_Bool}
use Rattle.std.proofs.lemmas.Option.{get_or_from_slice_get}
use Rattle.std.specs.List.{list_all, filter, slice_get}
use Rattle.er7_tree.specs.declared.refusal.Refusal.{Refusal}
use Rattle.er7_tree.specs.declared.refusal.Refusal.TheVariants.{NoSuchSegment}
use Rattle.er7_tree.specs.declared.path.Part.{Part}
use Rattle.er7_tree.specs.declared.path.Part.TheVariants.{Whole, Repetition, Component, Subcomponent}
use Rattle.er7_tree.specs.Delims.{Delims, lacks}
use Rattle.er7_tree.specs.inner.Delims.{AreDelims}
use Rattle.er7_tree.specs.Tree.{Tree, has_name}
use Rattle.er7_tree.specs.inner.Tree.{IsMessage, IsOccurrence}
use Rattle.er7_tree.specs.Path.{Place, is_path, is_fixed, same_level, levels, segment_at, piece_in, raw}
use Rattle.er7_tree.specs.Escape.{escape, controls}
use Rattle.er7_tree.specs.inner.Escape.{reserved}
use Rattle.er7_tree.specs.Edit
use Rattle.er7_tree.specs.Edit.{put_field, with_piece, has_segment, change_segment, field_levels, has_in}
use Rattle.er7_tree.proofs.EditedFields.{Fits, fits-piece_in}
use Rattle.er7_tree.proofs.Distinct.{list_all_at}
use Rattle.er7_tree.proofs.EditedMessages.{kept_message, is_path-occurrence, segment_is, found}
use Rattle.er7_tree.proofs.Lacking.{raw_lacks}
use Rattle.er7_tree.proofs.Messages.{delims_are}
use Rattle.er7_tree.proofs.Placing.{changed_at, occurrence_is, missing_is, filter_more_yes}
use Rattle.er7_tree.proofs.RoundTrip.{escape-reserved}

-- the nth of a name is there
length-filter-take : (test : List ℕ → Bool) (k : ℕ) (segments : List (List ℕ)) → length (filter test (take k segments)) ≤ length (filter test segments)
length-filter-take test zero segments = omega arith
length-filter-take test (suc k) [] = omega arith
length-filter-take test (suc k) (segment ∷ segments) =
    let less = length-filter-take test k segments in
    elim (cases_Bool (test segment)) [
      | inl passes ↦ rw passes (omega arith)
      | inr fails ↦ rw fails less
    ]

pub there : (t : Tree) (p : Place) (place : ℕ) → is_path p ≡ true → IsOccurrence p.segment p.occurrence t.segments place → has_segment t p ≡ true
there t p place path at =
    let some : 1 ≤ p.occurrence = is_path-occurrence p path in
    let more = filter_more_yes (has_name p.segment) t.segments place [] at.within at.named in
    let counted : length (filter (has_name p.segment) (take (place + 1) t.segments)) ≡ p.occurrence =
    ap length more ∙ length-append (filter (has_name p.segment) (take place t.segments)) (get_or t.segments place [] ∷ []) ∙ ap (λ n. n + 1) at.before ∙ omega arith in
    le-leb _ _ (omega (arith, length-filter-take (has_name p.segment) (place + 1) t.segments, counted))

pub not_there : (t : Tree) (p : Place) → is_path p ≡ true → length (filter (has_name p.segment) t.segments) ≤ p.occurrence - 1 → has_segment t p ≡ false
not_there t p path few = let some : 1 ≤ p.occurrence = is_path-occurrence p path in lt-leb _ _ (omega arith)

-- a segment that is replaced at its place is changed there
pub placed : (t : Tree) (p : Place) (piece segment changed : List ℕ) (place : ℕ) → is_path p ≡ true → IsOccurrence p.segment p.occurrence t.segments place
    → slice_get t.segments place ≡ Some segment → changed ≡ put_field t.delims p piece segment
    → record t { segments = set t.segments place changed } ≡ with_piece t p piece
placed t p piece segment changed place path at here is =
    let f = put_field t.delims p piece in
    let segment_is : segment_at p.segment p.occurrence t.segments ≡ segment =
    occurrence_is p.segment p.occurrence t.segments place at ∙ get_or_from_slice_get t.segments place segment [] here in
    let changed_is : set t.segments place changed ≡ change_segment p.segment p.occurrence f t.segments =
    ap (set t.segments place) (is ∙ ap f (sym segment_is)) ∙ sym (changed_at p.segment p.occurrence f t.segments place (is_path-occurrence p path) at) in
    ap (λ (segments : List (List ℕ)). let u : Tree = record t { segments = segments } in u) changed_is

-- what an edit may put at a path: a piece without the separators round it
pub fits-escape : (d : Delims) → AreDelims d → (part : Part) (value : List ℕ) → Fits ((d.field, zero) ∷ levels d part) (escape d value)
fits-escape d good part value = by_part part where
  all : list_all (λ b. lacks b (escape d value)) (reserved d) ≡ true
  all = escape-reserved d good value

  field : (lacks d.field (escape d value) ≡ true) × (list_all (λ b. lacks b (escape d value)) (d.component ∷ d.repetition ∷ d.subcomponent ∷ controls) ≡ true)
  field = and_parts _ _ all

  component : (lacks d.component (escape d value) ≡ true) × (list_all (λ b. lacks b (escape d value)) (d.repetition ∷ d.subcomponent ∷ controls) ≡ true)
  component = and_parts _ _ field.1

  repetition : (lacks d.repetition (escape d value) ≡ true) × (list_all (λ b. lacks b (escape d value)) (d.subcomponent ∷ controls) ≡ true)
  repetition = and_parts _ _ component.1

  subcomponent : (lacks d.subcomponent (escape d value) ≡ true) × (list_all (λ b. lacks b (escape d value)) controls ≡ true)
  subcomponent = and_parts _ _ repetition.1

  by_part : (part : Part) → Fits ((d.field, zero) ∷ levels d part) (escape d value)
  by_part Whole = and_from _ _ field.0 refl
  by_part (Repetition r) = and_from _ _ field.0 (and_from _ _ repetition.0 refl)
  by_part (Component r c) = and_from _ _ field.0 (and_from _ _ repetition.0 (and_from _ _ component.0 refl))
  by_part (Subcomponent r c s) = and_from _ _ field.0 (and_from _ _ repetition.0 (and_from _ _ component.0 (and_from _ _ subcomponent.0 refl)))

pub fits-empty : (d : Delims) (part : Part) → Fits ((d.field, zero) ∷ levels d part) []
fits-empty d Whole = refl
fits-empty d (Repetition r) = refl
fits-empty d (Component r c) = refl
fits-empty d (Subcomponent r c s) = refl

-- a raw piece fits each path of its level
same_separators : (d : Delims) (part other : Part) (piece : List ℕ) → same_level part other ≡ true → Fits ((d.field, zero) ∷ levels d part) piece → Fits ((d.field, zero) ∷ levels d other) piece
same_separators d Whole Whole piece same fits = fits
same_separators d (Repetition r) (Repetition r') piece same fits = fits
same_separators d (Component r c) (Component r' c') piece same fits = fits
same_separators d (Subcomponent r c s) (Subcomponent r' c' s') piece same fits = fits
same_separators d part other piece same fits = cc

pub raw_is : (t : Tree) → IsMessage t → (p : Place) → is_path p ≡ true → is_fixed p ≡ false
    → raw t p ≡ piece_in (field_levels t.delims p (segment_at p.segment p.occurrence t.segments)) (segment_at p.segment p.occurrence t.segments)
raw_is t whole p path free =
    elim (cases_Bool (has_segment t p)) [
      | inl present ↦
          let fits = fits-empty t.delims p.part in
          let is = segment_is t whole p path free [] fits present in
          found t.delims (delims_are t whole) p path free [] fits p.part (segment_at p.segment p.occurrence t.segments) is.0 is.1
      | inr absent ↦
          let few : length (filter (has_name p.segment) t.segments) ≤ p.occurrence - 1 =
          let some = is_path-occurrence p path in let above = leb-false _ _ absent in omega arith in
          rw (missing_is p.segment p.occurrence t.segments few) refl
    ]

pub fits-raw : (t : Tree) → IsMessage t → (from to : Place) → is_path from ≡ true → is_fixed from ≡ false → same_level from.part to.part ≡ true
    → Fits ((t.delims.field, zero) ∷ levels t.delims to.part) (raw t from)
fits-raw t whole from to path free same =
    let segment = segment_at from.segment from.occurrence t.segments in
    let fits : Fits ((t.delims.field, zero) ∷ levels t.delims from.part) (piece_in (field_levels t.delims from segment) segment) = fits-piece_in (field_levels t.delims from segment) segment in
    same_separators t.delims from.part to.part (raw t from) same (subst (Fits ((t.delims.field, zero) ∷ levels t.delims from.part)) (sym (raw_is t whole from path free)) fits)

-- so the edited message is one
lacks-escape-13 : (d : Delims) → AreDelims d → (value : List ℕ) → lacks 13 (escape d value) ≡ true
lacks-escape-13 d good value = list_all_at (λ b. lacks b (escape d value)) (d.field ∷ d.component ∷ d.repetition ∷ d.subcomponent ∷ []) 13 (11 ∷ 28 ∷ 10 ∷ []) (escape-reserved d good value)

pub set_kept : (t : Tree) → IsMessage t → (p : Place) → is_path p ≡ true → is_fixed p ≡ false → (value : List ℕ) → IsMessage (with_piece t p (escape t.delims value))
set_kept t whole p path free value =
    let good = delims_are t whole in
    kept_message t whole p path free (escape t.delims value) (fits-escape t.delims good p.part value) (lacks-escape-13 t.delims good value)

pub copy_kept : (t : Tree) → IsMessage t → (from to : Place) → is_path from ≡ true → is_path to ≡ true → is_fixed from ≡ false → is_fixed to ≡ false → same_level from.part to.part ≡ true
    → IsMessage (with_piece t to (raw t from))
copy_kept t whole from to path path_to free free_to same =
    kept_message t whole to path_to free_to (raw t from) (fits-raw t whole from to path free same) (raw_lacks 13 t from whole whole.unbroken)

pub clear_kept : (t : Tree) → IsMessage t → (p : Place) → is_path p ≡ true → is_fixed p ≡ false → IsMessage (with_piece t p [])
clear_kept t whole p path free = kept_message t whole p path free [] (fits-empty t.delims p.part) refl

-- the answers
pub set_gives : (t : Tree) (p : Place) (value : List ℕ) (place : ℕ) → is_path p ≡ true → is_fixed p ≡ false → IsOccurrence p.segment p.occurrence t.segments place
    → Edit.set t p value ≡ Ok (with_piece t p (escape t.delims value))
set_gives t p value place path free at = rw (free, there t p place path at) refl

pub copy_gives : (t : Tree) (from to : Place) (place : ℕ) → is_path to ≡ true → is_fixed from ≡ false → is_fixed to ≡ false → same_level from.part to.part ≡ true → IsOccurrence to.segment to.occurrence t.segments place
    → Edit.copy t from to ≡ Ok (with_piece t to (raw t from))
copy_gives t from to place path free free_to same at = rw (free, free_to, same, there t to place path at) refl

pub copy_none : (t : Tree) (from to : Place) → is_path to ≡ true → is_fixed from ≡ false → is_fixed to ≡ false → same_level from.part to.part ≡ true → length (filter (has_name to.segment) t.segments) ≤ to.occurrence - 1
    → Edit.copy t from to ≡ Err NoSuchSegment
copy_none t from to path free free_to same few = rw (free, free_to, same, not_there t to path few) refl

-- an answer that is there
pub ok : (answer : Result Tree Refusal) (t : Tree) → answer ≡ Ok t → IsOk answer
ok answer t is = rw is refl

segment_is_at : (t : Tree) (p : Place) (segment : List ℕ) (place : ℕ) → IsOccurrence p.segment p.occurrence t.segments place → slice_get t.segments place ≡ Some segment
    → segment_at p.segment p.occurrence t.segments ≡ segment
segment_is_at t p segment place at here = occurrence_is p.segment p.occurrence t.segments place at ∙ get_or_from_slice_get t.segments place segment [] here

pub clear_none : (t : Tree) (p : Place) → is_path p ≡ true → is_fixed p ≡ false → length (filter (has_name p.segment) t.segments) ≤ p.occurrence - 1 → Edit.clear t p ≡ Ok t
clear_none t p path free few = rw (free, not_there t p path few) refl

pub clear_absent : (t : Tree) (p : Place) (segment : List ℕ) (place : ℕ) → is_path p ≡ true → is_fixed p ≡ false → IsOccurrence p.segment p.occurrence t.segments place
    → slice_get t.segments place ≡ Some segment → has_in (field_levels t.delims p segment) segment ≡ false → Edit.clear t p ≡ Ok t
clear_absent t p segment place path free at here absent =
    let absent_there : has_in (field_levels t.delims p (segment_at p.segment p.occurrence t.segments)) (segment_at p.segment p.occurrence t.segments) ≡ false =
    ap (λ segment. has_in (field_levels t.delims p segment) segment) (segment_is_at t p segment place at here) ∙ absent in
    rw (free, there t p place path at, absent_there) refl

pub clear_gives : (t : Tree) (p : Place) (segment : List ℕ) (place : ℕ) → is_path p ≡ true → is_fixed p ≡ false → IsOccurrence p.segment p.occurrence t.segments place
    → slice_get t.segments place ≡ Some segment → has_in (field_levels t.delims p segment) segment ≡ true → Edit.clear t p ≡ Ok (with_piece t p [])
clear_gives t p segment place path free at here present =
    let present_there : has_in (field_levels t.delims p (segment_at p.segment p.occurrence t.segments)) (segment_at p.segment p.occurrence t.segments) ≡ true =
    ap (λ segment. has_in (field_levels t.delims p segment) segment) (segment_is_at t p segment place at here) ∙ present in
    rw (free, there t p place path at, present_there) refl

pub clear_there : (t : Tree) (p : Place) (segment : List ℕ) (place : ℕ) → is_path p ≡ true → IsOccurrence p.segment p.occurrence t.segments place
    → slice_get t.segments place ≡ Some segment → has_in (field_levels t.delims p segment) segment ≡ true → Edit.has t p ≡ true
clear_there t p segment place path at here present =
    let present_there : has_in (field_levels t.delims p (segment_at p.segment p.occurrence t.segments)) (segment_at p.segment p.occurrence t.segments) ≡ true =
    ap (λ segment. has_in (field_levels t.delims p segment) segment) (segment_is_at t p segment place at here) ∙ present in
    rw (there t p place path at, present_there) refl
