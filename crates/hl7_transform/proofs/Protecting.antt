-- Steps that may stand leave MSH-1, MSH-2 and MSH-10 as they are.
use Rattle.std.proofs.Common.{◌≡◌, ℕ, ◌+◌, Bool, true, false, not, ◌&&◌, ◌||◌, List, [], ◌∷◌, refl, sym, ap, ◌∙◌, subst, inl, inr, nat_eq, nat_le, IfOk, is_ok}
use Rattle.std.proofs.lemmas.Bool.{and_parts, and_from, cases_Bool, false≢true, eqb-true}
use Rattle.std.specs.List.{list_all}
use Rattle.er7_tree.specs.Edit as edit
use Rattle.er7_tree.specs.Escape.{escape}
use Rattle.er7_tree.specs.Path.{Place, raw, value, is_fixed, is_path, same_level}
use Rattle.er7_tree.specs.inner.Path.{holds, are_apart}
use Rattle.er7_tree.specs.Tree.{Tree, is_name, is_header}
use Rattle.er7_tree.specs.inner.Tree.{IsMessage}
use Rattle.er7_tree.proofs.EditLaws.{set_puts, copy_puts, clear_puts, remove_gives, puts_apart, removed_apart}
use Rattle.er7_tree.proofs.EditedMessages.{removed, is_path-name}
use Rattle.er7_tree.proofs.Editing.{set_kept, copy_kept, clear_kept, fits-escape, fits-raw, fits-empty}
use Rattle.er7_tree.proofs.Messages.{delims_are}
use Rattle.hl7_transform.specs.Check.{is_protected, writable, may_stand}
use Rattle.hl7_transform.specs.inner.Rules.{KeepsProtected, names_paths}
use Rattle.hl7_transform.specs.Step.{Edit, set, copy, clear, lookup, remove, partner, made, change, changed_at, after_from, after_steps}
use Rattle.hl7_transform.proofs.Outcomes.{IfOk-by, IfOk-made, IfOk-changed_at, IfOk-then, IfOk-partner}

-- a name is three bytes
three : (name : List ℕ) → is_name name ≡ true → (a : ℕ) × (b : ℕ) × (c : ℕ) × (name ≡ a ∷ b ∷ c ∷ [])
three [] named = absurd (false≢true named)
three (a ∷ []) named = absurd (false≢true named)
three (a ∷ b ∷ []) named = absurd (false≢true named)
three (a ∷ b ∷ c ∷ []) named = (a, b, c, refl)
three (a ∷ b ∷ c ∷ d ∷ rest) named = absurd (false≢true named)

-- a place that holds another is in the field of the other
held : (p q : Place) → is_name p.segment ≡ true → is_name q.segment ≡ true → holds p q ≡ true → (p.segment ≡ q.segment) × (p.field ≡ q.field)
held p q named_p named_q is =
    let name_p = three p.segment named_p in
    let name_q = three q.segment named_q in
    let first = and_parts _ _ (rw (name_p.3, name_q.3) at is) in
    let second = and_parts _ _ first.1 in
    let third = and_parts _ _ second.1 in
    let occurrence = and_parts _ _ third.1 in
    let field = and_parts _ _ occurrence.1 in
    let same : name_p.0 ∷ name_p.1 ∷ name_p.2 ∷ [] ≡ name_q.0 ∷ name_q.1 ∷ name_q.2 ∷ [] =
    rw (eqb-true name_p.0 name_q.0 first.0, eqb-true name_p.1 name_q.1 second.0, eqb-true name_p.2 name_q.2 third.0) refl in
    (name_p.3 ∙ same ∙ sym name_q.3, eqb-true p.field q.field field.0)

-- places in one field are protected alike
alike : (p q : Place) → p.segment ≡ q.segment → p.field ≡ q.field → is_protected p ≡ is_protected q
alike p q segment field =
    ap (λ name. (is_header name && nat_le p.field 2) || (is_header name && nat_eq p.field 10)) segment
    ∙ ap (λ n. (is_header q.segment && nat_le n 2) || (is_header q.segment && nat_eq n 10)) field

not_from : (x : Bool) → (x ≡ true → ⊥) → not x ≡ true
not_from true fails = absurd (fails refl)
not_from false fails = refl

-- what may be written to neither holds nor is held by what is protected
apart : (p q : Place) → is_path p ≡ true → is_path q ≡ true → is_protected p ≡ false → is_protected q ≡ true → are_apart p q ≡ true
apart p q path_p path_q free protected =
    let named_p = is_path-name p path_p in
    let named_q = is_path-name q path_q in
    and_from _ _
    (not_from (holds p q) (λ is. let same = held p q named_p named_q is in false≢true (sym free ∙ alike p q same.0 same.1 ∙ protected)))
    (not_from (holds q p) (λ is. let same = held q p named_q named_p is in false≢true (sym free ∙ sym (alike q p same.0 same.1) ∙ protected)))

-- a place that may be written to is not protected
pub free_of : (p : Place) → is_ok (writable p) ≡ true → is_protected p ≡ false
free_of p stands = elim (cases_Bool (is_protected p)) [ inl is ↦ absurd (false≢true (rw is at stands)) | inr free ↦ free ]

pub or_parts : (x y : Bool) → (x || y) ≡ false → (x ≡ false) × (y ≡ false)
or_parts true y is = absurd (false≢true (sym is))
or_parts false y is = (refl, is)

module _ (t : Tree) (whole : IsMessage t) where
  kept-set : (p : Place) (text : List ℕ) → is_path p ≡ true → is_protected p ≡ false → IfOk (made (edit.set t p text)) (KeepsProtected t)
  kept-set p text path free = IfOk-made (edit.set t p text) (KeepsProtected t) (IfOk-by (edit.set t p text) (KeepsProtected t) (λ u gave.
      let puts = set_puts t u p text gave in record {
        message = subst IsMessage (sym puts.is) (set_kept t whole p path puts.free text);
        pieces = λ q path_q protected. puts_apart t u p (escape t.delims text) whole path puts (fits-escape t.delims (delims_are t whole) p.part text) q path_q (apart p q path path_q free protected);
      }))

  kept-copy : (from to : Place) → is_path from ≡ true → is_path to ≡ true → is_protected to ≡ false → IfOk (made (edit.copy t from to)) (KeepsProtected t)
  kept-copy from to path path_to free = IfOk-made (edit.copy t from to) (KeepsProtected t) (IfOk-by (edit.copy t from to) (KeepsProtected t) (λ u gave.
      let (loose, same, puts) = copy_puts t u from to gave in record {
        message = subst IsMessage (sym puts.is) (copy_kept t whole from to path path_to loose puts.free same);
        pieces = λ q path_q protected. puts_apart t u to (raw t from) whole path_to puts (fits-raw t whole from to path loose same) q path_q (apart to q path_to path_q free protected);
      }))

  kept-clear : (p : Place) → is_path p ≡ true → is_protected p ≡ false → IfOk (made (edit.clear t p)) (KeepsProtected t)
  kept-clear p path free = IfOk-made (edit.clear t p) (KeepsProtected t) (IfOk-by (edit.clear t p) (KeepsProtected t) (λ u gave.
      elim (clear_puts t u p gave).1 [
        | inl puts ↦ record {
          message = subst IsMessage (sym puts.is) (clear_kept t whole p path puts.free);
          pieces = λ q path_q protected. puts_apart t u p [] whole path puts (fits-empty t.delims p.part) q path_q (apart p q path path_q free protected);
        }
        | inr none ↦ record { message = subst IsMessage (sym none.1) whole; pieces = λ q _ _. ap (λ v. raw v q) none.1 }
      ]))

  kept-remove : (name : List ℕ) → IfOk (made (edit.remove_segments t name)) (KeepsProtected t)
  kept-remove name = IfOk-made (edit.remove_segments t name) (KeepsProtected t) (IfOk-by (edit.remove_segments t name) (KeepsProtected t) (λ u gave.
      let (named, other, is) = remove_gives t u name gave in record {
        message = subst IsMessage (sym is) (removed t.delims (delims_are t whole) name named other t.segments whole);
        pieces = λ q path_q protected. ap (λ v. raw v q) is ∙ removed_apart t whole name named q path_q (λ same. false≢true (sym other ∙ ap is_header (sym same) ∙ header q protected));
      }))
    where
      header : (q : Place) → is_protected q ≡ true → is_header q.segment ≡ true
      header q protected = elim (cases_Bool (is_header q.segment)) [ inl is ↦ is | inr isnt ↦ absurd (false≢true (rw isnt at protected)) ]

  kept-change : (step : Edit) → names_paths step ≡ true → may_stand step ≡ true → IfOk (change step t) (KeepsProtected t)
  kept-change (set p text) path stands = kept-set p text path (free_of p stands)
  kept-change (copy from to) path stands =
      let paths = and_parts (is_path from) (is_path to) path in
      let bad : Bool = is_fixed from || is_fixed to || not (same_level from.part to.part) in
      elim (cases_Bool bad) [
        | inl is ↦ absurd (false≢true (rw is at stands))
        | inr level ↦ kept-copy from to paths.0 paths.1 (free_of to (rw level at stands))
      ]
  kept-change (clear p) path stands = kept-clear p path (free_of p stands)
  kept-change (lookup p table default) path stands =
      IfOk-partner (partner table default (value t p)) (λ text. made (edit.set t p text)) (KeepsProtected t) (λ text. kept-set p text path (free_of p stands))
  kept-change (remove name) path stands = kept-remove name

kept-from : (place : ℕ) (steps : List Edit) (start t : Tree) → KeepsProtected start t → list_all names_paths steps ≡ true → list_all may_stand steps ≡ true
    → IfOk (after_from place steps t) (KeepsProtected start)
kept-from place [] start t so_far paths stand = so_far
kept-from place (step ∷ steps) start t so_far paths stand =
    let path = and_parts (names_paths step) (list_all names_paths steps) paths in
    let stands = and_parts (may_stand step) (list_all may_stand steps) stand in
    IfOk-then (changed_at place step t) (after_from (place + 1) steps) (KeepsProtected t) (KeepsProtected start)
    (IfOk-changed_at place step t (KeepsProtected t) (kept-change t so_far.message step path.0 stands.0))
    (λ new keeps. kept-from (place + 1) steps start new
    (record { message = keeps.message; pieces = λ q path_q protected. keeps.pieces q path_q protected ∙ so_far.pieces q path_q protected }) path.1 stands.1)

-- steps that may stand leave MSH-1, MSH-2 and MSH-10
pub kept-after : (steps : List Edit) (t : Tree) → IsMessage t → list_all names_paths steps ≡ true → list_all may_stand steps ≡ true → IfOk (after_steps steps t) (KeepsProtected t)
kept-after steps t whole paths stand = kept-from 0 steps t t (record { message = whole; pieces = λ q _ _. refl }) paths stand
