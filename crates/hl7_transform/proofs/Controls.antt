-- Steps bring in no control character.
use Rattle.std.proofs.Common.{◌≡◌, ℕ, zero, suc, ◌+◌, Bool, true, false, not, ◌&&◌, ◌||◌, List, [], ◌∷◌, refl, sym, ap, ◌∙◌, subst, inl, inr, nat_eq, arith, IfOk, Contains}
use Rattle.std.proofs.lemmas.Bool.{and_parts, cases_Bool, false≢true, ne_eqb}
use Rattle.std.specs.List.{list_all}
use Rattle.er7_tree.specs.Delims.{Delims, is_delimiter, lacks}
use Rattle.er7_tree.specs.inner.Delims.{AreDelims}
use Rattle.er7_tree.specs.Edit as edit
use Rattle.er7_tree.specs.Escape.{escape, controls}
use Rattle.er7_tree.specs.inner.Escape.{reserved}
use Rattle.er7_tree.specs.Path.{Place, raw, value, field_at, field_place, segment_at, is_fixed, same_level, levels}
use Rattle.er7_tree.specs.Tree.{Tree, has_name, is_header, is_name}
use Rattle.er7_tree.specs.inner.Tree.{IsMessage}
use Rattle.er7_tree.proofs.Distinct.{five}
use Rattle.er7_tree.proofs.Messages.{delims_are, filter_lacks}
use Rattle.er7_tree.proofs.RoundTrip.{escape-reserved}
use Rattle.hl7_transform.specs.Step.{Edit, set, copy, clear, lookup, remove, partner, made, change as change_by, changed_at, after_from, after_steps}
use Rattle.hl7_transform.proofs.Lacking.{all_lack, Keeps-put, Keeps-put_in, IsNoInner, others-levels, lacks-piece, lacks-piece_in, lacks-segment_at, lacks-change_segment}
use Rattle.hl7_transform.proofs.Outcomes.{IfOk-made, IfOk-cond, at_cond, IfOk-changed_at, IfOk-then, IfOk-partner}

-- what holds of all holds of each
pub contained : (test : ℕ → Bool) (xs : List ℕ) (x : ℕ) → list_all test xs ≡ true → Contains xs x → test x ≡ true
contained test [] x all (k, within, is) = absurd (omega arith)
contained test (y ∷ ys) x all (zero, within, is) = ap test (sym is) ∙ (and_parts (test y) (list_all test ys) all).0
contained test (y ∷ ys) x all (suc k, within, is) = contained test ys x (and_parts (test y) (list_all test ys) all).1 (k, omega arith, is)

-- the delimiters are no control characters
module _ (d : Delims) (good : AreDelims d) (b : ℕ) (control : Contains controls b) where
  no_delimiter : is_delimiter b ≡ false
  no_delimiter = not_true (is_delimiter b) (contained (λ c. not (is_delimiter c)) controls b refl control) where
    not_true : (x : Bool) → not x ≡ true → x ≡ false
    not_true true is = sym is
    not_true false is = refl

  other : (x : ℕ) → is_delimiter x ≡ true → nat_eq x b ≡ false
  other x is = ne_eqb x b (λ same. false≢true (sym no_delimiter ∙ ap is_delimiter (sym same) ∙ is))

  pub separator : nat_eq d.field b ≡ false
  separator = other d.field (five d good).field

  pub inner : IsNoInner d b
  inner = record {
    component = other d.component (five d good).component;
    repetition = other d.repetition (five d good).repetition;
    subcomponent = other d.subcomponent (five d good).subcomponent;
  }

  pub lacks-escape : (text : List ℕ) → lacks b (escape d text) ≡ true
  lacks-escape text = contained (λ c. lacks c (escape d text)) (reserved d) b (escape-reserved d good text) (behind control) where
    behind : Contains controls b → Contains (reserved d) b
    behind (k, within, is) = (suc (suc (suc (suc k))), omega arith, is)

-- the raw piece at a place
lacks-raw : (t : Tree) (b : ℕ) (p : Place) → nat_eq t.delims.field b ≡ false → all_lack b t.segments ≡ true → lacks b (raw t p) ≡ true
lacks-raw t b p other all =
    let segment = segment_at p.segment p.occurrence t.segments in
    let lack : lacks b segment ≡ true = lacks-segment_at b p.segment p.occurrence t.segments all in
    let field : lacks b (field_at t.delims p.field segment) ≡ true =
    elim (cases_Bool (is_header segment && nat_eq p.field 1)) [
      | inl separator ↦ rw (separator, other) refl
      | inr piece ↦ rw piece (lacks-piece b t.delims.field (field_place segment p.field) segment lack)
    ] in
    lacks-piece_in b (levels t.delims p.part) (field_at t.delims p.field segment) field

-- no segment holds the byte, and the delimiters stay
abbrev pub Lacks : Tree → ℕ → Tree → Type 0
Lacks t b new = (new.delims ≡ t.delims) × (all_lack b new.segments ≡ true)

module _ (t : Tree) (good : AreDelims t.delims) (b : ℕ) (control : Contains controls b) (all : all_lack b t.segments ≡ true) where
  lacks-with_piece : (p : Place) (piece : List ℕ) → lacks b piece ≡ true → Lacks t b (edit.with_piece t p piece)
  lacks-with_piece p piece lack = (
    refl,
    lacks-change_segment b p.segment p.occurrence (edit.put_field t.delims p piece) t.segments
        (λ segment bare. Keeps-put b t.delims.field (field_place segment p.field) (edit.put_in (levels t.delims p.part) piece) (separator t.delims good b control)
        (Keeps-put_in b (levels t.delims p.part) piece (others-levels t.delims b p.part (inner t.delims good b control)) lack) segment bare) all,
  )

  lacks-put_piece : (p : Place) (piece : List ℕ) → lacks b piece ≡ true → IfOk (edit.put_piece t p piece) (Lacks t b)
  lacks-put_piece p piece lack = IfOk-cond (edit.has_segment t p) _ _ (Lacks t b) (lacks-with_piece p piece lack) tt

  lacks-set : (p : Place) (text : List ℕ) → IfOk (made (edit.set t p text)) (Lacks t b)
  lacks-set p text = IfOk-made (edit.set t p text) (Lacks t b)
      (IfOk-cond (is_fixed p) _ _ (Lacks t b) tt (lacks-put_piece p (escape t.delims text) (lacks-escape t.delims good b control text)))

  lacks-change : (step : Edit) → IfOk (change_by step t) (Lacks t b)
  lacks-change (set p text) = lacks-set p text
  lacks-change (copy from to) = IfOk-made (edit.copy t from to) (Lacks t b)
      (IfOk-cond (is_fixed from || is_fixed to || not (same_level from.part to.part)) _ _ (Lacks t b) tt
      (lacks-put_piece to (raw t from) (lacks-raw t b from (separator t.delims good b control) all)))
  lacks-change (clear p) = IfOk-made (edit.clear t p) (Lacks t b)
      (IfOk-cond (is_fixed p) _ _ (Lacks t b) tt (at_cond (edit.has t p) _ _ (Lacks t b) (lacks-with_piece p [] refl) (refl, all)))
  lacks-change (lookup p table default) = IfOk-partner (partner table default (value t p)) (λ text. made (edit.set t p text)) (Lacks t b) (λ text. lacks-set p text)
  lacks-change (remove name) = IfOk-made (edit.remove_segments t name) (Lacks t b)
      (IfOk-cond (not (is_name name) || is_header name) _ _ (Lacks t b) tt (refl, filter_lacks b (λ segment. not (has_name name segment)) t.segments all))

lacks-from : (place : ℕ) (steps : List Edit) (t : Tree) (b : ℕ) → AreDelims t.delims → Contains controls b → all_lack b t.segments ≡ true
    → IfOk (after_from place steps t) (λ new. all_lack b new.segments ≡ true)
lacks-from place [] t b good control all = all
lacks-from place (step ∷ steps) t b good control all =
    IfOk-then (changed_at place step t) (after_from (place + 1) steps) (Lacks t b) (λ new. all_lack b new.segments ≡ true)
    (IfOk-changed_at place step t (Lacks t b) (lacks-change t good b control all step))
    (λ new keeps. lacks-from (place + 1) steps new b (subst AreDelims (sym keeps.0) good) control keeps.1)

-- steps bring in no control character
pub lacks-after : (steps : List Edit) (t : Tree) (b : ℕ) → IsMessage t → Contains controls b → list_all (lacks b) t.segments ≡ true
    → IfOk (after_steps steps t) (λ new. list_all (lacks b) new.segments ≡ true)
lacks-after steps t b message control all = lacks-from 0 steps t b (delims_are t message) control all
