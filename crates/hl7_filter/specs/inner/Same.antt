-- Whether two conditions are the same.
use Rattle.std.specs.Prelude.{◌≡◌, ℕ, List, Bool, true, false, ◌&&◌, ◌==◌, refl}
use Rattle.std.proofs.Common.{ap}
use Rattle.std.proofs.lemmas.Bool.{and_parts, and_from, eqb-true, eq-eqb}
use Rattle.std.proofs.lemmas.Bool.Decides.{Decides-and, Decides-eqb}
use Rattle.std.specs.Bool.{Decides}
use Rattle.std.specs.Cmp.Lexicographic.{pointwise}
use Rattle.std.specs.Str.{bytes_eq}
use Rattle.std.proofs.lemmas.Slice.Eq.{bytes_eq-Decides, slice_eq-Decides}
use Rattle.er7_tree.specs.declared.path.Part.{Part}
use Rattle.er7_tree.specs.declared.path.Part.TheVariants.{Whole, Repetition, Component, Subcomponent}
use Rattle.er7_tree.specs.Path.{Place}
use Rattle.hl7_filter.specs.Condition.{Condition, Condition-discrete}

-- a decision as a test
abbrev pub decided : {P : Type 0} → Dec P → Bool
decided (yes p) = true
decided (no p) = false

-- a test as a decision
pub by_test : {P : Type 0} (b : Bool) → Decides b P → Dec P
by_test true d = yes (d.0 refl)
by_test false d = no (λ p. let bad : false ≡ true = d.1 p in cc)

pub decided-Decides : {P : Type 0} (d : Dec P) → Decides (decided d) P
decided-Decides (yes p) = (λ _. p, λ _. refl)
decided-Decides (no f) = (λ h. cc, λ p. absurd (f p))

-- texts, lists of texts and places are decided by their bytes and numbers
pub text-discrete : (x y : List ℕ) → Dec (x ≡ y)
text-discrete x y = by_test (bytes_eq x y) (bytes_eq-Decides x y)

pub texts-discrete : (x y : List (List ℕ)) → Dec (x ≡ y)
texts-discrete x y = by_test (pointwise bytes_eq x y) (slice_eq-Decides bytes_eq-Decides x y (pointwise bytes_eq x y) refl)

-- the same part
abbrev pub same_part : Part → Part → Bool
same_part Whole Whole = true
same_part (Repetition r) (Repetition r') = r == r'
same_part (Component r c) (Component r' c') = r == r' && c == c'
same_part (Subcomponent r c s) (Subcomponent r' c' s') = r == r' && c == c' && s == s'
same_part _ _ = false

same_part-Decides : (p q : Part) → Decides (same_part p q) (p ≡ q)
same_part-Decides Whole Whole = (λ _. refl, λ _. refl)
same_part-Decides (Repetition r) (Repetition r') = (λ h. ap Repetition (eqb-true r r' h), λ e. let same : r ≡ r' = cc in eq-eqb r r' same)
same_part-Decides (Component r c) (Component r' c') = (
  λ h. let parts = and_parts _ _ h in let first = eqb-true r r' parts.0 in let second = eqb-true c c' parts.1 in cc,
  λ e. let first : r ≡ r' = cc in let second : c ≡ c' = cc in and_from _ _ (eq-eqb r r' first) (eq-eqb c c' second),
)
same_part-Decides (Subcomponent r c s) (Subcomponent r' c' s') = (
  λ h. let parts = and_parts _ _ h in let front = and_parts _ _ parts.0 in
      let first = eqb-true r r' front.0 in let second = eqb-true c c' front.1 in let third = eqb-true s s' parts.1 in cc,
  λ e. let first : r ≡ r' = cc in let second : c ≡ c' = cc in let third : s ≡ s' = cc in
      and_from _ _ (and_from _ _ (eq-eqb r r' first) (eq-eqb c c' second)) (eq-eqb s s' third),
)
same_part-Decides _ _ = (λ h. let bad : false ≡ true = h in cc, λ e. cc)

-- the same place
abbrev pub same_place : Place → Place → Bool
same_place p q = bytes_eq p.segment q.segment && p.occurrence == q.occurrence && p.field == q.field && same_part p.part q.part

place_at : List ℕ → ℕ → ℕ → Part → Place
place_at s o f p = record { segment = s; occurrence = o; field = f; part = p }

alike : (s s' : List ℕ) (o o' f f' : ℕ) (p p' : Part) → s ≡ s' → o ≡ o' → f ≡ f' → p ≡ p'
    → place_at s o f p ≡ place_at s' o' f' p'
alike s s' o o' f f' p p' same_segment same_occurrence same_field same_part = rw (same_segment, same_occurrence, same_field, same_part) refl

same_fields : (p q : Place) → p.segment ≡ q.segment → p.occurrence ≡ q.occurrence → p.field ≡ q.field → p.part ≡ q.part → p ≡ q
unfolding place_at
same_fields p q = alike p.segment q.segment p.occurrence q.occurrence p.field q.field p.part q.part

same_place-Decides : (p q : Place) → Decides (same_place p q) (p ≡ q)
same_place-Decides p q =
    let front = Decides-and _ _ (bytes_eq-Decides p.segment q.segment) (Decides-eqb p.occurrence q.occurrence) in
    let more = Decides-and _ _ front (Decides-eqb p.field q.field) in
    let all = Decides-and _ _ more (same_part-Decides p.part q.part) in (
      λ h. let e = all.0 h in same_fields p q e.0.0.0 e.0.0.1 e.0.1 e.1,
      λ e. all.1 (((ap (λ x. x.segment) e, ap (λ x. x.occurrence) e), ap (λ x. x.field) e), ap (λ x. x.part) e),
    )

pub place-discrete : (x y : Place) → Dec (x ≡ y)
place-discrete x y = by_test (same_place x y) (same_place-Decides x y)

-- two conditions are the same
abbrev pub same_condition : Condition → Condition → Bool
same_condition c d = decided (Condition-discrete place-discrete text-discrete texts-discrete c d)

pub same_condition-Decides : (c d : Condition) → Decides (same_condition c d) (c ≡ d)
same_condition-Decides c d = decided-Decides (Condition-discrete place-discrete text-discrete texts-discrete c d)
