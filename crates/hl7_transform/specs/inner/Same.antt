-- Whether two steps are the same.
use Rattle.std.specs.Prelude.{◌≡◌, refl, ℕ, List, Bool, ◌&&◌, Option, None, Some}
use Rattle.std.specs.Cmp.Lexicographic.{pointwise}
use Rattle.std.specs.Str.{bytes_eq}
use Rattle.std.proofs.Common.{ap}
use Rattle.std.proofs.lemmas.Bool.Decides.{Decides-and}
use Rattle.std.proofs.lemmas.Slice.Eq.{bytes_eq-Decides, slice_eq-Decides}
use Rattle.std.specs.Bool.{Decides}
use Rattle.hl7_filter.specs.inner.Same.{decided, decided-Decides, by_test, place-discrete, text-discrete}
use Rattle.hl7_transform.specs.Step.{Edit, Edit-discrete}

-- the same pair
abbrev pub same_pair : List ℕ × List ℕ → List ℕ × List ℕ → Bool
same_pair p q = bytes_eq p.0 q.0 && bytes_eq p.1 q.1

both : List ℕ → List ℕ → List ℕ × List ℕ
both a b = (a, b)

alike : (a b c d : List ℕ) → a ≡ c → b ≡ d → both a b ≡ both c d
alike a b c d first second = rw (first, second) refl

pub same_pair-Decides : (p q : List ℕ × List ℕ) → Decides (same_pair p q) (p ≡ q)
unfolding both
same_pair-Decides p q =
    let each = Decides-and _ _ (bytes_eq-Decides p.0 q.0) (bytes_eq-Decides p.1 q.1) in
    (λ h. alike p.0 p.1 q.0 q.1 (each.0 h).0 (each.0 h).1, λ e. each.1 (ap (λ x. x.0) e, ap (λ x. x.1) e))

-- lookup tables, defaults and steps are decided by their texts and places
pub table-discrete : (x y : List (List ℕ × List ℕ)) → Dec (x ≡ y)
table-discrete x y = by_test (pointwise same_pair x y) (slice_eq-Decides same_pair-Decides x y (pointwise same_pair x y) refl)

pub default-discrete : (x y : Option (List ℕ)) → Dec (x ≡ y)
default-discrete None None = yes refl
default-discrete (Some x) (Some y) = by_text (text-discrete x y)
  where
    by_text : Dec (x ≡ y) → Dec (Some x ≡ Some y)
    by_text (yes same) = yes (ap Some same)
    by_text (no apart) = no (λ same. apart cc)
default-discrete None (Some y) = no (λ same. cc)
default-discrete (Some x) None = no (λ same. cc)

-- two steps do the same
abbrev pub same_edit : Edit → Edit → Bool
same_edit x y = decided (Edit-discrete place-discrete text-discrete table-discrete default-discrete x y)

pub same_edit-Decides : (x y : Edit) → Decides (same_edit x y) (x ≡ y)
same_edit-Decides x y = decided-Decides (Edit-discrete place-discrete text-discrete table-discrete default-discrete x y)
