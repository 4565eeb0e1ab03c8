-- Elements of lists: the entries of a seat, and the parts of a `flat_map`.
use Rattle.std.proofs.Common.{◌≡◌, ℕ, zero, suc, Bool, true, false, cond, List, [], ◌∷◌, ◌++◌, length, map, take, Some, slice_get, refl, sym, ap, ◌∙◌, subst, inl, inr, append_assoc, arith}
use Rattle.std.specs.List.{Contains, filter, flat_map}
use Rattle.std.proofs.Math.Seq.{take-append_seam}
use Rattle.std.proofs.lemmas.List.Concat.{flat_map-cons}
use Rattle.std.proofs.lemmas.List.Elements.{Contains-append_cases, Contains-append_left, Contains-append_right, Contains-push, Contains-push_cases}
use Rattle.std.proofs.lemmas.Option.{same_Some}
use mathlib.Core.List.{IsPrefix}
use Rattle.ghost_log.specs.Seats.{entries_of, is_by}
use Rattle.ghost_log.proofs.Seats.{entries-append, entry_one}

pub contains_one : {A : Type 0} (x y : A) → Contains (x ∷ []) y → x ≡ y
contains_one x y h = elim (Contains-push_cases [] x y h) [
  | inl none ↦ let inside = none.1 in absurd (omega arith)
  | inr same ↦ same
]

pub contains_first : {A : Type 0} (x : A) (xs : List A) → Contains (x ∷ xs) x
contains_first x xs = Contains-append_left (x ∷ []) xs x (Contains-push [] x)

-- an entry of the log is one of its seat
pub contains_own : {E : Type 0} (i : ℕ) (log : List (ℕ × E)) (k : ℕ) (e : E) → slice_get log k ≡ Some (i, e) → Contains (entries_of i log) e
contains_own i [] k e at = absurd cc
contains_own {E} i (x ∷ xs) zero e at =
    let first : entries_of i (x ∷ []) ≡ e ∷ [] = ap (λ (y : ℕ × E). entries_of i (y ∷ [])) (same_Some x (i, e) at) ∙ entry_one i e in
    subst (λ (w : List E). Contains w e) (sym (entries-append i (x ∷ []) xs ∙ ap (λ w. w ++ entries_of i xs) first)) (contains_first e (entries_of i xs))
contains_own {E} i (x ∷ xs) (suc k) e at =
    subst (λ (w : List E). Contains w e) (sym (entries-append i (x ∷ []) xs)) (Contains-append_right (entries_of i (x ∷ [])) (entries_of i xs) e (contains_own i xs k e at))

-- a part that holds an element of a `flat_map`
pub record IsPart {X A : Type 0} (f : X → List A) (xs : List X) (a : A) : Type 0 where
  pub part : X
  pub is_one : Contains xs part
  pub holds : Contains (f part) a

pub contains_flat : {X A : Type 0} (f : X → List A) (xs : List X) (a : A) → Contains (flat_map f xs) a → IsPart f xs a
contains_flat f [] a h = let inside = h.1 in absurd (omega arith)
contains_flat {X} {A} f (x ∷ xs) a h = elim (Contains-append_cases (f x) (flat_map f xs) a (subst (λ (w : List A). Contains w a) (flat_map-cons f x xs) h)) [
  | inl here ↦ record { part = x; is_one = contains_first x xs; holds = here }
  | inr there ↦ let p = contains_flat f xs a there in record { part = p.part; is_one = Contains-append_right (x ∷ []) xs p.part p.is_one; holds = p.holds }
]

-- the element that a `map` made one of
pub record IsImage {X A : Type 0} (f : X → A) (xs : List X) (a : A) : Type 0 where
  pub of : X
  pub is_one : Contains xs of
  pub is : f of ≡ a

pub contains_map : {X A : Type 0} (f : X → A) (xs : List X) (a : A) → Contains (map f xs) a → IsImage f xs a
contains_map f [] a h = let inside = h.1 in absurd (omega arith)
contains_map f (x ∷ xs) a h = elim (Contains-append_cases (f x ∷ []) (map f xs) a h) [
  | inl here ↦ record { of = x; is_one = contains_first x xs; is = contains_one (f x) a here }
  | inr there ↦ let w = contains_map f xs a there in record { of = w.of; is_one = Contains-append_right (x ∷ []) xs w.of w.is_one; is = w.is }
]

-- what an element of a list becomes, what it holds
pub contains_mapped : {X A : Type 0} (f : X → A) (xs : List X) (x : X) → Contains xs x → Contains (map f xs) (f x)
contains_mapped f [] x h = let inside = h.1 in absurd (omega arith)
contains_mapped {X} {A} f (y ∷ xs) x h = elim (Contains-append_cases (y ∷ []) xs x h) [
  | inl here ↦ subst (λ (a : A). Contains (f y ∷ map f xs) a) (ap f (contains_one y x here)) (contains_first (f y) (map f xs))
  | inr there ↦ Contains-append_right (f y ∷ []) (map f xs) (f x) (contains_mapped f xs x there)
]

pub contains_within : {X A : Type 0} (f : X → List A) (xs : List X) (x : X) (a : A) → Contains xs x → Contains (f x) a → Contains (flat_map f xs) a
contains_within f [] x a h inner = let inside = h.1 in absurd (omega arith)
contains_within {X} {A} f (y ∷ xs) x a h inner = subst (λ (w : List A). Contains w a) (sym (flat_map-cons f y xs)) (elim (Contains-append_cases (y ∷ []) xs x h) [
  | inl here ↦ Contains-append_left (f y) (flat_map f xs) a (subst (λ (z : X). Contains (f z) a) (sym (contains_one y x here)) inner)
  | inr there ↦ Contains-append_right (f y) (flat_map f xs) a (contains_within f xs x a there inner)
])

-- what a filter keeps is an element
kept_more : {X : Type 0} (x : X) (xs kept : List X) (a : X) (b : Bool) → (Contains kept a → Contains xs a) → Contains (cond b (x ∷ kept) kept) a → Contains (x ∷ xs) a
kept_more x xs kept a true rest h = elim (Contains-append_cases (x ∷ []) kept a h) [
  | inl here ↦ Contains-append_left (x ∷ []) xs a here
  | inr there ↦ Contains-append_right (x ∷ []) xs a (rest there)
]
kept_more x xs kept a false rest h = Contains-append_right (x ∷ []) xs a (rest h)

contains_filter : {X : Type 0} (p : X → Bool) (xs : List X) (a : X) → Contains (filter p xs) a → Contains xs a
contains_filter p [] a h = h
contains_filter p (x ∷ xs) a h = kept_more x xs (filter p xs) a (p x) (contains_filter p xs a) h

-- an entry of a seat is one of the log
pub contains_any : {E : Type 0} (i : ℕ) (log : List (ℕ × E)) (e : E) → Contains (entries_of i log) e → Contains (map (λ x. x.1) log) e
contains_any {E} i log e h =
    let kept = contains_map (λ (x : ℕ × E). x.1) (filter (is_by i) log) e h in
    subst (λ (y : E). Contains (map (λ x. x.1) log) y) kept.is (contains_mapped (λ (x : ℕ × E). x.1) log kept.of (contains_filter (is_by i) log kept.of kept.is_one))

-- the element between two parts of a list
get_seam : {A : Type 0} (xs ys : List A) (x : A) → slice_get (xs ++ x ∷ ys) (length xs) ≡ Some x
get_seam [] ys x = refl
get_seam (z ∷ xs) ys x = get_seam xs ys x

-- the last element of a prefix, and the elements before it
pub prefix_last : {A : Type 0} (before seen log : List A) (x : A) → seen ≡ before ++ x ∷ [] → IsPrefix seen log → (slice_get log (length before) ≡ Some x) × (take (length before) log ≡ before)
prefix_last {A} before seen log x is p =
    let whole : log ≡ before ++ x ∷ p.0 = sym p.1 ∙ ap (λ (w : List A). w ++ p.0) is ∙ append_assoc before (x ∷ []) p.0 in (
      ap (λ (w : List A). slice_get w (length before)) whole ∙ get_seam before p.0 x,
      ap (λ (w : List A). take (length before) w) whole ∙ take-append_seam before (x ∷ p.0),
    )
