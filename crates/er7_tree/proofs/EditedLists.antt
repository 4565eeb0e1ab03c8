-- Segments of which one is changed.
use Rattle.std.proofs.Common.{◌≡◌, ◌≢◌, ℕ, zero, suc, ◌+◌, ◌-◌, ◌<◌, Bool, true, false, List, [], ◌∷◌, length, get_or, refl, ap, arith, nat_eq, inl, inr}
use Rattle.std.proofs.lemmas.Bool.{and_parts, and_from, cases_Bool, ne_eqb}
use Rattle.std.specs.List.{list_all, filter}
use Rattle.er7_tree.specs.Tree.{has_name}
use Rattle.er7_tree.specs.Edit.{change_segment}

module _ (name : List ℕ) (f : List ℕ → List ℕ) where
  pub length-change_segment : (n : ℕ) (segments : List (List ℕ)) → length (change_segment name n f segments) ≡ length segments
  length-change_segment n [] = refl
  length-change_segment n (segment ∷ segments) =
      elim (cases_Bool (has_name name segment)) [
        | inl named ↦ elim (cases_Bool (nat_eq n 1)) [
          | inl here ↦ rw (named, here) refl
          | inr later ↦ rw (named, later) (ap suc (length-change_segment (n - 1) segments))
        ]
        | inr other ↦ rw other (ap suc (length-change_segment n segments))
      ]

  -- what all segments pass and the change keeps, all pass
  pub list_all-change_segment : (test : List ℕ → Bool) → ((segment : List ℕ) → has_name name segment ≡ true → test segment ≡ true → test (f segment) ≡ true)
      → (n : ℕ) (segments : List (List ℕ)) → list_all test segments ≡ true → list_all test (change_segment name n f segments) ≡ true
  list_all-change_segment test keeps n [] all = refl
  list_all-change_segment test keeps n (segment ∷ segments) all =
      let parts = and_parts (test segment) (list_all test segments) all in
      elim (cases_Bool (has_name name segment)) [
        | inl named ↦ elim (cases_Bool (nat_eq n 1)) [
          | inl here ↦ rw (named, here) (and_from _ _ (keeps segment named parts.0) parts.1)
          | inr later ↦ rw (named, later) (and_from _ _ parts.0 (list_all-change_segment test keeps (n - 1) segments parts.1))
        ]
        | inr other ↦ rw other (and_from _ _ parts.0 (list_all-change_segment test keeps n segments parts.1))
      ]

  -- segments that are good, of which none has two names
  module _ (good : List ℕ → Bool) where
    -- those of another name stay
    pub filter-change_segment-other : (other_name : List ℕ) → ((segment : List ℕ) → good segment ≡ true → has_name name segment ≡ true → has_name other_name segment ≡ false)
        → ((segment : List ℕ) → good segment ≡ true → has_name name segment ≡ true → has_name other_name (f segment) ≡ false)
        → (n : ℕ) (segments : List (List ℕ)) → list_all good segments ≡ true
        → filter (has_name other_name) (change_segment name n f segments) ≡ filter (has_name other_name) segments
    filter-change_segment-other other_name was is n [] all = refl
    filter-change_segment-other other_name was is n (segment ∷ segments) all =
        let parts = and_parts (good segment) (list_all good segments) all in
        elim (cases_Bool (has_name name segment)) [
          | inl named ↦ elim (cases_Bool (nat_eq n 1)) [
            | inl here ↦ rw (named, here, was segment parts.0 named, is segment parts.0 named) refl
            | inr later ↦ rw (named, later, was segment parts.0 named) (filter-change_segment-other other_name was is (n - 1) segments parts.1)
          ]
          | inr unnamed ↦ rw unnamed (elim (cases_Bool (has_name other_name segment)) [
            | inl yes_other ↦ rw yes_other (ap (λ more. segment ∷ more) (filter-change_segment-other other_name was is n segments parts.1))
            | inr no_other ↦ rw no_other (filter-change_segment-other other_name was is n segments parts.1)
          ])
        ]

    -- the changed one, and the others of its name
    module _ (keeps : (segment : List ℕ) → good segment ≡ true → has_name name segment ≡ true → has_name name (f segment) ≡ true) where
      pub nth-change_segment : (i : ℕ) (segments : List (List ℕ)) → list_all good segments ≡ true → i < length (filter (has_name name) segments)
          → get_or (filter (has_name name) (change_segment name (i + 1) f segments)) i [] ≡ f (get_or (filter (has_name name) segments) i [])
      nth-change_segment i [] all within = absurd (omega arith)
      nth-change_segment zero (segment ∷ segments) all within =
          let parts = and_parts (good segment) (list_all good segments) all in
          elim (cases_Bool (has_name name segment)) [
            | inl named ↦ rw (named, keeps segment parts.0 named) refl
            | inr other ↦ rw (other, other) (nth-change_segment zero segments parts.1 (rw other at within))
          ]
      nth-change_segment (suc i) (segment ∷ segments) all within =
          let parts = and_parts (good segment) (list_all good segments) all in
          let not_first : nat_eq (suc i + 1) 1 ≡ false = ne_eqb (suc i + 1) 1 (λ same. absurd (omega arith)) in
          let less : suc i + 1 - 1 ≡ i + 1 = omega arith in
          elim (cases_Bool (has_name name segment)) [
            | inl named ↦ rw (named, not_first, named, less) (nth-change_segment i segments parts.1 (let there : suc i < suc (length (filter (has_name name) segments)) = rw named at within in omega arith))
            | inr other ↦ rw (other, other) (nth-change_segment (suc i) segments parts.1 (rw other at within))
          ]

      pub nth-change_segment-other : (i k : ℕ) (segments : List (List ℕ)) → list_all good segments ≡ true → k ≢ i
          → get_or (filter (has_name name) (change_segment name (i + 1) f segments)) k [] ≡ get_or (filter (has_name name) segments) k []
      nth-change_segment-other i k [] all other = refl
      nth-change_segment-other zero zero (segment ∷ segments) all differ = absurd (differ refl)
      nth-change_segment-other zero (suc k) (segment ∷ segments) all differ =
          let parts = and_parts (good segment) (list_all good segments) all in
          elim (cases_Bool (has_name name segment)) [
            | inl named ↦ rw (named, keeps segment parts.0 named) refl
            | inr other ↦ rw (other, other) (nth-change_segment-other zero (suc k) segments parts.1 differ)
          ]
      nth-change_segment-other (suc i) zero (segment ∷ segments) all differ =
          let parts = and_parts (good segment) (list_all good segments) all in
          let not_first : nat_eq (suc i + 1) 1 ≡ false = ne_eqb (suc i + 1) 1 (λ same. absurd (omega arith)) in
          elim (cases_Bool (has_name name segment)) [
            | inl named ↦ rw (named, not_first, named) refl
            | inr other ↦ rw (other, other) (nth-change_segment-other (suc i) zero segments parts.1 differ)
          ]
      nth-change_segment-other (suc i) (suc k) (segment ∷ segments) all differ =
          let parts = and_parts (good segment) (list_all good segments) all in
          let not_first : nat_eq (suc i + 1) 1 ≡ false = ne_eqb (suc i + 1) 1 (λ same. absurd (omega arith)) in
          let less : suc i + 1 - 1 ≡ i + 1 = omega arith in
          elim (cases_Bool (has_name name segment)) [
            | inl named ↦ rw (named, not_first, named, less) (nth-change_segment-other i k segments parts.1 (λ same. differ (ap suc same)))
            | inr other ↦ rw (other, other) (nth-change_segment-other (suc i) (suc k) segments parts.1 differ)
          ]
