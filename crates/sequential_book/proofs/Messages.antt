-- The accepted arrivals among entries.
use Rattle.std.proofs.Common.{◌≡◌, ℕ, ◌+◌, ◌<◌, ◌⊎◌, inl, inr, true, false, List, [], ◌∷◌, length, drop, get_or, None, Some, refl, sym, ◌∙◌, ap, suc, zero}
use Rattle.std.specs.Prelude.{All, IfSome, count_by, filter, slice_get}
use Rattle.std.specs.List.{cons_option, filter_map}
use Rattle.std.proofs.lemmas.List.Elements.{All-head, All-tail}
use Rattle.std.proofs.lemmas.List.Sums.{length-filter}
use Rattle.plan_text.specs.Entries.{PlanEntry}
use Rattle.event_log.specs.declared.entry.Told.TheVariants as told
use Rattle.event_log.specs.declared.entry.Entry.{Entry}
use Rattle.event_log.specs.declared.entry.Entry.TheVariants.{Arrival, Take, Settle, Cancel, Deploy}
use Rattle.event_log.specs.History.{Accepted, accepted_by, accepted_from, accepted_under, deployed_by, last_from, plan_after}
use Rattle.event_log.proofs.Following.{last-after}
use Rattle.sequential_book.specs.inner.Reading.{is_acceptance, is_deployment}
use Rattle.sequential_book.proofs.Walks.{left}

-- an entry is the arrival of an accepted message and brings it, or it brings none
brings-one : (plan : PlanEntry) (e : Entry) → ((m : Accepted) × (is_acceptance e ≡ true) × (accepted_by plan e ≡ Some m)) ⊎ ((is_acceptance e ≡ false) × (accepted_by plan e ≡ None))
brings-one plan (Arrival conn channel raw (told.Accepted number)) = inl (accepted_under plan channel raw, refl, refl)
brings-one plan (Arrival conn channel raw told.Filtered) = inr (refl, refl)
brings-one plan (Arrival conn channel raw (told.Refused cause)) = inr (refl, refl)
brings-one plan (Arrival conn channel raw (told.Repeat place)) = inr (refl, refl)
brings-one plan (Take ticket now) = inr (refl, refl)
brings-one plan (Settle outcome ticket now state) = inr (refl, refl)
brings-one plan (Cancel number among mask) = inr (refl, refl)
brings-one plan (Deploy next) = inr (refl, refl)

-- there are as many accepted arrivals as accepted messages
length-accepted : (plan : PlanEntry) (es : List Entry) → length (filter is_acceptance es) ≡ length (accepted_from plan es)
length-accepted plan [] = refl
length-accepted plan (e ∷ es) = elim (brings-one plan e) [
  | inl w ↦ rw (w.1, w.2) (ap (λ n. suc n) (length-accepted (plan_after plan e) es))
  | inr w ↦ rw (w.0, w.1) (length-accepted (plan_after plan e) es)
]

pub count-accepted : (plan : PlanEntry) (es : List Entry) → count_by is_acceptance es ≡ length (accepted_from plan es)
count-accepted plan es = sym (length-filter is_acceptance es) ∙ length-accepted plan es

module _ (plan : PlanEntry) (es : List Entry) (i : ℕ) (e : Entry) (inside : i < length es) (is : e ≡ get_or es i e) where
  -- what is left begins with what the next entry brings
  left-brought : accepted_from plan (drop i es) ≡ cons_option (accepted_by plan e) (accepted_from (plan_after plan e) (drop (i + 1) es))
  left-brought = ap (accepted_from plan) (left es i e inside is)

  -- an entry that brings no message is passed
  pub passed-none : (n : ℕ) → is_acceptance e ≡ false → slice_get (accepted_from (plan_after plan e) (drop (i + 1) es)) n ≡ slice_get (accepted_from plan (drop i es)) n
  passed-none n none = sym (ap (λ ms. slice_get ms n) left-brought ∙ elim (brings-one plan e) [
    | inl w ↦ let some = w.1 in absurd cc
    | inr w ↦ ap (λ o. slice_get (cons_option o (accepted_from (plan_after plan e) (drop (i + 1) es))) n) w.1
  ])

  -- the next entry brings the message
  pub found-here : is_acceptance e ≡ true → accepted_by plan e ≡ slice_get (accepted_from plan (drop i es)) 0
  found-here some = sym (ap (λ ms. slice_get ms 0) left-brought ∙ elim (brings-one plan e) [
    | inl w ↦ ap (λ o. slice_get (cons_option o (accepted_from (plan_after plan e) (drop (i + 1) es))) 0) w.2 ∙ sym w.2
    | inr w ↦ let none = w.0 in absurd cc
  ])

  -- the next entry brings another message
  pub passed-one : (n m : ℕ) → is_acceptance e ≡ true → n ≡ suc m → slice_get (accepted_from (plan_after plan e) (drop (i + 1) es)) m ≡ slice_get (accepted_from plan (drop i es)) n
  passed-one n m some next = sym (ap (λ ms. slice_get ms n) left-brought ∙ elim (brings-one plan e) [
    | inl w ↦ ap (λ o. slice_get (cons_option o (accepted_from (plan_after plan e) (drop (i + 1) es))) n) w.2 ∙ ap (slice_get (w.0 ∷ accepted_from (plan_after plan e) (drop (i + 1) es))) next
    | inr w ↦ let none = w.0 in absurd cc
  ])

-- the plan in force after what is left, by the next entry
pub in_force-left : (plan : PlanEntry) (es : List Entry) (i : ℕ) (e : Entry) → i < length es → e ≡ get_or es i e
    → last_from (plan_after plan e) (filter_map deployed_by (drop (i + 1) es)) ≡ last_from plan (filter_map deployed_by (drop i es))
in_force-left plan es i e inside is = sym (ap (λ xs. last_from plan (filter_map deployed_by xs)) (left es i e inside is) ∙ last-after plan e (drop (i + 1) es))

-- the deployments are counted
pub deployments-counted : (es : List Entry) → count_by is_deployment es ≡ length (filter_map deployed_by es)
deployments-counted es = sym (length-filter is_deployment es) ∙ by es
  where
    by : (es : List Entry) → length (filter is_deployment es) ≡ length (filter_map deployed_by es)
    by [] = refl
    by (Arrival conn channel raw told ∷ es) = by es
    by (Take ticket now ∷ es) = by es
    by (Settle outcome ticket now state ∷ es) = by es
    by (Cancel number among mask ∷ es) = by es
    by (Deploy plan ∷ es) = ap (λ n. suc n) (by es)

-- what holds of each item holds of the one that is found
pub found-holds : {A : Type 0} (P : A → Type 0) (xs : List A) (n : ℕ) → All P xs → IfSome (slice_get xs n) P
found-holds P [] n all = tt
found-holds P (x ∷ xs) zero all = All-head P x xs all
found-holds P (x ∷ xs) (suc n) all = found-holds P xs n (All-tail P x xs all)
