-- One step of a walk over a list, by what is left of it.
use Rattle.std.proofs.Common.{◌≡◌, ℕ, ◌+◌, ◌<◌, Bool, cond, List, [], ◌∷◌, ◌++◌, length, Option, None, Some, refl, sym, ◌∙◌, ap, drop, get_or, add-one, suc}
use Rattle.std.specs.Prelude.{filter}
use Rattle.std.specs.List.{filter_map, position_from, range_with_len}
use Rattle.std.specs.Option.{unwrap_or}
use Rattle.std.proofs.Math.Seq.{drop-cons}
use Rattle.std.proofs.lemmas.List.Elements.{filter-append}
use Rattle.event_log.specs.History.{last_from}
use Rattle.event_log.proofs.Masks.{range-push}

-- what is left begins with the next item
pub left : {A : Type 0} (xs : List A) (i : ℕ) (x : A) → i < length xs → x ≡ get_or xs i x → drop i xs ≡ x ∷ drop (i + 1) xs
left xs i x inside is = drop-cons xs i x inside ∙ (ap (λ y. y ∷ drop (suc i) xs) (sym is) ∙ ap (λ k. x ∷ drop k xs) (sym (add-one i)))

-- the state so far and those that are left give the last
pub state-left : {A B : Type 0} (h : A → Option B) (xs : List A) (i : ℕ) (x : A) → i < length xs → x ≡ get_or xs i x
    → (s : B) → last_from (unwrap_or (h x) s) (filter_map h (drop (i + 1) xs)) ≡ last_from s (filter_map h (drop i xs))
state-left {B = B} h xs i x inside is s = by (h x) refl ∙ ap (λ ys. last_from s (filter_map h ys)) (sym (left xs i x inside is))
  where
    by : (o : Option B) → h x ≡ o → last_from (unwrap_or (h x) s) (filter_map h (drop (i + 1) xs)) ≡ last_from s (filter_map h (x ∷ drop (i + 1) xs))
    by None e = rw e refl
    by (Some t) e = rw e refl

-- where the next item passes, its place is the first; where it doesn't, the first is among the rest
pub place-left : {A : Type 0} (test : A → Bool) (xs : List A) (i : ℕ) (x : A) → i < length xs → x ≡ get_or xs i x
    → position_from test i (drop i xs) ≡ cond (test x) (Some i) (position_from test (i + 1) (drop (i + 1) xs))
place-left test xs i x inside is = ap (position_from test i) (left xs i x inside is)

-- one more number, kept where it passes
pub filter-more : (test : ℕ → Bool) (n : ℕ) → filter test (range_with_len 0 (n + 1)) ≡ filter test (range_with_len 0 n) ++ cond (test n) (n ∷ []) []
filter-more test n = ap (filter test) (range-push n) ∙ filter-append test (range_with_len 0 n) (n ∷ [])
