-- Whether a key is one of those before it.
use Rattle.std.proofs.Common.{◌≡◌, ℕ, ◌+◌, ◌<◌, ◌≤◌, Bool, true, false, cond, List, [], ◌∷◌, ◌++◌, length, map, get_or, take, None, Some, refl, sym, ◌∙◌, ap, subst, arith, suc, zero, get_or-take}
use Rattle.std.specs.Prelude.{find}
use Rattle.std.specs.List.{AllByRecursion}
use Rattle.std.specs.Option.{option_map}
use Rattle.std.proofs.lemmas.List.{take_more}
use Rattle.std.proofs.lemmas.List.Elements.{All-from_recursion}
use Rattle.std.proofs.lemmas.List.Quantifiers.{all_pairs_push}
use Rattle.plan_text.specs.inner.Same.{text_laws}
use Rattle.judge_core.specs.Judging.{key_of}
use Rattle.dup_index.specs.inner.Known.{place_of}
use Rattle.event_log.specs.Answers.{has_key}
use Rattle.event_log.specs.History.{Remembered}
use Rattle.book_resume.specs.inner.Keys.{AreApart, known_as}
use Rattle.book_resume.proofs.KeysBegun.{place-of}

-- the key of an arrival
abbrev own_key : Remembered → List ℕ
own_key r = key_of r.channel r.raw

-- a key that isn't known is that of none of the arrivals
not-known : (key : List ℕ) (rs : List Remembered) → place_of key (map known_as rs) ≡ None → AllByRecursion (λ r. has_key key r ≡ false) rs
not-known key [] none = tt
not-known key (r ∷ rs) none = by (has_key key r) refl (sym (place-of key (r ∷ rs)) ∙ none) (λ later. not-known key rs (place-of key rs ∙ later))
  where
    by : (b : Bool) → has_key key r ≡ b → option_map (λ (r : Remembered). r.place) (cond b (Some r) (find (has_key key) rs)) ≡ None
        → (option_map (λ (r : Remembered). r.place) (find (has_key key) rs) ≡ None → AllByRecursion (λ r. has_key key r ≡ false) rs)
        → AllByRecursion (λ r. has_key key r ≡ false) (r ∷ rs)
    by true is found rest = absurd cc
    by false is later rest = (is, rest later)

-- and one that is that of none isn't known
none-known : (key : List ℕ) (rs : List Remembered) → ((k : ℕ) (d : Remembered) → k < length rs → has_key key (get_or rs k d) ≡ false)
    → place_of key (map known_as rs) ≡ None
none-known key [] none = refl
none-known key (r ∷ rs) none =
    let here : has_key key r ≡ false = none 0 r (omega arith) in
    place-of key (r ∷ rs)
    ∙ (ap (λ b. option_map (λ (r : Remembered). r.place) (cond b (Some r) (find (has_key key) rs))) here
    ∙ (sym (place-of key rs) ∙ none-known key rs (λ k d inside. none (suc k) d (omega arith))))

module _ (rs : List Remembered) (i : ℕ) (r : Remembered) (inside : i < length rs) (is : r ≡ get_or rs i r) where
  -- one more whose key isn't known
  pub apart-more : AreApart (take i rs) → place_of (own_key r) (map known_as (take i rs)) ≡ None → AreApart (take (i + 1) rs)
  apart-more apart unknown =
      subst (AreApart) (sym (take_more rs i r inside ∙ ap (λ x. take i rs ++ x ∷ []) (sym is)))
      (all_pairs_push (λ r s. has_key (own_key r) s ≡ false) (take i rs) r apart
      (λ k d below. text_laws.symm (own_key (get_or (take i rs) k d)) (own_key r)
      ∙ All-from_recursion (λ s. has_key (own_key r) s ≡ false) (take i rs) (not-known (own_key r) (take i rs) unknown) k d below))

  -- where no two have the same key, it isn't known
  pub apart-unknown : AreApart rs → place_of (own_key r) (map known_as (take i rs)) ≡ None
  apart-unknown apart = none-known (own_key r) (take i rs) (λ k d below.
      let before : k < i = omega (arith, length-take-le i rs) in
      let at : get_or (take i rs) k d ≡ get_or rs k d = rw get_or-take in
      ap (has_key (own_key r)) at
      ∙ (text_laws.symm (own_key r) (own_key (get_or rs k d))
      ∙ (ap (λ s. has_key (own_key (get_or rs k d)) s) (is ∙ get_or-any rs i r d inside) ∙ apart k i d before inside)))
    where
      length-take-le : (i : ℕ) (xs : List Remembered) → length (take i xs) ≤ i
      length-take-le zero xs = omega arith
      length-take-le (suc i) [] = omega arith
      length-take-le (suc i) (x ∷ xs) = let rest = length-take-le i xs in omega arith

      get_or-any : (xs : List Remembered) (k : ℕ) (d e : Remembered) → k < length xs → get_or xs k d ≡ get_or xs k e
      get_or-any [] k d e below = absurd (omega arith)
      get_or-any (x ∷ xs) zero d e below = refl
      get_or-any (x ∷ xs) (suc k) d e below = get_or-any xs k d e (omega arith)
