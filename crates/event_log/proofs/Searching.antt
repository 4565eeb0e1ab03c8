-- The search of the remembered arrivals by place.
use Rattle.std.proofs.Common.{◌≡◌, ◌≢◌, ℕ, ◌<◌, ◌≤◌, Bool, true, false, ◌==◌, List, length, map, get_or, Result, Ok, Err, IfSome, IfNone, inl, inr, refl, sym, ◌∙◌, ap, arith}
use Rattle.std.specs.Prelude.{All}
use Rattle.std.specs.List.{HoldsAt, list_any}
use Rattle.std.specs.List.Sorted.{IsBinarySearchResult, IsNonDecreasingBy, IsStrictlyIncreasing}
use Rattle.std.specs.Ordering.{nat_cmp, ordering_index}
use Rattle.std.specs.Result.{result_ok}
use Rattle.std.specs.declared.cmp.Ordering.TheVariants.{Less, Equal, Greater}
use Rattle.std.proofs.lemmas.Bool.{cases_lt}
use Rattle.std.proofs.lemmas.Bool.Decides.{nat_tests}
use Rattle.std.proofs.lemmas.List.{get_or-map, get_or_default, length-map}
use Rattle.std.proofs.lemmas.List.Folds.{list_any_at, list_any_none}
use Rattle.std.proofs.lemmas.List.Kept.{AllPairs-from_increasing}
use Rattle.event_log.specs.Answers.{brought_before}
use Rattle.event_log.specs.History.{Remembered}

equal-from : (a n : ℕ) → nat_cmp a n ≡ Equal → a ≡ n
equal-from a n e = grind (arith, nat_tests)

less-from : (a n : ℕ) → nat_cmp a n ≡ Less → a < n
less-from a n e = grind (arith, nat_tests)

greater-from : (a n : ℕ) → nat_cmp a n ≡ Greater → n < a
greater-from a n e = grind (arith, nat_tests)

answers-rise : (a b n : ℕ) → a ≤ b → ordering_index (nat_cmp a n) ≤ ordering_index (nat_cmp b n)
answers-rise a b n le = grind (arith, nat_tests)

-- places rise along remembered arrivals
abbrev pub PlacesRise : List Remembered → Type 0
PlacesRise rs = IsStrictlyIncreasing (map (λ r. r.place) rs)

module _ (place : ℕ) (rs : List Remembered) where
  place-at : (k : ℕ) (d : Remembered) → k < length rs → get_or (map (λ r. r.place) rs) k 0 ≡ (get_or rs k d).place
  place-at k d inside = get_or-map (λ (r : Remembered). r.place) rs k d 0 inside

  -- an earlier one stood at an earlier place
  earlier : PlacesRise rs → (i j : ℕ) (d : Remembered) → i < j → j < length rs → (get_or rs i d).place < (get_or rs j d).place
  earlier rise i j d before inside =
      let same_length = length-map rs (λ (r : Remembered). r.place) in
      let rises = AllPairs-from_increasing (map (λ r. r.place) rs) rise i j 0 before (omega arith) in
      let a = place-at i d (omega arith) in
      let b = place-at j d inside in
      omega arith

  rising-answers : PlacesRise rs → IsNonDecreasingBy (λ r. ordering_index (nat_cmp r.place place)) rs
  rising-answers rise = λ i j d le inside. answers-rise _ _ place (elim (cases_lt i j) [
    | inl before ↦ let rises = earlier rise i j d before inside in omega arith
    | inr same ↦ let at : i ≡ j = omega arith in rw at (omega arith)
  ])

  -- what a binary search by place answers, as an option
  pub searched-found : (r : Result ℕ ℕ) → IsBinarySearchResult (λ r. nat_cmp r.place place) rs r → IfSome (result_ok r) (HoldsAt (λ r. r.place ≡ place) rs)
  searched-found (Ok i) found = λ d. equal-from (get_or rs i d).place place (found d)
  searched-found (Err i) found = tt

  pub searched-missing : (r : Result ℕ ℕ) → PlacesRise rs → IsBinarySearchResult (λ r. nat_cmp r.place place) rs r → IfNone (result_ok r) (All (λ r. r.place ≢ place) rs)
  searched-missing (Ok i) rise found = tt
  searched-missing (Err i) rise found =
      let parted = found (rising-answers rise) in
      λ k d within same.
      elim (cases_lt k i) [
        | inl before ↦ let low = less-from (get_or rs k d).place place (parted.0 k d (omega arith) before) in omega arith
        | inr after ↦ let high = greater-from (get_or rs k d).place place (parted.1 k d after within) in omega arith
      ]

  -- one that stood elsewhere brought nothing here
  apart : (raw : List ℕ) (r : Remembered) → r.place ≢ place → brought_before place raw r ≡ false
  apart raw r differs = let other : (r.place == place) ≡ false = grind (arith, nat_tests) in rw other refl

  -- where none stood there, none brought these bytes
  pub brought-nowhere : (raw : List ℕ) → All (λ r. r.place ≢ place) rs → list_any (brought_before place raw) rs ≡ false
  brought-nowhere raw none = list_any_none (brought_before place raw) rs (λ k d inside. apart raw (get_or rs k d) (none k d inside))

  -- where one stood there, no other did
  pub brought-there : (raw : List ℕ) (i : ℕ) (d : Remembered) → PlacesRise rs → i < length rs → HoldsAt (λ r. r.place ≡ place) rs i
      → brought_before place raw (get_or rs i d) ≡ list_any (brought_before place raw) rs
  brought-there raw i d rise inside here = by (brought_before place raw (get_or rs i d)) refl
    where
      by : (b : Bool) → brought_before place raw (get_or rs i d) ≡ b → b ≡ list_any (brought_before place raw) rs
      by true is = sym (list_any_at (brought_before place raw) rs i d inside is)
      by false is = sym (list_any_none (brought_before place raw) rs (λ k e within. elsewhere k e within))
        where
          elsewhere : (k : ℕ) (e : Remembered) → k < length rs → brought_before place raw (get_or rs k e) ≡ false
          elsewhere k e within = elim (cases_lt k i) [
            | inl before ↦ apart raw (get_or rs k e) (λ same. let rises = earlier rise k i e before inside in let at = here e in omega arith)
            | inr after ↦ elim (cases_lt i k) [
              | inl later ↦ apart raw (get_or rs k e) (λ same. let rises = earlier rise i k e later within in let at = here e in omega arith)
              | inr not_later ↦ let at : k ≡ i = omega arith in rw at (ap (brought_before place raw) (get_or_default rs i e d inside) ∙ is)
            ]
          ]
