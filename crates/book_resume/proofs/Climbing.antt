-- The numbers and the indices that a good opening remembers rise.
use Rattle.std.proofs.Common.{◌≡◌, ℕ, ◌+◌, ◌<◌, ◌≤◌, List, [], ◌∷◌, length, map, refl, ap, subst, arith, suc}
use Rattle.std.specs.Prelude.{All, slice_index}
use Rattle.std.specs.List.{AllByRecursion, filter_map}
use Rattle.std.specs.List.Sorted.{IsStrictlyIncreasing}
use Rattle.std.proofs.lemmas.List.Elements.{recursion_from_All}
use Rattle.event_log.specs.History.{Remembered, Snapshot}
use Rattle.event_log.specs.inner.History.{number_of}
use Rattle.event_log.specs.inner.Legal.{IsGoodOpening}
use Rattle.event_log.proofs.MemoryNumbers.{Climbing}

climbing-after : (high n : ℕ) (ns : List ℕ) → IsStrictlyIncreasing (n ∷ ns) → AllByRecursion (λ m. m < high) ns → Climbing (n + 1) high ns
climbing-after high n [] rise within = tt
climbing-after high n (m ∷ ns) rise within =
    let first : n < m = rise 0 (omega arith) in (
      omega arith,
      within.0,
      climbing-after high m ns (λ k inside.
          let next : suc k + 1 ≡ suc (k + 1) = omega arith in
          subst (λ j. slice_index (m ∷ ns) k < slice_index (n ∷ (m ∷ ns)) j) next (rise (suc k) (omega arith))) within.1,
    )

-- numbers that rise, each below a bound
pub climbing-all : (high : ℕ) (ns : List ℕ) → IsStrictlyIncreasing ns → AllByRecursion (λ m. m < high) ns → Climbing 0 high ns
climbing-all high [] rise within = tt
climbing-all high (n ∷ ns) rise within = (omega arith, within.0, climbing-after high n ns rise within.1)

-- they are no more than fit below it
pub climbing-fits : (low high : ℕ) (ns : List ℕ) → Climbing low high ns → low ≤ high → low + length ns ≤ high
climbing-fits low high [] climb less = omega arith
climbing-fits low high (n ∷ ns) climb less =
    let from = climb.0 in
    let below = climb.1 in
    let rest = climbing-fits (n + 1) high ns climb.2 (omega arith) in omega arith

module _ (o : Snapshot) (good : IsGoodOpening o) where
  -- the numbers of the messages that are remembered
  pub numbers-climb : Climbing 0 o.messages (filter_map number_of o.remembered)
  numbers-climb =
      climbing-all o.messages (filter_map number_of o.remembered) good.numbers
      (recursion_from_All (λ n. n < o.messages) (filter_map number_of o.remembered) good.numbers_within)

module _ (o : Snapshot) (rise : IsStrictlyIncreasing (map (λ r. r.place) o.remembered)) (within : All (λ r. r.place < o.places) o.remembered) where
  -- no more arrivals are remembered than entries were folded
  pub places-few : length o.remembered ≤ o.places
  places-few =
      let climb = climbing-all o.places (map (λ r. r.place) o.remembered) rise
      (places o.remembered (recursion_from_All (λ r. r.place < o.places) o.remembered within)) in
      let fits = climbing-fits 0 o.places (map (λ r. r.place) o.remembered) climb (omega arith) in
      omega (arith, same o.remembered)
    where
      places : (rs : List Remembered) → AllByRecursion (λ r. r.place < o.places) rs → AllByRecursion (λ m. m < o.places) (map (λ r. r.place) rs)
      places [] all = tt
      places (r ∷ rs) all = (all.0, places rs all.1)

      same : (rs : List Remembered) → length (map (λ r. r.place) rs) ≡ length rs
      same [] = refl
      same (r ∷ rs) = ap suc (same rs)
