-- Numbers that increase still do where each is lowered by as much.
use Rattle.std.proofs.Common.{◌≡◌, ℕ, ◌+◌, ◌-◌, ◌<◌, ◌≤◌, List, [], ◌∷◌, length, map, subst, arith, suc, zero}
use Rattle.std.specs.Prelude.{slice_index}
use Rattle.std.specs.List.{AllByRecursion}
use Rattle.std.specs.List.Sorted.{IsStrictlyIncreasing}
use Rattle.event_log.proofs.MemoryNumbers.{Climbing}
use Rattle.opening_maps.specs.inner.Rebased.{first_or}

-- numbers increase, from a lowest on
abbrev Rises : ℕ → List ℕ → Type 0
Rises low [] = Unit {0}
Rises low (n ∷ ns) = (low ≤ n) × Rises (n + 1) ns

rises-after : (n : ℕ) (ns : List ℕ) → IsStrictlyIncreasing (n ∷ ns) → Rises (n + 1) ns
rises-after n [] rise = tt
rises-after n (m ∷ ns) rise =
    let first : n < m = rise 0 (omega arith) in (
      omega arith,
      rises-after m ns (λ k inside.
          let next : suc k + 1 ≡ suc (k + 1) = omega arith in
          subst (λ j. slice_index (m ∷ ns) k < slice_index (n ∷ (m ∷ ns)) j) next (rise (suc k) (omega arith))),
    )

rises-first : (x : ℕ) (ns : List ℕ) → IsStrictlyIncreasing ns → Rises (first_or x ns) ns
rises-first x [] rise = tt
rises-first x (n ∷ ns) rise = (omega arith, rises-after n ns rise)

increases : (low : ℕ) (ns : List ℕ) → Rises low ns → IsStrictlyIncreasing ns
increases low [] rises k inside = absurd (omega arith)
increases low (n ∷ []) rises k inside = absurd (omega arith)
increases low (n ∷ (m ∷ ns)) rises zero inside = let rest = rises.1 in let first = rest.0 in omega arith
increases low (n ∷ (m ∷ ns)) rises (suc k) inside =
    let next : suc (k + 1) ≡ suc k + 1 = omega arith in
    subst (λ j. slice_index (m ∷ ns) k < slice_index (n ∷ (m ∷ ns)) j) next (increases (n + 1) (m ∷ ns) rises.1 k (omega arith))

lower-rises : (by low : ℕ) (ns : List ℕ) → by ≤ low → Rises low ns → Rises (low - by) (map (λ n. n - by) ns)
lower-rises by low [] less rises = tt
lower-rises by low (n ∷ ns) less rises =
    let from = rises.0 in
    let next : (n + 1) - by ≡ (n - by) + 1 = omega arith in
    (omega arith, subst (λ k. Rises k (map (λ n. n - by) ns)) next (lower-rises by (n + 1) ns (omega arith) rises.1))

rises-from : (by low : ℕ) (ns : List ℕ) → by ≤ low → Rises low ns → AllByRecursion (λ n. by ≤ n) ns
rises-from by low [] less rises = tt
rises-from by low (n ∷ ns) less rises = let from = rises.0 in (omega arith, rises-from by (n + 1) ns (omega arith) rises.1)

module _ (by x : ℕ) (ns : List ℕ) (rise : IsStrictlyIncreasing ns) (less : by ≤ first_or x ns) where
  -- each is at least the first
  pub all-from : AllByRecursion (λ n. by ≤ n) ns
  all-from = rises-from by (first_or x ns) ns less (rises-first x ns rise)

  -- they still increase
  pub lower-increase : IsStrictlyIncreasing (map (λ n. n - by) ns)
  lower-increase = increases (first_or x ns - by) (map (λ n. n - by) ns) (lower-rises by (first_or x ns) ns less (rises-first x ns rise))

rises-within : (low high : ℕ) (ns : List ℕ) → Rises low ns → AllByRecursion (λ n. n < high) ns → Climbing low high ns
rises-within low high [] rises within = tt
rises-within low high (n ∷ ns) rises within = (rises.0, within.0, rises-within (n + 1) high ns rises.1 within.1)

-- numbers that increase climb, where each is below a bound
pub climbs : (high : ℕ) (ns : List ℕ) → IsStrictlyIncreasing ns → AllByRecursion (λ n. n < high) ns → Climbing 0 high ns
climbs high [] rise within = tt
climbs high (n ∷ ns) rise within = (omega arith, within.0, rises-within (n + 1) high ns (rises-after n ns rise) within.1)

-- the first of numbers below a bound is no higher
pub first-within : (x : ℕ) (ns : List ℕ) → AllByRecursion (λ n. n < x) ns → first_or x ns ≤ x
first-within x [] all = omega arith
first-within x (n ∷ ns) all = let below = all.0 in omega arith

climbs-fit : (low high : ℕ) (ns : List ℕ) → Climbing low high ns → low ≤ high → low + length ns ≤ high
climbs-fit low high [] climb less = omega arith
climbs-fit low high (n ∷ ns) climb less =
    let from = climb.0 in
    let below = climb.1 in
    let rest = climbs-fit (n + 1) high ns climb.2 (omega arith) in
    omega arith

-- they are no more than there are from the first of them on
pub length-fits : (high : ℕ) (ns : List ℕ) → IsStrictlyIncreasing ns → AllByRecursion (λ n. n < high) ns → length ns ≤ high - first_or high ns
length-fits high [] rise within = omega arith
length-fits high (n ∷ ns) rise within =
    let below = within.0 in
    let rest = climbs-fit (n + 1) high ns (rises-within (n + 1) high ns (rises-after n ns rise) within.1) (omega arith) in
    omega arith
