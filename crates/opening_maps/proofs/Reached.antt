-- Where the counters are set aside, numbers are lowered to what is remembered.
use Rattle.std.proofs.Common.{◌≡◌, ℕ, zero, suc, ◌+◌, ◌-◌, ◌<◌, ◌≤◌, inl, inr, Bool, true, false, cond, ◌==◌, List, [], ◌∷◌, length, map, Option, None, Some, ◌∙◌, ap, arith, min, max}
use Rattle.std.specs.Prelude.{count_by, find, is_some, sum_by}
use Rattle.std.specs.List.{range_with_len}
use Rattle.std.proofs.lemmas.Bool.Decides.{eqb_tells, nat_tests}
use Rattle.std.proofs.lemmas.List.{length-map}
use Rattle.std.proofs.lemmas.List.Elements.{recursion_from_All}
use Rattle.std.proofs.lemmas.List.Sums.{sum_by-cons}
use Rattle.event_log.specs.declared.entry.Told.{Told}
use Rattle.event_log.specs.declared.entry.Told.TheVariants as told
use Rattle.event_log.specs.History.{Remembered, Snapshot, is_numbered}
use Rattle.event_log.specs.inner.Legal.{IsGoodOpening}
use Rattle.event_log.proofs.FoldedAlike.{count-none}
use Rattle.event_log.proofs.OneMore.{count-range}
use Rattle.opening_maps.specs.inner.Rebased.{first_number, first_place, lowering, most_attempts, most_received, most_settled}
use Rattle.opening_maps.specs.inner.SetAside.{counts_left, destination_left, uncounted}
use Rattle.opening_maps.proofs.LowNumbers.{first-place-fits, place-within}
use Rattle.opening_maps.proofs.Lowest.{later-there}
use Rattle.opening_maps.proofs.Rising.{length-fits}
use Rattle.opening_maps.proofs.SetAside.{all-made, none-received}
use Rattle.opening_maps.proofs.Sums.{all-count, most-least, sum-shift}

-- ---- a number is that of one arrival at most

once : (j a k : ℕ) → count_by (λ n. j == n) (range_with_len a k) ≤ 1
once j a zero = omega arith
once j a (suc k) = elim (eqb_tells j a) [
  | inl w ↦
      let same = w.1 in
      let here : ◌≡◌ {A = ℕ} (cond (j == a) 1 0) 1 = ap (λ b. cond b 1 0) w.0 in
      let later : count_by (λ n. j == n) (range_with_len (a + 1) k) ≡ 0
      = count-range (λ n. j == n) (λ n. false) (a + 1) k (λ n low high. apart n (omega arith)) ∙ count-none (range_with_len (a + 1) k) in
      omega (arith, sum_by-cons (λ n. cond (j == n) 1 0) a (range_with_len (a + 1) k))
  | inr w ↦
      let here : ◌≡◌ {A = ℕ} (cond (j == a) 1 0) 0 = ap (λ b. cond b 1 0) w.0 in
      let later = once j (a + 1) k in
      omega (arith, sum_by-cons (λ n. cond (j == n) 1 0) a (range_with_len (a + 1) k))
]
  where
    apart : (n : ℕ) → j < n → (j == n) ≡ false
    apart n less = grind (arith, nat_tests)

numbered-once : (t : Told) (a k : ℕ) → count_by (λ n. is_numbered n t) (range_with_len a k) ≤ 1
numbered-once (told.Accepted j) a k = once j a k
numbered-once told.Filtered a k = let none = count-none (range_with_len a k) in omega arith
numbered-once (told.Refused cause) a k = let none = count-none (range_with_len a k) in omega arith
numbered-once (told.Repeat place) a k = let none = count-none (range_with_len a k) in omega arith

sum-less : (f g h : ℕ → ℕ) → ((n : ℕ) → f n ≤ g n + h n) → (ns : List ℕ) → sum_by f ns ≤ sum_by g ns + sum_by h ns
sum-less f g h each [] = omega arith
sum-less f g h each (n ∷ ns) =
    let here = each n in
    let rest = sum-less f g h each ns in
    omega (arith, sum_by-cons f n ns, sum_by-cons g n ns, sum_by-cons h n ns)

-- no more messages are found than arrivals are remembered
found-few : (rs : List Remembered) (a k : ℕ) → count_by (λ n. is_some (find (λ r. is_numbered n r.told) rs)) (range_with_len a k) ≤ length rs
found-few [] a k = let none = count-none (range_with_len a k) in omega arith
found-few (r ∷ rs) a k =
    let own = numbered-once r.told a k in
    let rest = found-few rs a k in
    let parts = sum-less (λ n. cond (is_some (find (λ r. is_numbered n r.told) (r ∷ rs))) 1 0) (λ n. cond (is_numbered n r.told) 1 0)
    (λ n. cond (is_some (find (λ r. is_numbered n r.told) rs)) 1 0) (λ n. at (is_numbered n r.told) (find (λ r. is_numbered n r.told) rs)) (range_with_len a k) in
    omega arith
  where
    at : (b : Bool) (found : Option Remembered) → cond (is_some (cond b (Some r) found)) 1 0 ≤ cond b 1 0 + cond (is_some found) 1 0
    at true None = omega arith
    at true (Some x) = omega arith
    at false None = omega arith
    at false (Some x) = omega arith

-- ---- numbers

as-low : (first most : ℕ) → most ≤ 0 → first - most ≡ first
as-low first most none = omega arith

as-early : (first high messages number most received taken arrivals : ℕ) → most ≤ 0 → received ≤ 0 → taken ≤ arrivals → messages - number ≤ arrivals
    → arrivals ≤ high - first → first ≤ high → min first (high - max (messages - (number - most)) (max received taken)) ≡ first
as-early first high messages number most received taken arrivals none nothing few left fits within = omega arith

module _ (o : Snapshot) (good : IsGoodOpening o) where
  none-settled : most_settled (counts_left o) ≤ 0
  none-settled =
      most-least (λ d. d.delivered + d.failed) 0 0 (counts_left o).destinations (omega arith)
      (all-made (destination_left (length o.remembered)) (λ d. d.delivered + d.failed ≤ 0) (λ d. omega arith) o.forgotten.destinations)

  few-attempts : most_attempts (counts_left o) ≤ length o.remembered
  few-attempts =
      most-least (λ d. d.attempts) 0 (length o.remembered) (counts_left o).destinations (omega arith)
      (all-made (destination_left (length o.remembered)) (λ d. d.attempts ≤ length o.remembered) (λ d. omega arith) o.forgotten.destinations)

  few-messages : o.messages - first_number o ≤ length o.remembered
  few-messages =
      let few = found-few o.remembered (0 + first_number o) (o.messages - first_number o) in
      let shift = sum-shift (λ n. cond (is_some (find (λ r. is_numbered n r.told) o.remembered)) 1 0) (first_number o) 0 (o.messages - first_number o) in
      let all : count_by (λ n. is_some (find (λ r. is_numbered (n + first_number o) r.told) o.remembered)) (range_with_len 0 (o.messages - first_number o)) ≡ o.messages - first_number o
      = count-range (λ n. is_some (find (λ r. is_numbered (n + first_number o) r.told) o.remembered)) (λ n. true) 0 (o.messages - first_number o) (λ n low high. later-there o good n (omega arith))
      ∙ all-count 0 (o.messages - first_number o) in
      omega arith

  few-arrivals : length o.remembered ≤ o.places - first_place o
  few-arrivals =
      let fits = length-fits o.places (map (λ r. r.place) o.remembered) good.places
      (place-within o.places o.remembered (recursion_from_All (λ r. r.place < o.places) o.remembered good.places_within)) in
      omega (arith, length-map o.remembered (λ (r : Remembered). r.place))

  pub number-reached : (lowering (uncounted o)).messages ≡ first_number o
  number-reached = as-low (first_number o) (most_settled (counts_left o)) none-settled

  pub place-reached : (lowering (uncounted o)).places ≡ first_place o
  place-reached =
      as-early (first_place o) o.places o.messages (first_number o) (most_settled (counts_left o)) (most_received (counts_left o)) (most_attempts (counts_left o)) (length o.remembered)
      none-settled (none-received o good) few-attempts few-messages few-arrivals (first-place-fits o good)
