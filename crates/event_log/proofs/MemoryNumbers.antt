-- The numbers that remain of a pruned history rise.
use Rattle.std.proofs.Common.{◌≡◌, ℕ, ◌+◌, ◌<◌, ◌≤◌, Bool, true, false, cond, not, List, [], ◌∷◌, ◌++◌, length, map, Option, None, Some, refl, sym, ◌∙◌, ap, subst, arith, suc, zero}
use Rattle.std.specs.Prelude.{All, filter, slice_index}
use Rattle.std.specs.List.{AllByRecursion, cons_option, filter_map}
use Rattle.std.specs.List.Sorted.{IsStrictlyIncreasing}
use Rattle.std.proofs.lemmas.List.Elements.{All-from_recursion, filter_map-append, recursion_from_All}
use Rattle.plan_text.specs.Entries.{PlanEntry}
use Rattle.event_log.specs.declared.entry.Entry.{Entry}
use Rattle.event_log.specs.declared.entry.Entry.TheVariants.{Arrival, Take, Settle, Cancel, Deploy}
use Rattle.event_log.specs.declared.entry.Told.TheVariants as told
use Rattle.event_log.specs.Folding.{known_arrivals, folded, is_forgotten}
use Rattle.event_log.specs.History.{History, Remembered, accepted_from, message_count}
use Rattle.event_log.specs.inner.History.{number_of}
use Rattle.event_log.specs.inner.Legal.{IsSound}
use Rattle.event_log.proofs.Recalling.{Numbered, arrivals-are, less-zero, numbered-legal, recalled_all, renewed}

-- numbers rise, from a lowest on and below a bound
abbrev pub Climbing : ℕ → ℕ → List ℕ → Type 0
Climbing low high [] = Unit {0}
Climbing low high (n ∷ ns) = (low ≤ n) × (n < high) × Climbing (n + 1) high ns

climbing-lower : (low lower high : ℕ) (ns : List ℕ) → lower ≤ low → Climbing low high ns → Climbing lower high ns
climbing-lower low lower high [] less climb = tt
climbing-lower low lower high (n ∷ ns) less climb = let first = climb.0 in (omega arith, climb.1, climb.2)

climbing-append : (low mid high : ℕ) (ms ns : List ℕ) → low ≤ mid → mid ≤ high → Climbing low mid ms → Climbing mid high ns → Climbing low high (ms ++ ns)
climbing-append low mid high [] ns less more climb then = climbing-lower mid low high ns less then
climbing-append low mid high (m ∷ ms) ns less more climb then = let below = climb.1 in (climb.0, omega arith, climbing-append (m + 1) mid high ms ns (omega arith) more climb.2 then)

climbing-rises : (low high : ℕ) (ns : List ℕ) → Climbing low high ns → (k : ℕ) → k + 1 < length ns → slice_index ns k < slice_index ns (k + 1)
climbing-rises low high [] climb k inside = absurd (omega arith)
climbing-rises low high (n ∷ []) climb k inside = absurd (omega arith)
climbing-rises low high (n ∷ (m ∷ ns)) climb zero inside = let rest = climb.2 in let first = rest.0 in omega arith
climbing-rises low high (n ∷ (m ∷ ns)) climb (suc k) inside =
    let next : suc (k + 1) ≡ suc k + 1 = omega arith in
    subst (λ j. slice_index (m ∷ ns) k < slice_index (n ∷ (m ∷ ns)) j) next (climbing-rises (n + 1) high (m ∷ ns) climb.2 k (omega arith))

pub climbing-within : (low high : ℕ) (ns : List ℕ) → Climbing low high ns → AllByRecursion (λ n. n < high) ns
climbing-within low high [] climb = tt
climbing-within low high (n ∷ ns) climb = (climb.1, climbing-within (n + 1) high ns climb.2)

climbing-after : (high n : ℕ) (ns : List ℕ) → IsStrictlyIncreasing (n ∷ ns) → AllByRecursion (λ m. m < high) ns → Climbing (n + 1) high ns
climbing-after high n [] rise within = tt
climbing-after high n (m ∷ ns) rise within =
    let first : n < m = rise 0 (omega arith) in (
      omega arith,
      within.0,
      climbing-after high m ns (λ k inside.
          let next : suc k + 1 ≡ suc (k + 1) = omega arith in
          subst (λ j. slice_index (m ∷ ns) k < slice_index (n ∷ (m ∷ ns)) j) next (rise (suc k) (omega arith))) within.1,
    )

climbing-all : (high : ℕ) (ns : List ℕ) → IsStrictlyIncreasing ns → AllByRecursion (λ m. m < high) ns → Climbing 0 high ns
climbing-all high [] rise within = tt
climbing-all high (n ∷ ns) rise within = (omega arith, within.0, climbing-after high n ns rise within.1)

-- a remembered arrival keeps its number
renewed-numbers : (h : History) (rs : List Remembered) → filter_map number_of (map (renewed h) rs) ≡ filter_map number_of rs
renewed-numbers h [] = refl
renewed-numbers h (r ∷ rs) = ap (cons_option (number_of r)) (renewed-numbers h rs)

-- those of entries go on from a count
climbing-entries : (h : History) (count a : ℕ) (plan : PlanEntry) (es : List Entry) → Numbered count plan es → Climbing count (count + length (accepted_from plan es)) (filter_map number_of (recalled_all h a es))
climbing-entries h count a plan [] numbered = tt
climbing-entries h count a plan (Arrival conn channel raw (told.Accepted j) ∷ es) numbered =
    let own : j ≡ count = numbered.0 j refl in
    let more : count + 1 + length (accepted_from plan es) ≡ count + suc (length (accepted_from plan es)) = omega arith in (
      omega arith,
      omega arith,
      subst (λ c. Climbing (c + 1) (count + suc (length (accepted_from plan es))) (filter_map number_of (recalled_all h (a + 1) es))) (sym own)
          (subst (λ high. Climbing (count + 1) high (filter_map number_of (recalled_all h (a + 1) es))) more (climbing-entries h (count + 1) (a + 1) plan es numbered.1)),
    )
climbing-entries h count a plan (Arrival conn channel raw told.Filtered ∷ es) numbered = climbing-entries h count (a + 1) plan es (subst (λ c. Numbered c plan es) (less-zero count) numbered.1)
climbing-entries h count a plan (Arrival conn channel raw (told.Refused cause) ∷ es) numbered = climbing-entries h count (a + 1) plan es (subst (λ c. Numbered c plan es) (less-zero count) numbered.1)
climbing-entries h count a plan (Arrival conn channel raw (told.Repeat place) ∷ es) numbered = climbing-entries h count (a + 1) plan es (subst (λ c. Numbered c plan es) (less-zero count) numbered.1)
climbing-entries h count a plan (Take ticket now ∷ es) numbered = climbing-entries h count (a + 1) plan es (subst (λ c. Numbered c plan es) (less-zero count) numbered.1)
climbing-entries h count a plan (Settle outcome ticket now state ∷ es) numbered = climbing-entries h count (a + 1) plan es (subst (λ c. Numbered c plan es) (less-zero count) numbered.1)
climbing-entries h count a plan (Cancel number among mask ∷ es) numbered = climbing-entries h count (a + 1) plan es (subst (λ c. Numbered c plan es) (less-zero count) numbered.1)
climbing-entries h count a plan (Deploy next ∷ es) numbered = climbing-entries h count (a + 1) next es (subst (λ c. Numbered c next es) (less-zero count) numbered.1)

-- those of arrivals of which some are dropped
pub climbing-filter : (keep : Remembered → Bool) (low high : ℕ) (rs : List Remembered) → Climbing low high (filter_map number_of rs) → Climbing low high (filter_map number_of (filter keep rs))
climbing-filter keep low high [] climb = tt
climbing-filter keep low high (r ∷ rs) climb = by (keep r) (number_of r) refl climb (λ from c. climbing-filter keep from high rs c)
  where
    by : (b : Bool) (o : Option ℕ) → number_of r ≡ o → Climbing low high (cons_option o (filter_map number_of rs))
        → ((from : ℕ) → Climbing from high (filter_map number_of rs) → Climbing from high (filter_map number_of (filter keep rs)))
        → Climbing low high (filter_map number_of (cond b (r ∷ filter keep rs) (filter keep rs)))
    by true None is climb rest = subst (λ o. Climbing low high (cons_option o (filter_map number_of (filter keep rs)))) (sym is) (rest low climb)
    by true (Some n) is climb rest = subst (λ o. Climbing low high (cons_option o (filter_map number_of (filter keep rs)))) (sym is) (climb.0, climb.1, rest (n + 1) climb.2)
    by false None is climb rest = rest low climb
    by false (Some n) is climb rest = let first = climb.0 in climbing-lower (n + 1) low high (filter_map number_of (filter keep rs)) (omega arith) (rest (n + 1) climb.2)

module _ (h : History) (sound : IsSound h) (bound : ℕ) where
  -- those of all arrivals that are kept
  pub arrivals-climb : Climbing 0 (message_count h) (filter_map number_of (known_arrivals h))
  arrivals-climb =
      subst (Climbing 0 (message_count h))
      (sym (ap (filter_map number_of) (arrivals-are h)
      ∙ (filter_map-append number_of (map (renewed h) h.opening.remembered) (recalled_all h h.opening.places h.entries)
      ∙ ap (λ ns. ns ++ filter_map number_of (recalled_all h h.opening.places h.entries)) (renewed-numbers h h.opening.remembered))))
      (climbing-append 0 h.opening.messages (message_count h) (filter_map number_of h.opening.remembered) (filter_map number_of (recalled_all h h.opening.places h.entries)) (omega arith) (omega arith)
      (climbing-all h.opening.messages (filter_map number_of h.opening.remembered) sound.opening.numbers
      (recursion_from_All (λ n. n < h.opening.messages) (filter_map number_of h.opening.remembered) sound.opening.numbers_within))
      (climbing-entries h h.opening.messages h.opening.places h.opening.plan h.entries (numbered-legal h sound.legal)))

  pub climbing : Climbing 0 (message_count h) (filter_map number_of (folded bound h).remembered)
  climbing = climbing-filter (λ r. not (is_forgotten h bound r)) 0 (message_count h) (known_arrivals h) arrivals-climb

  pub folded-numbers : IsStrictlyIncreasing (filter_map number_of (folded bound h).remembered)
  folded-numbers = climbing-rises 0 (message_count h) (filter_map number_of (folded bound h).remembered) climbing

  pub numbers-within : All (λ n. n < message_count h) (filter_map number_of (folded bound h).remembered)
  numbers-within = All-from_recursion (λ n. n < message_count h) (filter_map number_of (folded bound h).remembered) (climbing-within 0 (message_count h) (filter_map number_of (folded bound h).remembered) climbing)
