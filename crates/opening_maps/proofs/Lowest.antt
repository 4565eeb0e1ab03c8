-- No lower numbers are those of a good opening.
use Rattle.std.proofs.Common.{◌≡◌, ℕ, ◌+◌, ◌-◌, ◌*◌, ◌<◌, ◌≤◌, ◌⊎◌, inl, inr, true, false, cond, ◌==◌, nat_lt, List, [], ◌∷◌, Option, None, Some, refl, sym, ◌∙◌, ap, arith, min, max}
use Rattle.std.specs.Prelude.{find, is_some, slice_get}
use Rattle.std.specs.List.{cons_option, filter_map, range_with_len}
use Rattle.std.specs.Option.{is_none, option_map}
use Rattle.std.proofs.lemmas.Bool.Decides.{nat_tests}
use Rattle.std.proofs.lemmas.Grind.{div_ceil_times}
use Rattle.std.proofs.lemmas.List.Elements.{recursion_from_All}
use Rattle.event_log.specs.declared.entry.Told.{Told}
use Rattle.event_log.specs.declared.entry.Told.TheVariants as told
use Rattle.event_log.specs.History.{Accepted, Remembered, Snapshot, accepted_of, begun, is_numbered, message_at, number_told, remembered_as}
use Rattle.event_log.specs.inner.History.{forgotten_messages, number_of}
use Rattle.event_log.specs.inner.Legal.{IsGoodOpening}
use Rattle.event_log.proofs.FoldedAlike.{count-none}
use Rattle.event_log.proofs.OneMore.{count-range}
use Rattle.opening_maps.specs.declared.rebasing.Lowered.{Lowered}
use Rattle.opening_maps.specs.inner.Rebased.{IsNoMore, MayBeLowered, first_number, first_or, first_place, least_prunings, lower_messages, lower_places, lowering, most_attempts, most_received, most_settled, opening_lower}
use Rattle.opening_maps.proofs.Lower.{forgotten-lower, message-lower}
use Rattle.opening_maps.proofs.LowNumbers.{all-from-number, first-fits, first-place-fits, less-both}
use Rattle.opening_maps.proofs.Rising.{all-from}
use Rattle.opening_maps.proofs.Sums.{most-least}

-- ---- the first message that is remembered

first-found : (x : ℕ) (rs : List Remembered) → (first_or x (filter_map number_of rs) ≡ x) ⊎ (is_some (find (λ r. is_numbered (first_or x (filter_map number_of rs)) r.told) rs) ≡ true)
first-found x [] = inl refl
first-found x (r ∷ rs) = at r.told refl (first-found x rs)
  where
    here : (k : ℕ) → (k == k) ≡ true
    here k = grind (arith, nat_tests)

    at : (t : Told) → r.told ≡ t
        → (first_or x (filter_map number_of rs) ≡ x) ⊎ (is_some (find (λ r. is_numbered (first_or x (filter_map number_of rs)) r.told) rs) ≡ true)
        → (first_or x (cons_option (number_told t) (filter_map number_of rs)) ≡ x)
        ⊎ (is_some (cond (is_numbered (first_or x (cons_option (number_told t) (filter_map number_of rs))) t) (Some r)
        (find (λ r. is_numbered (first_or x (cons_option (number_told t) (filter_map number_of rs))) r.told) rs)) ≡ true)
    at (told.Accepted k) is rest = inr (rw (here k) refl)
    at told.Filtered is rest = rest
    at (told.Refused cause) is rest = rest
    at (told.Repeat place) is rest = rest

-- ---- numbers

number-least : (by first all left most : ℕ) → all ≡ by + left → all ≡ first → most ≤ left → by ≤ first - most
number-least by first all left most parts same named = omega arith

place-least : (by first high messages less lower received taken : ℕ) → by ≤ first → first ≤ high → less ≤ lower → messages - less ≤ high - by → received ≤ high - by
    → taken ≤ high - by → by ≤ min first (high - max (messages - lower) (max received taken))
place-least by first high messages less lower received taken from within fewer few enough tried = omega arith

pruning-least : (by prunings less lower places needed : ℕ) → by ≤ prunings → less ≤ lower → needed * 1000000 < (places - lower) + 1000000
    → places - less ≤ (prunings - by) * 1000000 → by ≤ prunings - needed
pruning-least by prunings less lower places needed few fewer least enough = omega arith

same : (r : Option Remembered) → is_some (option_map accepted_of r) ≡ is_some r
same None = refl
same (Some r) = refl

module _ (o : Snapshot) (good : IsGoodOpening o) where
  abbrev first : ℕ
  first = first_number o

  -- a message is remembered from the first on
  first-there : first < o.messages → is_some (message_at (begun o) first) ≡ true
  first-there below =
      let earlier : nat_lt first o.messages ≡ true = grind (arith, nat_tests) in
      ap (λ b. is_some (cond b (option_map accepted_of (remembered_as o first)) (slice_get [] (first - o.messages)))) earlier
      ∙ elim (first-found o.messages o.remembered) [ inl last ↦ absurd (omega arith) | inr found ↦ same (remembered_as o first) ∙ found ]

  abbrev at-first : Lowered
  at-first = record { places = 0; messages = first; deployments = 0; prunings = 0 }

  there : (n : ℕ) → n < o.messages - first → is_some (message_at (begun o) (n + first)) ≡ true
  there n below = good.in_turn first (n + first) (omega arith) (omega arith) (first-there (omega arith))

  -- and so is each that came later
  pub later-there : (n : ℕ) → n < o.messages - first → is_some (find (λ r. is_numbered (n + first) r.told) o.remembered) ≡ true
  later-there n below =
      let earlier : nat_lt (n + first) o.messages ≡ true = grind (arith, nat_tests) in
      sym (ap (λ b. is_some (cond b (option_map accepted_of (remembered_as o (n + first))) (slice_get [] ((n + first) - o.messages)))) earlier ∙ same (remembered_as o (n + first)))
      ∙ there n below

  none-left : forgotten_messages (begun (opening_lower at-first o)) ≡ 0
  none-left =
      count-range (λ n. is_none (message_at (begun (opening_lower at-first o)) n)) (λ n. false) 0 ((o.messages - first) + 0)
      (λ n low below. ap is_none (message-lower at-first o (first-fits o good) (all-from-number o good) n) ∙ not-none (message_at (begun o) (n + first)) (there n (omega arith)))
      ∙ count-none (range_with_len 0 ((o.messages - first) + 0))
    where
      not-none : (m : Option Accepted) → is_some m ≡ true → is_none m ≡ false
      not-none None is = absurd cc
      not-none (Some m) is = refl

  -- so as many are forgotten as come before it
  forgotten-first : forgotten_messages (begun o) ≡ first
  forgotten-first = let parts = forgotten-lower at-first o (first-fits o good) (all-from-number o good) in let none = none-left in omega arith

  module _ (by : Lowered) (may : MayBeLowered o by) (lower : IsGoodOpening (opening_lower by o)) where
    fits : by.messages ≤ o.messages
    fits = less-both by.messages (first_number o) o.messages may.messages (first-fits o good)

    messages-less : by.messages ≤ lower_messages o
    messages-less =
        let parts = forgotten-lower by o fits (all-from by.messages o.messages (filter_map number_of o.remembered) good.numbers may.messages) in
        let named = most-least (λ d. d.delivered + d.failed) 0 (forgotten_messages (begun (opening_lower by o))) o.forgotten.destinations (omega arith)
        (recursion_from_All (λ d. d.delivered + d.failed ≤ forgotten_messages (begun (opening_lower by o))) o.forgotten.destinations lower.forgotten.named) in
        number-least by.messages (first_number o) (forgotten_messages (begun o)) (forgotten_messages (begun (opening_lower by o))) (most_settled o.forgotten) parts forgotten-first named

    places-less : by.places ≤ lower_places o
    places-less =
        let received = most-least (λ c. c.received + c.repeats) 0 (o.places - by.places) o.forgotten.channels (omega arith)
        (recursion_from_All (λ c. c.received + c.repeats ≤ o.places - by.places) o.forgotten.channels lower.forgotten.received) in
        let taken = most-least (λ d. d.attempts) 0 (o.places - by.places) o.forgotten.destinations (omega arith)
        (recursion_from_All (λ d. d.attempts ≤ o.places - by.places) o.forgotten.destinations lower.forgotten.taken) in
        place-least by.places (first_place o) o.places o.messages by.messages (lower_messages o) (most_received o.forgotten) (most_attempts o.forgotten)
        may.places (first-place-fits o good) messages-less lower.messages_few received taken

    prunings-less : by.prunings ≤ (lowering o).prunings
    prunings-less =
        let least = div_ceil_times (o.places - lower_places o) 1000000 (omega arith) in
        pruning-least by.prunings o.prunings by.places (lower_places o) o.places (least_prunings (o.places - lower_places o)) may.prunings places-less least.1 lower.places_few

    pub no-lower : IsNoMore by (lowering o)
    no-lower = record { places = places-less; messages = messages-less; prunings = prunings-less }
