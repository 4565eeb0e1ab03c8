-- The messages that remain of an opening are those that it remembers.
use Rattle.std.proofs.Common.{◌≡◌, ℕ, ◌+◌, ◌-◌, ◌<◌, Bool, true, false, cond, nat_lt, List, [], ◌∷◌, ◌++◌, Option, None, Some, refl, sym, ◌∙◌, ap, subst, arith, suc, zero}
use Rattle.std.specs.Prelude.{filter, find, is_some}
use Rattle.std.specs.List.{cons_option, filter_map, range_with_len}
use Rattle.std.specs.Option.{option_map}
use Rattle.std.proofs.lemmas.Bool.Decides.{nat_tests}
use Rattle.std.proofs.lemmas.List.Elements.{filter-append}
use Rattle.event_log.specs.History.{Remembered, Snapshot, accepted_of, begun, message_at, remaining, remembered_as}
use Rattle.event_log.specs.inner.History.{number_of}
use Rattle.event_log.proofs.FoldedAlike.{range-split}
use Rattle.event_log.proofs.MemoryNumbers.{Climbing}
use Rattle.event_log.proofs.OneMore.{filter-range}
use Rattle.event_log.proofs.Recalling.{is_of}
use Rattle.book_resume.proofs.Found.{none-lower, numbered-else, numbered-own, unnumbered}

-- whether the arrival of a message is among those that are remembered
abbrev is_among : List Remembered → ℕ → Bool
is_among rs n = is_some (find (is_of n) rs)

none-of : (a k : ℕ) → filter (λ n. false) (range_with_len a k) ≡ []
none-of a zero = refl
none-of a (suc k) = none-of (a + 1) k

-- the numbers that are found, of a range that holds all of them
found-numbers : (low len : ℕ) (rs : List Remembered) → Climbing low (low + len) (filter_map number_of rs)
    → filter (is_among rs) (range_with_len low len) ≡ filter_map number_of rs
found-numbers low len [] climb = none-of low len
found-numbers low len (r ∷ rs) climb = by (number_of r) refl climb (λ from more c. found-numbers from more rs c)
  where
    by : (o : Option ℕ) → number_of r ≡ o → Climbing low (low + len) (cons_option o (filter_map number_of rs))
        → ((from more : ℕ) → Climbing from (from + more) (filter_map number_of rs) → filter (is_among rs) (range_with_len from more) ≡ filter_map number_of rs)
        → filter (is_among (r ∷ rs)) (range_with_len low len) ≡ cons_option o (filter_map number_of rs)
    by None none climb rest =
        filter-range (is_among (r ∷ rs)) (is_among rs) low len (λ n from below. ap (λ b. is_some (cond b (Some r) (find (is_of n) rs))) (unnumbered n r none))
        ∙ rest low len climb
    by (Some k) its climb rest =
        let from = climb.0 in
        let below = climb.1 in
        let gap : ℕ = k - low in
        let more : ℕ = low + len - (k + 1) in
        let size : len ≡ gap + suc more = omega arith in
        let here : low + gap ≡ k = omega arith in
        let end : low + len ≡ k + 1 + more = omega arith in
        let lower : filter (is_among (r ∷ rs)) (range_with_len low gap) ≡ []
        = filter-range (is_among (r ∷ rs)) (λ n. false) low gap
        (λ n least less. ap (λ b. is_some (cond b (Some r) (find (is_of n) rs))) (numbered-else n k r its (λ e. absurd (omega arith)))
        ∙ ap (λ q. is_some q) (none-lower n (k + 1) (low + len) rs (omega arith) climb.2)) ∙ none-of low gap in
        let its-own : is_among (r ∷ rs) k ≡ true = ap (λ b. is_some (cond b (Some r) (find (is_of k) rs))) (numbered-own k r its) in
        let higher : filter (is_among (r ∷ rs)) (range_with_len (k + 1) more) ≡ filter_map number_of rs
        = filter-range (is_among (r ∷ rs)) (is_among rs) (k + 1) more
        (λ n least less. ap (λ b. is_some (cond b (Some r) (find (is_of n) rs))) (numbered-else n k r its (λ e. absurd (omega arith))))
        ∙ rest (k + 1) more (subst (λ (top : ℕ). Climbing (k + 1) top (filter_map number_of rs)) end climb.2) in
        ap (λ l. filter (is_among (r ∷ rs)) (range_with_len low l)) size
        ∙ (ap (filter (is_among (r ∷ rs))) (range-split low gap (suc more))
        ∙ (filter-append (is_among (r ∷ rs)) (range_with_len low gap) (range_with_len (low + gap) (suc more))
        ∙ (ap (λ xs. xs ++ filter (is_among (r ∷ rs)) (range_with_len (low + gap) (suc more))) lower
        ∙ (ap (λ a. filter (is_among (r ∷ rs)) (range_with_len a (suc more))) here
        ∙ (ap (λ b. cond b (k ∷ filter (is_among (r ∷ rs)) (range_with_len (k + 1) more)) (filter (is_among (r ∷ rs)) (range_with_len (k + 1) more))) its-own
        ∙ ap (λ xs. k ∷ xs) higher)))))

module _ (o : Snapshot) (climb : Climbing 0 o.messages (filter_map number_of o.remembered)) where
  -- a message of an opening is one that it remembers
  pub message-begun : (n : ℕ) → n < o.messages → message_at (begun o) n ≡ option_map accepted_of (remembered_as o n)
  message-begun n below = let earlier : nat_lt n o.messages ≡ true = grind (arith, nat_tests) in rw earlier refl

  -- the messages that remain are those that are remembered
  pub remaining-begun : remaining (begun o) ≡ filter_map number_of o.remembered
  remaining-begun =
      let many : o.messages + 0 ≡ o.messages = omega arith in
      let start : 0 + o.messages ≡ o.messages = omega arith in
      ap (λ k. filter (λ n. is_some (message_at (begun o) n)) (range_with_len 0 k)) many
      ∙ (filter-range (λ n. is_some (message_at (begun o) n)) (is_among o.remembered) 0 o.messages
      (λ n least below. ap is_some (message-begun n (omega arith)) ∙ there (remembered_as o n))
      ∙ found-numbers 0 o.messages o.remembered (subst (λ (high : ℕ). Climbing 0 high (filter_map number_of o.remembered)) (sym start) climb))
    where
      there : (q : Option Remembered) → is_some (option_map accepted_of q) ≡ is_some q
      there None = refl
      there (Some r) = refl
