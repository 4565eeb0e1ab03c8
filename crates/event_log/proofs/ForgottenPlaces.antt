-- What a pruning forgets stood before what stays, so the keys that stay are those from a place on.
use Rattle.std.proofs.Common.{rules, ◌≡◌, ℕ, ◌+◌, ◌<◌, ◌≤◌, ◌==◌, inl, inr, Bool, true, false, cond, not, nat_lt, List, [], ◌∷◌, Option, None, Some, refl, sym, ◌∙◌, ap, subst, arith, suc}
use Rattle.std.specs.Prelude.{All, AllPairs, filter, find, is_some, nat_le, option_and_then}
use Rattle.std.specs.List.{AllByRecursion, cons_option, filter_map}
use Rattle.std.specs.Option.{option_map, option_map_or}
use Rattle.std.specs.Str.{bytes_eq}
use Rattle.std.proofs.lemmas.Bool.Decides.{nat_tests}
use Rattle.std.proofs.lemmas.List.Elements.{recursion_from_All}
use Rattle.std.proofs.lemmas.Slice.Eq.{bytes_eq-Decides}
use Rattle.judge_core.specs.Judging.{key_of}
use Rattle.event_log.specs.declared.entry.Told.{Told}
use Rattle.event_log.specs.declared.entry.Told.TheVariants as told
use Rattle.event_log.specs.Answers.{has_key, is_kept, known}
use Rattle.event_log.specs.Folding.{arrival_place, known_arrivals, goes_with, is_forgotten, prune_answer, pruned}
use Rattle.event_log.specs.History.{History, Remembered, message_at, message_count, accepted_of, next_place, plan_in_force}
use Rattle.event_log.specs.inner.History.{number_of}
use Rattle.event_log.specs.inner.Legal.{IsMemory, IsSound}
use Rattle.event_log.proofs.FoldedAlike.{found-holds, found-message, found-passes, numbered-told}
use Rattle.event_log.proofs.Forgetting.{in-turn}
use Rattle.event_log.proofs.Memories.{arrivals-good}
use Rattle.event_log.proofs.MemoryKeys.{arrivals-apart}
use Rattle.event_log.proofs.MemoryNumbers.{Climbing, arrivals-climb}
use Rattle.event_log.proofs.OneMore.{lt-tells}
use Rattle.event_log.proofs.PrunedRuns.{arrivals-within}
use Rattle.event_log.proofs.Recalling.{is_of}
use Rattle.event_log.proofs.RecallingKeys.{Rising, arrivals-rise, found-low, known-arrivals}

-- ---- numbers and places rise together

accepted-number : (r : Remembered) (n : ℕ) → r.told ≡ told.Accepted n → number_of r ≡ Some n
accepted-number r n is = rw is refl

-- a number that is found is one that climbs
number-between : (p : Remembered → Bool) (low high : ℕ) (rs : List Remembered) (r : Remembered) (n : ℕ) → Climbing low high (filter_map number_of rs) → find p rs ≡ Some r → r.told ≡ told.Accepted n → (low ≤ n) × (n < high)
number-between p low high [] r n climb is told = absurd cc
number-between p low high (x ∷ rs) r n climb is told = by (p x) (λ low' c e. number-between p low' high rs r n c e told) is
  where
    later : (o : Option ℕ) → Climbing low high (cons_option o (filter_map number_of rs)) → ((low' : ℕ) → Climbing low' high (filter_map number_of rs) → (low' ≤ n) × (n < high)) → (low ≤ n) × (n < high)
    later None climb rest = rest low climb
    later (Some k) climb rest = let more = rest (k + 1) climb.2 in let first = climb.0 in (omega arith, more.1)

    by : (b : Bool) → ((low' : ℕ) → Climbing low' high (filter_map number_of rs) → find p rs ≡ Some r → (low' ≤ n) × (n < high)) → cond b (Some x) (find p rs) ≡ Some r → (low ≤ n) × (n < high)
    by true rest e =
        let same : x ≡ r = cc in
        let number : number_of x ≡ Some n = ap number_of same ∙ accepted-number r n told in
        let here = subst (λ o. Climbing low high (cons_option o (filter_map number_of rs))) number climb in
        (here.0, here.1)
    by false rest e = later (number_of x) climb (λ low' c. rest low' c e)

-- an arrival has a lower number than another where it stands before it
ordered : (p : Remembered → Bool) (m place low high : ℕ) (rs : List Remembered) (r b : Remembered) (n : ℕ) → Rising place rs → Climbing low high (filter_map number_of rs)
    → find p rs ≡ Some r → r.told ≡ told.Accepted n → find (is_of m) rs ≡ Some b → nat_lt n m ≡ nat_lt r.place b.place
ordered p m place low high [] r b n rise climb is told there = absurd cc
ordered p m place low high (x ∷ rs) r b n rise climb is told there = by (λ from c e f. ordered p m (x.place + 1) from high rs r b n rise.1 c e told f) (p x) (is_of m x) refl is there
  where
    Rest : Type 0
    Rest = (from : ℕ) → Climbing from high (filter_map number_of rs) → find p rs ≡ Some r → find (is_of m) rs ≡ Some b → nat_lt n m ≡ nat_lt r.place b.place

    rest : Rest → (o : Option ℕ) → Climbing low high (cons_option o (filter_map number_of rs)) → find p rs ≡ Some r → find (is_of m) rs ≡ Some b → nat_lt n m ≡ nat_lt r.place b.place
    rest again None climb e f = again low climb e f
    rest again (Some k) climb e f = again (k + 1) climb.2 e f

    by : Rest → (c d : Bool) → is_of m x ≡ d → cond c (Some x) (find p rs) ≡ Some r → cond d (Some x) (find (is_of m) rs) ≡ Some b → nat_lt n m ≡ nat_lt r.place b.place
    by again true true of e f =
        let same : r ≡ b = cc in
        let mine : x ≡ r = cc in
        let number : Some n ≡ Some m = sym (accepted-number r n told) ∙ (ap number_of (sym mine) ∙ accepted-number x m (numbered-told m x.told of)) in
        let equal : n ≡ m = cc in
        let places = ap (λ y. y.place) same in
        let no : nat_lt n m ≡ false = grind (arith, nat_tests) in
        let not-before : nat_lt r.place b.place ≡ false = grind (arith, nat_tests) in no ∙ sym not-before
    by again true false of e f =
        let mine : x ≡ r = cc in
        let number : number_of x ≡ Some n = ap number_of mine ∙ accepted-number r n told in
        let here = subst (λ o. Climbing low high (cons_option o (filter_map number_of rs))) number climb in
        let after = number-between (is_of m) (n + 1) high rs b m here.2 f (numbered-told m b.told (found-passes (is_of m) rs b f)) in
        let further = found-low (is_of m) (x.place + 1) rs b rise.1 f in
        let place-is = ap (λ y. y.place) mine in
        let less = after.0 in
        let yes : nat_lt n m ≡ true = grind (arith, nat_tests) in
        let before : nat_lt r.place b.place ≡ true = grind (arith, nat_tests) in yes ∙ sym before
    by again false true of e f =
        let mine : x ≡ b = cc in
        let number : number_of x ≡ Some m = accepted-number x m (numbered-told m x.told of) in
        let here = subst (λ o. Climbing low high (cons_option o (filter_map number_of rs))) number climb in
        let after = number-between p (m + 1) high rs r n here.2 e told in
        let further = found-low p (x.place + 1) rs r rise.1 e in
        let place-is = ap (λ y. y.place) mine in
        let more = after.0 in
        let no : nat_lt n m ≡ false = grind (arith, nat_tests) in
        let not-before : nat_lt r.place b.place ≡ false = grind (arith, nat_tests) in no ∙ sym not-before
    by again false false of e f = rest again (number_of x) climb e f

-- what is found passes another test, so that test finds something
also-found : (p q : Remembered → Bool) (rs : List Remembered) (r : Remembered) → find p rs ≡ Some r → q r ≡ true → is_some (find q rs) ≡ true
also-found p q [] r is passes = absurd cc
also-found p q (x ∷ rs) r is passes = by (p x) (q x) refl (λ e. also-found p q rs r e passes) is
  where
    by : (b c : Bool) → q x ≡ c → (find p rs ≡ Some r → is_some (find q rs) ≡ true) → cond b (Some x) (find p rs) ≡ Some r → is_some (cond c (Some x) (find q rs)) ≡ true
    by b true at rest e = refl
    by true false at rest e = let same : x ≡ r = cc in let no = ap q same in absurd cc
    by false false at rest e = rest e

module _ (h : History) (sound : IsSound h) (bound : ℕ) (may : prune_answer h bound ≡ None) (p : Remembered → Bool) (r : Remembered) (found : find p (known_arrivals h) ≡ Some r) where
  is-there : (o : Option Remembered) (n : ℕ) → find (is_of n) (known_arrivals h) ≡ o → is_some (message_at h n) ≡ is_some o
  is-there o n is = ap is_some (sym (found-message h sound bound may n)) ∙ (ap (λ x. is_some (option_map accepted_of x)) is ∙ by o)
    where
      by : (o : Option Remembered) → is_some (option_map accepted_of o) ≡ is_some o
      by None = refl
      by (Some x) = refl

  accepted-goes : (n : ℕ) → r.told ≡ told.Accepted n → nat_lt n bound ≡ nat_lt r.place (arrival_place h bound)
  accepted-goes n told = by (find (is_of bound) (known_arrivals h)) refl
    where
      between : (0 ≤ n) × (n < message_count h)
      between = number-between p 0 (message_count h) (known_arrivals h) r n (arrivals-climb h sound bound) found told

      own : is_of n r ≡ true
      own = let same : (n == n) ≡ true = grind (arith, nat_tests) in rw told same

      gone : find (is_of bound) (known_arrivals h) ≡ None → bound < message_count h → nat_lt n bound ≡ false
      gone none less = elim (lt-tells n bound) [
        | inl w ↦
            let low = w.1 in
            let here : is_some (message_at h n) ≡ true = is-there (find (is_of n) (known_arrivals h)) n refl ∙ also-found p (is_of n) (known_arrivals h) r found own in
            let there = in-turn h sound n bound (omega arith) less here in
            let missing = is-there None bound none in absurd cc
        | inr w ↦ w.0
      ]

      by : (o : Option Remembered) → find (is_of bound) (known_arrivals h) ≡ o → nat_lt n bound ≡ nat_lt r.place (option_map_or (λ r. r.place) o (cond (nat_lt bound (message_count h)) 0 (next_place h)))
      by (Some b) is = ordered p bound 0 0 (message_count h) (known_arrivals h) r b n (arrivals-rise h sound) (arrivals-climb h sound bound) found told is
      by None is = elim (lt-tells bound (message_count h)) [
        | inl w ↦ let never : nat_lt r.place 0 ≡ false = grind (arith, nat_tests) in rw w.0 (gone is w.1 ∙ sym never)
        | inr w ↦
            let all = w.1 in
            let less = between.1 in
            let within = found-holds p (λ r. r.place < next_place h) (known_arrivals h) r (arrivals-within h sound) found in
            let yes : nat_lt n bound ≡ true = grind (arith, nat_tests) in
            let before : nat_lt r.place (next_place h) ≡ true = grind (arith, nat_tests) in rw w.0 (yes ∙ sym before)
      ]

  -- an arrival is forgotten where it stands before that of the first message that isn't
  pub goes-before : is_forgotten h bound r ≡ nat_lt r.place (arrival_place h bound)
  goes-before = by r.told refl (found-holds p (IsMemory (plan_in_force h)) (known_arrivals h) r (arrivals-good h sound) found).kept
    where
      by : (t : Told) → r.told ≡ t → is_kept r.told ≡ true → is_forgotten h bound r ≡ nat_lt r.place (arrival_place h bound)
      by (told.Accepted n) is kept = ap (goes_with h bound r.place) is ∙ accepted-goes n is
      by told.Filtered is kept = ap (goes_with h bound r.place) is
      by (told.Refused cause) is kept = let no = ap is_kept is in absurd cc
      by (told.Repeat first) is kept = let no = ap is_kept is in absurd cc

-- ---- keys

abbrev AreApart : List Remembered → Type 0
AreApart rs = AllPairs (λ r s. has_key (key_of r.channel r.raw) s ≡ false) rs

none-else : (key : List ℕ) (keep : Remembered → Bool) (rs : List Remembered) → AllByRecursion (λ s. has_key key s ≡ false) rs → find (has_key key) (filter keep rs) ≡ None
none-else key keep [] all = refl
none-else key keep (r ∷ rs) all = elim (keep r) as (λ b. find (has_key key) (cond b (r ∷ filter keep rs) (filter keep rs)) ≡ None) [ true ↦ rw all.0 (none-else key keep rs all.1) | false ↦ none-else key keep rs all.1 ]

same-key : (a b : List ℕ) → bytes_eq a b ≡ true → a ≡ b
same-key a b same = search (rules, bytes_eq-Decides)

-- of arrivals with keys of their own, some of which are dropped, a key finds its own or none
find-own : (key : List ℕ) (keep : Remembered → Bool) (rs : List Remembered) → AreApart rs → find (has_key key) (filter keep rs) ≡ option_and_then (λ r. cond (keep r) (Some r) None) (find (has_key key) rs)
find-own key keep [] apart = refl
find-own key keep (r ∷ rs) apart = by (has_key key r) (keep r) refl refl (find-own key keep rs (λ i j d before inside. apart (suc i) (suc j) d (omega arith) (omega arith)))
  where
    others : All (λ s. has_key (key_of r.channel r.raw) s ≡ false) rs
    others = λ k d inside. apart 0 (suc k) d (omega arith) (omega arith)

    by : (b c : Bool) → has_key key r ≡ b → keep r ≡ c → find (has_key key) (filter keep rs) ≡ option_and_then (λ r. cond (keep r) (Some r) None) (find (has_key key) rs)
        → find (has_key key) (cond c (r ∷ filter keep rs) (filter keep rs)) ≡ option_and_then (λ r. cond (keep r) (Some r) None) (cond b (Some r) (find (has_key key) rs))
    by true true has kept rest = rw (has, kept) refl
    by true false has kept rest =
        let own = same-key key (key_of r.channel r.raw) has in
        rw kept (none-else key keep rs (subst (λ k. AllByRecursion (λ s. has_key k s ≡ false) rs) (sym own) (recursion_from_All (λ s. has_key (key_of r.channel r.raw) s ≡ false) rs others)))
    by false true has kept rest = rw has rest
    by false false has kept rest = rest

-- a key is known of a pruned history where it stood from the first arrival on that isn't forgotten
pub known-pruned : (h : History) → IsSound h → (bound : ℕ) → prune_answer h bound ≡ None → (key : List ℕ)
    → known (pruned bound h) key ≡ option_and_then (λ place. cond (nat_le (arrival_place h bound) place) (Some place) None) (known h key)
known-pruned h sound bound may key =
    first (option_map (λ r. r.place) (find (has_key key) (filter (λ r. not (is_forgotten h bound r)) (known_arrivals h))))
    ∙ (ap (option_map (λ r. r.place)) (find-own key (λ r. not (is_forgotten h bound r)) (known_arrivals h) (arrivals-apart h sound))
    ∙ (by (find (has_key key) (known_arrivals h)) refl ∙ ap (option_and_then (λ place. cond (nat_le (arrival_place h bound) place) (Some place) None)) (sym (known-arrivals h key))))
  where
    first : (o : Option ℕ) → option_map_or (λ place. Some place) o None ≡ o
    first None = refl
    first (Some place) = refl

    le-lt : (a b : ℕ) → not (nat_lt b a) ≡ nat_le a b
    le-lt a b = elim (lt-tells b a) [
      | inl w ↦ let less = w.1 in let no : nat_le a b ≡ false = grind (arith, nat_tests) in rw w.0 (sym no)
      | inr w ↦ let more = w.1 in let yes : nat_le a b ≡ true = grind (arith, nat_tests) in rw w.0 (sym yes)
    ]

    by : (o : Option Remembered) → find (has_key key) (known_arrivals h) ≡ o
        → option_map (λ r. r.place) (option_and_then (λ r. cond (not (is_forgotten h bound r)) (Some r) None) o)
        ≡ option_and_then (λ place. cond (nat_le (arrival_place h bound) place) (Some place) None) (option_map (λ r. r.place) o)
    by None is = refl
    by (Some r) is =
        let keeps : not (is_forgotten h bound r) ≡ nat_le (arrival_place h bound) r.place = ap not (goes-before h sound bound may (has_key key) r is) ∙ le-lt (arrival_place h bound) r.place in
        rw keeps (at (nat_le (arrival_place h bound) r.place))
      where
        at : (b : Bool) → option_map (λ r. r.place) (cond b (Some r) None) ≡ cond b (Some r.place) None
        at true = refl
        at false = refl
