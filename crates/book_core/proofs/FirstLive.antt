-- The first message that is still to be delivered.
use Rattle.std.proofs.Common.{◌≡◌, ℕ, ◌+◌, ◌-◌, ◌<◌, ◌≤◌, Bool, true, false, cond, ◌||◌, nat_lt, List, [], ◌∷◌, Option, None, Some, refl, sym, ◌∙◌, ap, arith, suc, zero}
use Rattle.std.specs.Prelude.{filter, find, slice_get}
use Rattle.std.specs.List.{list_any, range_with_len}
use Rattle.std.specs.Option.{option_map_or}
use Rattle.std.proofs.lemmas.Bool.Decides.{nat_tests}
use Rattle.std.proofs.lemmas.List.Folds.{list_any-append}
use Rattle.event_log.specs.declared.refusal.PruneRefusal.{PruneRefusal}
use Rattle.event_log.specs.declared.refusal.PruneRefusal.TheVariants.{NoSuchMessage, StillLive, TooMany}
use Rattle.event_log.specs.Folding.{is_live_message, prune_answer}
use Rattle.event_log.specs.History.{History, is_queued, message_count, numbers, queue}
use Rattle.event_log.proofs.FoldedAlike.{range-split}
use Rattle.book_core.specs.inner.Pruning.{lesser}

-- what is found in a range is not below it
found-from : (p : ℕ → Bool) (a k n : ℕ) → find p (range_with_len a k) ≡ Some n → a ≤ n
found-from p a zero n is = absurd cc
found-from p a (suc k) n is = elim (p a) as (λ b. cond b (Some a) (find p (range_with_len (a + 1) k)) ≡ Some n → a ≤ n) [
  | true ↦ λ e. let same : a ≡ n = cc in omega arith
  | false ↦ λ e. let later = found-from p (a + 1) k n e in omega arith
] is

-- and is the lesser of what either finds, where one of two passes
either-found : (p q : ℕ → Bool) (a k : ℕ) → find (λ n. p n || q n) (range_with_len a k) ≡ lesser (find p (range_with_len a k)) (find q (range_with_len a k))
either-found p q a zero = refl
either-found p q a (suc k) = by (p a) (q a) (find p (range_with_len (a + 1) k)) (find q (range_with_len (a + 1) k)) refl refl (either-found p q (a + 1) k)
  where
    by : (b c : Bool) (f g : Option ℕ) → find p (range_with_len (a + 1) k) ≡ f → find q (range_with_len (a + 1) k) ≡ g → find (λ n. p n || q n) (range_with_len (a + 1) k) ≡ lesser f g
        → cond (b || c) (Some a) (find (λ n. p n || q n) (range_with_len (a + 1) k)) ≡ lesser (cond b (Some a) f) (cond c (Some a) g)
    by true true f g is-f is-g rest = let no : nat_lt a a ≡ false = grind (arith, nat_tests) in rw no refl
    by true false f None is-f is-g rest = refl
    by true false f (Some n) is-f is-g rest =
        let later = found-from q (a + 1) k n is-g in
        let no : nat_lt n a ≡ false = grind (arith, nat_tests) in rw no refl
    by false true None g is-f is-g rest = refl
    by false true (Some n) g is-f is-g rest =
        let later = found-from p (a + 1) k n is-f in
        let yes : nat_lt a n ≡ true = grind (arith, nat_tests) in rw yes refl
    by false false f g is-f is-g rest = rest

-- what is found is the first of all that pass
first-filtered : (p : ℕ → Bool) (ns : List ℕ) → slice_get (filter p ns) 0 ≡ find p ns
first-filtered p [] = refl
first-filtered p (n ∷ ns) = elim (p n) as (λ b. slice_get (cond b (n ∷ filter p ns) (filter p ns)) 0 ≡ cond b (Some n) (find p ns)) [ true ↦ refl | false ↦ first-filtered p ns ]

find-same : (p q : ℕ → Bool) → ((n : ℕ) → p n ≡ q n) → (ns : List ℕ) → find p ns ≡ find q ns
find-same p q same [] = refl
find-same p q same (n ∷ ns) = λ i. cond (same n i) (Some n) (find-same p q same ns i)

find-no : (ns : List ℕ) → find (λ n. false) ns ≡ None
find-no [] = refl
find-no (n ∷ ns) = find-no ns

-- the first message that is still to be delivered to a destination below d
abbrev pub first_below : History → ℕ → Option ℕ
first_below h d = find (λ n. list_any (λ e. is_queued h e n) (range_with_len 0 d)) (numbers h)

pub first-none : (h : History) → first_below h 0 ≡ None
first-none h = find-no (numbers h)

-- with one destination more it is the lesser of that and the front of its queue
pub first-more : (h : History) (d : ℕ) → first_below h (d + 1) ≡ lesser (first_below h d) (slice_get (queue h d) 0)
first-more h d =
    find-same (λ n. list_any (λ e. is_queued h e n) (range_with_len 0 (d + 1))) (λ n. list_any (λ e. is_queued h e n) (range_with_len 0 d) || is_queued h d n) one (numbers h)
    ∙ (either-found (λ n. list_any (λ e. is_queued h e n) (range_with_len 0 d)) (is_queued h d) 0 (message_count h)
    ∙ ap (lesser (first_below h d)) (sym (first-filtered (is_queued h d) (numbers h))))
  where
    last : (b : Bool) → (b || false) ≡ b
    last true = refl
    last false = refl

    from : 0 + d ≡ d
    from = omega arith

    one : (n : ℕ) → list_any (λ e. is_queued h e n) (range_with_len 0 (d + 1)) ≡ (list_any (λ e. is_queued h e n) (range_with_len 0 d) || is_queued h d n)
    one n =
        ap (list_any (λ e. is_queued h e n)) (range-split 0 d 1)
        ∙ (list_any-append (λ e. is_queued h e n) (range_with_len 0 d) (range_with_len (0 + d) 1)
        ∙ ap (λ b. list_any (λ e. is_queued h e n) (range_with_len 0 d) || b) (last (is_queued h (0 + d) n) ∙ ap (λ k. is_queued h k n) from))

-- what is found below a bound is what is found in all, where that is below it
find-bound : (p : ℕ → Bool) (a k j : ℕ) → find p (range_with_len a k) ≡ option_map_or (λ n. cond (nat_lt n (a + k)) (Some n) None) (find p (range_with_len a (k + j))) None
find-bound p a zero j = let none : 0 + j ≡ j = omega arith in rw none (by (find p (range_with_len a j)) refl)
  where
    by : (o : Option ℕ) → find p (range_with_len a j) ≡ o → ◌≡◌ {A = Option ℕ} None (option_map_or (λ n. cond (nat_lt n (a + 0)) (Some n) None) o None)
    by None is = refl
    by (Some n) is =
        let later = found-from p a j n is in
        let no : nat_lt n (a + 0) ≡ false = grind (arith, nat_tests) in rw no refl
find-bound p a (suc k) j = let more : suc k + j ≡ suc (k + j) = omega arith in rw more (by (p a) (find-bound p (a + 1) k j))
  where
    next : a + 1 + k ≡ a + suc k
    next = omega arith

    by : (b : Bool) → find p (range_with_len (a + 1) k) ≡ option_map_or (λ n. cond (nat_lt n (a + 1 + k)) (Some n) None) (find p (range_with_len (a + 1) (k + j))) None
        → cond b (Some a) (find p (range_with_len (a + 1) k)) ≡ option_map_or (λ n. cond (nat_lt n (a + suc k)) (Some n) None) (cond b (Some a) (find p (range_with_len (a + 1) (k + j)))) None
    by true rest = let yes : nat_lt a (a + suc k) ≡ true = grind (arith, nat_tests) in rw yes refl
    by false rest = rest ∙ ap (λ x. option_map_or (λ n. cond (nat_lt n x) (Some n) None) (find p (range_with_len (a + 1) (k + j))) None) next

first-bound : (h : History) (bound : ℕ) → bound ≤ message_count h → find (is_live_message h) (range_with_len 0 bound) ≡ option_map_or (λ n. cond (nat_lt n bound) (Some n) None) (first_below h 32) None
first-bound h bound few =
    let whole : bound + (message_count h - bound) ≡ message_count h = omega arith in
    let own : 0 + bound ≡ bound = omega arith in
    find-bound (is_live_message h) 0 bound (message_count h - bound)
    ∙ (λ i. option_map_or (λ n. cond (nat_lt n (own i)) (Some n) None) (find (is_live_message h) (range_with_len 0 (whole i))) None)

-- ---- the answer

pub refused-number : (h : History) (bound : ℕ) → message_count h < bound → prune_answer h bound ≡ Some NoSuchMessage
unfolding prune_answer
refused-number h bound more = let yes : nat_lt (message_count h) bound ≡ true = grind (arith, nat_tests) in rw yes refl

-- why no more prunings are made
abbrev many_or : History → Option PruneRefusal
many_or h = cond (nat_lt h.opening.prunings 1000) None (Some TooMany)

answer-from : (h : History) (bound : ℕ) → bound ≤ message_count h → (o : Option ℕ) → first_below h 32 ≡ o
    → prune_answer h bound ≡ option_map_or (λ n. Some (StillLive n)) (option_map_or (λ n. cond (nat_lt n bound) (Some n) None) o None) (many_or h)
unfolding prune_answer
answer-from h bound few o is =
    let no : nat_lt (message_count h) bound ≡ false = grind (arith, nat_tests) in
    ap (λ b. cond b (Some NoSuchMessage) (option_map_or (λ n. Some (StillLive n)) (find (is_live_message h) (range_with_len 0 bound)) (many_or h))) no
    ∙ ap (λ f. option_map_or (λ n. Some (StillLive n)) f (many_or h)) (first-bound h bound few ∙ ap (λ f. option_map_or (λ n. cond (nat_lt n bound) (Some n) None) f None) is)

pub refused-live : (h : History) (bound n : ℕ) → bound ≤ message_count h → first_below h 32 ≡ Some n → n < bound → prune_answer h bound ≡ Some (StillLive n)
refused-live h bound n few is below =
    let yes : nat_lt n bound ≡ true = grind (arith, nat_tests) in
    answer-from h bound few (Some n) is ∙ ap (λ b. option_map_or (λ n. Some (StillLive n)) (cond b (Some n) None) (many_or h)) yes

-- where none below the bound is live, the prunings tell
pub settled-below : (h : History) (bound : ℕ) → bound ≤ message_count h → (o : Option ℕ) → first_below h 32 ≡ o → ((n : ℕ) → o ≡ Some n → bound ≤ n) → prune_answer h bound ≡ many_or h
settled-below h bound few None is past = answer-from h bound few None is
settled-below h bound few (Some n) is past =
    let beyond = past n refl in
    let no : nat_lt n bound ≡ false = grind (arith, nat_tests) in
    answer-from h bound few (Some n) is ∙ ap (λ b. option_map_or (λ n. Some (StillLive n)) (cond b (Some n) None) (many_or h)) no

pub refused-many : (h : History) (bound : ℕ) → bound ≤ message_count h → (o : Option ℕ) → first_below h 32 ≡ o → ((n : ℕ) → o ≡ Some n → bound ≤ n) → 1000 ≤ h.opening.prunings → prune_answer h bound ≡ Some TooMany
refused-many h bound few o is past many = let no : nat_lt h.opening.prunings 1000 ≡ false = grind (arith, nat_tests) in settled-below h bound few o is past ∙ ap (λ b. cond b None (Some TooMany)) no

pub not-refused : (h : History) (bound : ℕ) → bound ≤ message_count h → (o : Option ℕ) → first_below h 32 ≡ o → ((n : ℕ) → o ≡ Some n → bound ≤ n) → h.opening.prunings < 1000 → prune_answer h bound ≡ None
not-refused h bound few o is past left = let yes : nat_lt h.opening.prunings 1000 ≡ true = grind (arith, nat_tests) in settled-below h bound few o is past ∙ ap (λ b. cond b None (Some TooMany)) yes
