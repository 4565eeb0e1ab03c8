-- Lemmas on how many entries of a kind each seat added: where seats with different numbers added all of them, each has the
-- number of one of these seats.
use Rattle.std.proofs.Common.{◌≡◌, ◌≢◌, ◌⊎◌, ℕ, zero, suc, ◌+◌, ◌≤◌, ◌==◌, Bool, true, false, cond, List, [], ◌∷◌, ◌++◌, map, refl, ap, sym, ◌∙◌, subst, inl, inr, ⊎_elim, arith, All}
use Rattle.std.specs.Prelude.{AllPairs, Some, slice_get, sum_by, count_by}
use Rattle.std.specs.List.{Contains}
use Rattle.std.proofs.lemmas.List.Elements.{All-cons, All-head, All-nil, All-tail}
use Rattle.std.proofs.lemmas.List.Kept.{AllPairs-cons}
use Rattle.std.proofs.lemmas.List.Sums.{sum_by-cons, sum_by_push}
use Rattle.std.proofs.lemmas.Bool.Decides.{nat_tests}
use Rattle.ghost_log.specs.Seats.{Agrees, entries_of}
use Rattle.ghost_log.proofs.Seats.{entries_more}

-- ---- pairs

module _ {X : Type 0} where
  pub pairs_head : (R : X → X → Type 0) (x : X) (xs : List X) → AllPairs R (x ∷ xs) → All (R x) xs
  pairs_head R x xs h k d inside = h 0 (suc k) d (omega arith) (omega arith)

  pub pairs_tail : (R : X → X → Type 0) (x : X) (xs : List X) → AllPairs R (x ∷ xs) → AllPairs R xs
  pairs_tail R x xs h i j d before inside = h (suc i) (suc j) d (omega arith) (omega arith)

  pairs_none : (R : X → X → Type 0) → AllPairs R []
  pairs_none R i j d before inside = absurd (omega arith)

  pub all_front : (P : X → Type 0) (xs ys : List X) → All P (xs ++ ys) → All P xs
  all_front P [] ys h = All-nil P
  all_front P (x ∷ xs) ys h = All-cons P x xs (All-head P x (xs ++ ys) h) (all_front P xs ys (All-tail P x (xs ++ ys) h))

  pub all_back : (P : X → Type 0) (xs ys : List X) → All P (xs ++ ys) → All P ys
  all_back P [] ys h = h
  all_back P (x ∷ xs) ys h = all_back P xs ys (All-tail P x (xs ++ ys) h)

  pub pairs_front : (R : X → X → Type 0) (xs ys : List X) → AllPairs R (xs ++ ys) → AllPairs R xs
  pairs_front R [] ys h = pairs_none R
  pairs_front R (x ∷ xs) ys h = AllPairs-cons R x xs (all_front (R x) xs ys (pairs_head R x (xs ++ ys) h)) (pairs_front R xs ys (pairs_tail R x (xs ++ ys) h))

  pub pairs_back : (R : X → X → Type 0) (xs ys : List X) → AllPairs R (xs ++ ys) → AllPairs R ys
  pairs_back R [] ys h = h
  pairs_back R (x ∷ xs) ys h = pairs_back R xs ys (pairs_tail R x (xs ++ ys) h)

  -- what holds of each element holds of the one at an index
  pub all_at : (P : X → Type 0) (xs : List X) (x : X) (k : ℕ) → All P xs → slice_get xs k ≡ Some x → P x
  all_at P [] x k h at = absurd cc
  all_at P (y ∷ ys) x zero h at = let same : y ≡ x = cc in subst P same (All-head P y ys h)
  all_at P (y ∷ ys) x (suc k) h at = all_at P ys x k (All-tail P y ys h) at

module _ {X Y : Type 0} (f : X → Y) where
  pub all_of_map : (P : Y → Type 0) (xs : List X) → All P (map f xs) → All (λ x. P (f x)) xs
  all_of_map P [] h = All-nil (λ x. P (f x))
  all_of_map P (x ∷ xs) h = All-cons (λ x. P (f x)) x xs (All-head P (f x) (map f xs) h) (all_of_map P xs (All-tail P (f x) (map f xs) h))

  pub all_in_map : (P : Y → Type 0) (xs : List X) → All (λ x. P (f x)) xs → All P (map f xs)
  all_in_map P [] h = All-nil P
  all_in_map P (x ∷ xs) h = All-cons P (f x) (map f xs) (All-head (λ x. P (f x)) x xs h) (all_in_map P xs (All-tail (λ x. P (f x)) x xs h))

  pub pairs_of_map : (R : Y → Y → Type 0) (xs : List X) → AllPairs R (map f xs) → AllPairs (λ x y. R (f x) (f y)) xs
  pairs_of_map R [] h = λ i j d before inside. absurd (omega arith)
  pairs_of_map R (x ∷ xs) h =
      let S : X → X → Type 0 = λ x y. R (f x) (f y) in
      AllPairs-cons S x xs (all_of_map (R (f x)) xs (pairs_head R (f x) (map f xs) h)) (pairs_of_map R xs (pairs_tail R (f x) (map f xs) h))

  pub pairs_in_map : (R : Y → Y → Type 0) (xs : List X) → AllPairs (λ x y. R (f x) (f y)) xs → AllPairs R (map f xs)
  pairs_in_map R [] h = λ i j d before inside. absurd (omega arith)
  pairs_in_map R (x ∷ xs) h =
      let S : X → X → Type 0 = λ x y. R (f x) (f y) in
      AllPairs-cons R (f x) (map f xs) (all_in_map (R (f x)) xs (pairs_head S x xs h)) (pairs_in_map R xs (pairs_tail S x xs h))

-- ---- numbers

-- a number that is hit counts this much
abbrev pub hit : ℕ → ℕ → ℕ → ℕ
hit n c k = cond (n == k) c 0

contains_later : (k n : ℕ) (ks : List ℕ) → Contains ks n → Contains (k ∷ ks) n
contains_later k n ks h = (suc h.0, omega (arith, h.1), h.2)

contains_first : (k n : ℕ) (ks : List ℕ) → k ≡ n → Contains (k ∷ ks) n
contains_first k n ks same = (0, omega arith, same)

pub hit_same : (n c k : ℕ) (b : Bool) → (n == k) ≡ b → n ≡ k → hit n c k ≡ c
hit_same n c k true is same = rw is refl
hit_same n c k false is same = absurd (grind (arith, nat_tests))

pub hit_other : (n c k : ℕ) (b : Bool) → (n == k) ≡ b → n ≢ k → hit n c k ≡ 0
hit_other n c k true is apart = absurd (apart (grind (arith, nat_tests)))
hit_other n c k false is apart = rw is refl

same_or_not : (n k : ℕ) (b : Bool) → (n == k) ≡ b → (n ≡ k) ⊎ (n ≢ k)
same_or_not n k true is = inl (grind (arith, nat_tests))
same_or_not n k false is = inr (λ same. absurd (grind (arith, nat_tests)))

none_hit : (n c : ℕ) (ks : List ℕ) → All (λ k. n ≢ k) ks → sum_by (hit n c) ks ≡ 0
none_hit n c [] h = refl
none_hit n c (k ∷ ks) h =
    let first : hit n c k ≡ 0 = hit_other n c k (n == k) refl (All-head (λ k. n ≢ k) k ks h) in
    let rest : sum_by (hit n c) ks ≡ 0 = none_hit n c ks (All-tail (λ k. n ≢ k) k ks h) in
    omega (arith, sum_by-cons (hit n c) k ks, first, rest)

pub hits_more : (n c k : ℕ) (ks : List ℕ) → All (λ j. k ≢ j) ks → (n ≡ k) ⊎ (n ≢ k) → (sum_by (hit n c) ks ≡ 0) ⊎ ((sum_by (hit n c) ks ≡ c) × Contains ks n)
    → (sum_by (hit n c) (k ∷ ks) ≡ 0) ⊎ ((sum_by (hit n c) (k ∷ ks) ≡ c) × Contains (k ∷ ks) n)
hits_more n c k ks others (inl same) rest =
    let all : sum_by (hit n c) (k ∷ ks) ≡ hit n c k + sum_by (hit n c) ks = sum_by-cons (hit n c) k ks in
    let first : hit n c k ≡ c = hit_same n c k (n == k) refl same in
    let none : sum_by (hit n c) ks ≡ 0 = none_hit n c ks (subst (λ m. All (λ j. m ≢ j) ks) (sym same) others) in
    inr (omega (arith, all, first, none), contains_first k n ks (sym same))
hits_more n c k ks others (inr other) (inl none) =
    let all : sum_by (hit n c) (k ∷ ks) ≡ hit n c k + sum_by (hit n c) ks = sum_by-cons (hit n c) k ks in
    let first : hit n c k ≡ 0 = hit_other n c k (n == k) refl other in
    inl (omega (arith, all, first, none))
hits_more n c k ks others (inr other) (inr one) =
    let all : sum_by (hit n c) (k ∷ ks) ≡ hit n c k + sum_by (hit n c) ks = sum_by-cons (hit n c) k ks in
    let first : hit n c k ≡ 0 = hit_other n c k (n == k) refl other in
    let rest : sum_by (hit n c) ks ≡ c = one.0 in
    inr (omega (arith, all, first, rest), contains_later k n ks one.1)

-- of different numbers, one at most is hit
pub hits : (n c : ℕ) (ks : List ℕ) → AllPairs (λ i j. i ≢ j) ks → (sum_by (hit n c) ks ≡ 0) ⊎ ((sum_by (hit n c) ks ≡ c) × Contains ks n)
hits n c [] apart = inl refl
hits n c (k ∷ ks) apart = hits_more n c k ks (pairs_head (λ i j. i ≢ j) k ks apart) (same_or_not n k (n == k) refl) (hits n c ks (pairs_tail (λ i j. i ≢ j) k ks apart))

-- and one is, where it is among them
pub hit_found : (n c : ℕ) (ks : List ℕ) → AllPairs (λ i j. i ≢ j) ks → Contains ks n → sum_by (hit n c) ks ≡ c
hit_found n c [] apart has = absurd (let lt = has.1 in omega (arith, lt))
hit_found n c (k ∷ ks) apart has =
    by (same_or_not n k (n == k) refl) (hit_found n c ks (pairs_tail (λ i j. i ≢ j) k ks apart))
  where
    others : All (λ j. k ≢ j) ks
    others = pairs_head (λ i j. i ≢ j) k ks apart

    later : n ≢ k → Contains (k ∷ ks) n → Contains ks n
    later other (zero, lt, at) = absurd (other (sym at))
    later other (suc i, lt, at) = (i, omega (arith, lt), at)

    by : (n ≡ k) ⊎ (n ≢ k) → (Contains ks n → sum_by (hit n c) ks ≡ c) → sum_by (hit n c) (k ∷ ks) ≡ c
    by (inl same) found =
        let first : hit n c k ≡ c = hit_same n c k (n == k) refl same in
        let none : sum_by (hit n c) ks ≡ 0 = none_hit n c ks (subst (λ m. All (λ j. m ≢ j) ks) (sym same) others) in
        omega (arith, sum_by-cons (hit n c) k ks, first, none)
    by (inr other) found =
        let first : hit n c k ≡ 0 = hit_other n c k (n == k) refl other in
        let rest : sum_by (hit n c) ks ≡ c = found (later other has) in
        omega (arith, sum_by-cons (hit n c) k ks, first, rest)

sums_add : (f g h : ℕ → ℕ) (ks : List ℕ) → ((k : ℕ) → h k ≡ f k + g k) → sum_by h ks ≡ sum_by f ks + sum_by g ks
sums_add f g h [] each = refl
sums_add f g h (k ∷ ks) each = omega (arith, sum_by-cons f k ks, sum_by-cons g k ks, sum_by-cons h k ks, sums_add f g h ks each, each k)

-- ---- entries

module _ {E : Type 0} (p : E → Bool) where
  -- how many entries that pass this seat added
  abbrev pub count_own : List (ℕ × E) → ℕ → ℕ
  count_own log k = count_by p (entries_of k log)

  -- how many pass in all
  abbrev pub count_all : List (ℕ × E) → ℕ
  count_all log = count_by (λ x. p x.1) log

  own_more : (x : ℕ × E) (log : List (ℕ × E)) (k : ℕ) (b : Bool) → (x.0 == k) ≡ b → count_own (x ∷ log) k ≡ hit x.0 (cond (p x.1) 1 0) k + count_own log k
  own_more x log k true is = rw is (sum_by-cons (λ e. cond (p e) 1 0) x.1 (entries_of k log))
  own_more x log k false is = rw is (omega arith)

  owns_more : (x : ℕ × E) (log : List (ℕ × E)) (ks : List ℕ) → sum_by (count_own (x ∷ log)) ks ≡ sum_by (hit x.0 (cond (p x.1) 1 0)) ks + sum_by (count_own log) ks
  owns_more x log ks = sums_add (hit x.0 (cond (p x.1) 1 0)) (count_own log) (count_own (x ∷ log)) ks (λ k. own_more x log k (x.0 == k) refl)

  none_owned : (ks : List ℕ) → sum_by (count_own []) ks ≡ 0
  none_owned [] = refl
  none_owned (k ∷ ks) = omega (arith, sum_by-cons (count_own []) k ks, none_owned ks)

  -- seats with different numbers added no more than all
  owned_few : (ks : List ℕ) → AllPairs (λ i j. i ≢ j) ks → (log : List (ℕ × E)) → sum_by (count_own log) ks ≤ count_all log
  owned_few ks apart [] = omega (arith, none_owned ks)
  owned_few ks apart (x ∷ log) =
      let c : ℕ = cond (p x.1) 1 0 in
      let more = owns_more x log ks in
      let all = sum_by-cons (λ (y : ℕ × E). cond (p y.1) 1 0) x log in
      let few = owned_few ks apart log in
      ⊎_elim
      (λ (none : sum_by (hit x.0 c) ks ≡ 0). omega (arith, more, all, few, none))
      (λ (one : (sum_by (hit x.0 c) ks ≡ c) × Contains ks x.0). let h = one.0 in omega (arith, more, all, few, h))
      (hits x.0 c ks apart)

  -- where each entry that passes has one of these numbers, they added all
  pub owned_whole : (ks : List ℕ) → AllPairs (λ i j. i ≢ j) ks → (log : List (ℕ × E)) → All (λ x. p x.1 ≡ true → Contains ks x.0) log → sum_by (count_own log) ks ≡ count_all log
  owned_whole ks apart [] each = none_owned ks
  owned_whole ks apart (x ∷ log) each =
      let c : ℕ = cond (p x.1) 1 0 in
      let more : sum_by (count_own (x ∷ log)) ks ≡ sum_by (hit x.0 c) ks + sum_by (count_own log) ks = owns_more x log ks in
      let all : count_all (x ∷ log) ≡ c + count_all log = sum_by-cons (λ (y : ℕ × E). cond (p y.1) 1 0) x log in
      let rest : sum_by (count_own log) ks ≡ count_all log = owned_whole ks apart log (All-tail (λ x. p x.1 ≡ true → Contains ks x.0) x log each) in
      let here : sum_by (hit x.0 c) ks ≡ c = hit_here x.0 (p x.1) refl (All-head (λ x. p x.1 ≡ true → Contains ks x.0) x log each) in
      omega (arith, more, all, rest, here)
    where
      hit_here : (n : ℕ) (b : Bool) → p x.1 ≡ b → (p x.1 ≡ true → Contains ks n) → sum_by (hit n (cond (p x.1) 1 0)) ks ≡ cond (p x.1) 1 0
      hit_here n true is has = hit_found n (cond (p x.1) 1 0) ks apart (has is)
      hit_here n false is has = ⊎_elim (λ none. none ∙ sym (rw is refl)) (λ one. one.0) (hits n (cond (p x.1) 1 0) ks apart)

  passes_one : (e : E) → p e ≡ true → ◌≡◌ {A = ℕ} (cond (p e) 1 0) 1
  passes_one e passes = rw passes refl

  -- where they added all, each entry that passes has one of these numbers
  owned_all : (ks : List ℕ) → AllPairs (λ i j. i ≢ j) ks → (log : List (ℕ × E)) → sum_by (count_own log) ks ≡ count_all log → All (λ x. p x.1 ≡ true → Contains ks x.0) log
  owned_all ks apart [] all = All-nil (λ x. p x.1 ≡ true → Contains ks x.0)
  owned_all ks apart (x ∷ log) whole =
      let c : ℕ = cond (p x.1) 1 0 in
      let more : sum_by (count_own (x ∷ log)) ks ≡ sum_by (hit x.0 c) ks + sum_by (count_own log) ks = owns_more x log ks in
      let all : count_all (x ∷ log) ≡ c + count_all log = sum_by-cons (λ (y : ℕ × E). cond (p y.1) 1 0) x log in
      let few : sum_by (count_own log) ks ≤ count_all log = owned_few ks apart log in
      ⊎_elim
      (λ (none : sum_by (hit x.0 c) ks ≡ 0).
      All-cons (λ x. p x.1 ≡ true → Contains ks x.0) x log
      (λ passes. let one : c ≡ 1 = passes_one x.1 passes in absurd (omega (arith, more, all, few, whole, none, one)))
      (owned_all ks apart log (omega (arith, more, all, few, whole, none))))
      (λ (one : (sum_by (hit x.0 c) ks ≡ c) × Contains ks x.0).
      All-cons (λ x. p x.1 ≡ true → Contains ks x.0) x log
      (λ passes. one.1)
      (owned_all ks apart log (let h = one.0 in omega (arith, more, all, few, whole, h))))
      (hits x.0 c ks apart)

  -- a seat that saw the log and then added an entry
  pub own_added : (k : ℕ) (seen log log' : List (ℕ × E)) (e : E) → Agrees k seen log → log' ≡ log ++ (k, e) ∷ [] → count_own log' k ≡ count_own seen k + cond (p e) 1 0
  own_added k seen log log' e agreed is =
      ap (λ l. count_own l k) is ∙ (ap (count_by p) (entries_more k log e) ∙ (sum_by_push (λ d. cond (p d) 1 0) (entries_of k log) e
      ∙ ap (λ (l : List E). count_by p l + cond (p e) 1 0) agreed.own))

  -- a seat that saw the log
  pub own_shown : (k : ℕ) (seen log : List (ℕ × E)) → Agrees k seen log → count_own log k ≡ count_own seen k
  own_shown k seen log agreed = ap (count_by p) agreed.own

  pub all_added : (log log' : List (ℕ × E)) (x : ℕ × E) → log' ≡ log ++ x ∷ [] → count_all log' ≡ count_all log + cond (p x.1) 1 0
  all_added log log' x is = ap count_all is ∙ sum_by_push (λ (y : ℕ × E). cond (p y.1) 1 0) log x

  -- what seats count is what they added to the log
  pub counts_owned : {X : Type 0} (made : X → ℕ) (seat : X → ℕ × List (ℕ × E)) (xs : List X) (log : List (ℕ × E)) → All (λ x. made x ≡ count_own (seat x).1 (seat x).0) xs → All (λ x. Agrees (seat x).0 (seat x).1 log) xs
      → sum_by made xs ≡ sum_by (count_own log) (map (λ x. (seat x).0) xs)
  counts_owned made seat [] log own agreed = refl
  counts_owned made seat (x ∷ xs) log own agreed =
      let here : made x ≡ count_own (seat x).1 (seat x).0 = All-head (λ x. made x ≡ count_own (seat x).1 (seat x).0) x xs own in
      let there : count_own log (seat x).0 ≡ count_own (seat x).1 (seat x).0 = own_shown (seat x).0 (seat x).1 log (All-head (λ x. Agrees (seat x).0 (seat x).1 log) x xs agreed) in
      let rest : sum_by made xs ≡ sum_by (count_own log) (map (λ x. (seat x).0) xs) = counts_owned made seat xs log (All-tail (λ x. made x ≡ count_own (seat x).1 (seat x).0) x xs own) (All-tail (λ x. Agrees (seat x).0 (seat x).1 log) x xs agreed) in
      omega (arith, sum_by-cons made x xs, sum_by-cons (count_own log) (seat x).0 (map (λ x. (seat x).0) xs), here, there, rest)

  -- seats with different numbers, of which each entry that passes has one, count as many as the log has
  pub all_counted : {X : Type 0} (made : X → ℕ) (seat : X → ℕ × List (ℕ × E)) (xs : List X) (log : List (ℕ × E)) → All (λ x. made x ≡ count_own (seat x).1 (seat x).0) xs → All (λ x. Agrees (seat x).0 (seat x).1 log) xs
      → AllPairs (λ x y. (seat x).0 ≢ (seat y).0) xs → All (λ x. p x.1 ≡ true → Contains (map (λ x. (seat x).0) xs) x.0) log → sum_by made xs ≡ count_all log
  all_counted made seat xs log own agreed apart each =
      counts_owned made seat xs log own agreed ∙ owned_whole (map (λ x. (seat x).0) xs) (pairs_in_map (λ x. (seat x).0) (λ i j. i ≢ j) xs apart) log each

  -- a seat counts no more of its own than the log has
  pub own_few : (k : ℕ) (seen log : List (ℕ × E)) → Agrees k seen log → count_own seen k ≤ count_all log
  own_few k seen log agreed =
      let one : sum_by (count_own log) (k ∷ []) ≤ count_all log = owned_few (k ∷ []) (AllPairs-cons (λ i j. i ≢ j) k [] (All-nil (λ j. k ≢ j)) (pairs_none (λ i j. i ≢ j))) log in
      let shown : count_own log k ≡ count_own seen k = own_shown k seen log agreed in
      omega (arith, one, sum_by-cons (count_own log) k [], shown)

  -- seats with different numbers that count as many as the log has added each of them
  pub each_owned : {X : Type 0} (made : X → ℕ) (seat : X → ℕ × List (ℕ × E)) (xs : List X) (log : List (ℕ × E)) → All (λ x. made x ≡ count_own (seat x).1 (seat x).0) xs → All (λ x. Agrees (seat x).0 (seat x).1 log) xs
      → AllPairs (λ x y. (seat x).0 ≢ (seat y).0) xs → sum_by made xs ≡ count_all log
      → (k number : ℕ) (e : E) → slice_get log k ≡ Some (number, e) → p e ≡ true → Contains (map (λ x. (seat x).0) xs) number
  each_owned made seat xs log own agreed apart whole k number e at passes =
      let ks : List ℕ = map (λ x. (seat x).0) xs in
      all_at (λ x. p x.1 ≡ true → Contains ks x.0) log (number, e) k
      (owned_all ks (pairs_in_map (λ x. (seat x).0) (λ i j. i ≢ j) xs apart) log (sym (counts_owned made seat xs log own agreed) ∙ whole)) at passes
