-- Nodes in the order of their numbers: each number has one node, and its place in the list.
use Rattle.std.proofs.Common.{◌≡◌, ◌≢◌, ◌<◌, ◌≤◌, ◌+◌, ◌==◌, Result, Ok, Err, inl, inr, ℕ, zero, suc, Bool, true, false, cond, List, [], ◌∷◌, length, map, slice_index_or, IfSome, IfNone, Option, refl, sym, ap, ◌∙◌, subst, arith}
use Rattle.std.specs.Prelude.{All, remove}
use Rattle.std.specs.List.{HoldsAt}
use Rattle.std.specs.List.Sorted.{IsBinarySearchResult, IsNonDecreasingBy}
use Rattle.std.specs.Ordering.{nat_cmp, ordering_index}
use Rattle.std.specs.Result.{result_ok}
use Rattle.std.specs.declared.cmp.Ordering.TheVariants.{Less, Equal, Greater}
use Rattle.std.proofs.lemmas.Bool.{cases_lt}
use Rattle.std.proofs.lemmas.Bool.Decides.{nat_tests}
use Rattle.std.proofs.lemmas.List.{get_or_default, length-map}
use Rattle.std.proofs.lemmas.List.Kept.{AllPairs-from_increasing}
use Rattle.std.specs.declared.option.Option.TheVariants.{None, Some}
use Rattle.row_store.specs.declared.Row.{Row}
use Rattle.row_store.specs.Rows.{row_numbers}
use Rattle.row_store.specs.inner.Rows.{NumbersRise}
use Rattle.row_store.proofs.Places.{IsMissing, missing-tail, is_row-no, is_row-yes, only_at, rest-missing}
use Rattle.record_list.specs.declared.links.Node.{Node}
use Rattle.record_list.specs.inner.Chain.{row_of, rows_of, items_at}
use Rattle.record_list.specs.inner.Held.{index_in, find_node, drop_node, IsHeld}
use Rattle.record_list.specs.inner.Linked.{IsNotAmong, IsApart, numbers_in}
use Rattle.record_list.specs.inner.Stands.{NodesRise}
use Rattle.record_list.proofs.Numbers.{number_eq}

pub rise-tail : {T : Type 0} (row : Row T) (rows : List (Row T)) → NumbersRise (row ∷ rows) → NumbersRise rows
rise-tail row rows rise = λ k inside.
    let next : suc k + 1 ≡ suc (k + 1) = omega arith in
    rw next at (rise (suc k) (omega arith))

pub others-missing : {T : Type 0} (n : ℕ) (row : Row T) (rows : List (Row T)) → NumbersRise (row ∷ rows) → row.number ≡ n → IsMissing n rows
others-missing n row rows rise named = rest-missing n row rows (only_at n 0 (row ∷ rows) rise (omega arith) (λ d. named))

module _ {T : Type 0} where
  pub rows_of_items : (hs : List (Node T)) → rows_of hs ≡ map (λ (i : Row T × List Bool). i.0) (items_at hs)
  rows_of_items [] = refl
  rows_of_items (h ∷ hs) = ap (λ rs. (row_of h) ∷ rs) (rows_of_items hs)

  -- nodes with the same rows are in the same order
  pub rows_like : (hs ks : List (Node T)) → items_at ks ≡ items_at hs → rows_of ks ≡ rows_of hs
  rows_like hs ks e = rows_of_items ks ∙ ap (map (λ (i : Row T × List Bool). i.0)) e ∙ sym (rows_of_items hs)

  pub rise_like : (hs ks : List (Node T)) → items_at ks ≡ items_at hs → NodesRise hs → NodesRise ks
  rise_like hs ks e = subst NumbersRise (sym (rows_like hs ks e))

  away_missing : (n : ℕ) (hs : List (Node T)) → IsMissing n (rows_of hs) → IsNotAmong n (numbers_in hs)
  away_missing n [] missing = tt
  away_missing n (h ∷ hs) missing = (is_row-no n (row_of h) (missing 0 (row_of h) (omega arith)), away_missing n hs (missing-tail n (row_of h) (rows_of hs) missing))

  -- no number occurs twice
  pub apart_of : (hs : List (Node T)) → NodesRise hs → IsApart (numbers_in hs)
  apart_of [] rise = tt
  apart_of (h ∷ hs) rise = (away_missing h.head.number hs (others-missing h.head.number (row_of h) (rows_of hs) rise refl), apart_of hs (rise-tail (row_of h) (rows_of hs) rise))

  -- the node of a number stands in the list, at that place
  pub index_inside : (n : ℕ) (x : Node T) (hs : List (Node T)) → find_node n hs ≡ Some x → index_in n hs < length hs
  index_inside n x [] found = cc
  index_inside n x (h ∷ hs) found = (elim (h.head.number == n) as (λ b. cond b (Some h) (find_node n hs) ≡ Some x → cond b 0 (suc (index_in n hs)) < suc (length hs)) [
    | true ↦ λ f. omega arith
    | false ↦ λ f. let less = index_inside n x hs f in omega (arith, less)
  ]) found

  pub node_there : (n : ℕ) (x d : Node T) (hs : List (Node T)) → find_node n hs ≡ Some x → slice_index_or hs (index_in n hs) d ≡ x
  node_there n x d [] found = cc
  node_there n x d (h ∷ hs) found = (elim (h.head.number == n) as (λ b. cond b (Some h) (find_node n hs) ≡ Some x → slice_index_or (h ∷ hs) (cond b 0 (suc (index_in n hs))) d ≡ x) [
    | true ↦ λ f. cc
    | false ↦ λ f. node_there n x d hs f
  ]) found

  pub dropped_there : (n : ℕ) (x : Node T) (hs : List (Node T)) → find_node n hs ≡ Some x → remove hs (index_in n hs) ≡ drop_node n hs
  dropped_there n x [] found = cc
  dropped_there n x (h ∷ hs) found = (elim (h.head.number == n) as (λ b. cond b (Some h) (find_node n hs) ≡ Some x → remove (h ∷ hs) (cond b 0 (suc (index_in n hs))) ≡ cond b hs (h ∷ drop_node n hs)) [
    | true ↦ λ f. refl
    | false ↦ λ f. ap (λ l. h ∷ l) (dropped_there n x hs f)
  ]) found

  -- a node with that number is the one of that number
  away_at : (p n i : ℕ) (hs : List (Node T)) → IsNotAmong p (numbers_in hs) → i < length hs → HoldsAt (λ node. node.head.number ≡ n) hs i → (p == n) ≡ false
  away_at p n i [] away inside found = absurd (omega (arith, inside))
  away_at p n zero (h ∷ hs) away inside found =
      let is : h.head.number ≡ n = found h in
      Rattle.record_list.proofs.Numbers.number_symm p n (subst (λ k. (k == p) ≡ false) is away.0)
  away_at p n (suc i) (h ∷ hs) away inside found = away_at p n i hs away.1 (omega (arith, inside)) found

  -- where a node with that number stands
  pub record StandsAt (n i : ℕ) (hs : List (Node T)) : Type 0 where
    pub held : IsHeld n hs
    pub place_is : i ≡ index_in n hs

  pub stands_at : (n i : ℕ) (hs : List (Node T)) → IsApart (numbers_in hs) → i < length hs → HoldsAt (λ node. node.head.number ≡ n) hs i → StandsAt n i hs
  stands_at n i [] apart inside found = absurd (omega (arith, inside))
  stands_at n zero (h ∷ hs) apart inside found =
      let here : (h.head.number == n) ≡ true = is_row-yes n (row_of h) (found h) in
      record { held = (h, rw here refl); place_is = rw here refl }
  stands_at n (suc i) (h ∷ hs) apart inside found =
      let on = stands_at n i hs apart.1 (omega (arith, inside)) found in
      let past : (h.head.number == n) ≡ false = away_at h.head.number n i hs apart.0 (omega (arith, inside)) found in
      record { held = (on.held.0, rw past on.held.1); place_is = rw past (ap (λ k. suc k) on.place_is) }

  -- there is no node of a number that none has
  pub none_found : (n : ℕ) (hs : List (Node T)) → All (λ node. node.head.number ≢ n) hs → find_node n hs ≡ None
  none_found n [] none = refl
  none_found n (h ∷ hs) none = rw (is_row-no n (row_of h) (none 0 h (omega arith))) (none_found n hs (λ k d inside. none (suc k) d (omega arith)))

equal-from : (a n : ℕ) → nat_cmp a n ≡ Equal → a ≡ n
equal-from a n e = grind (arith, nat_tests)

less-from : (a n : ℕ) → nat_cmp a n ≡ Less → a < n
less-from a n e = grind (arith, nat_tests)

greater-from : (a n : ℕ) → nat_cmp a n ≡ Greater → n < a
greater-from a n e = grind (arith, nat_tests)

answers_rise : (a b n : ℕ) → a ≤ b → ordering_index (nat_cmp a n) ≤ ordering_index (nat_cmp b n)
answers_rise a b n le = grind (arith, nat_tests)

module _ {T : Type 0} where
  -- a node further on has a greater number
  rising : (hs : List (Node T)) (d : Node T) (i j : ℕ) → NodesRise hs → i < j → j < length hs → (slice_index_or hs i d).head.number < (slice_index_or hs j d).head.number
  rising hs d i j rise less inside =
      let rises = AllPairs-from_increasing (row_numbers (rows_of hs)) rise i j 0 less (omega (arith, inside, length-map hs row_of, length-map (rows_of hs) (λ (row : Row T). row.number))) in
      omega (arith, rises, number_at hs d i (omega (arith, less, inside)), number_at hs d j inside)
    where
      number_at : (hs : List (Node T)) (d : Node T) (k : ℕ) → k < length hs → slice_index_or (row_numbers (rows_of hs)) k 0 ≡ (slice_index_or hs k d).head.number
      number_at [] d k inside = absurd (omega (arith, inside))
      number_at (h ∷ hs) d zero inside = refl
      number_at (h ∷ hs) d (suc k) inside = number_at hs d k (omega (arith, inside))

  rising-answers : (n : ℕ) (hs : List (Node T)) → NodesRise hs → IsNonDecreasingBy (λ node. ordering_index (nat_cmp node.head.number n)) hs
  rising-answers n hs rise = λ i j d le inside. answers_rise _ _ n (
      elim (cases_lt i j) [
        | inl before ↦ let rises = rising hs d i j rise before inside in omega arith
        | inr same ↦ let at : i ≡ j = omega arith in rw at (omega arith)
      ])

  -- what a binary search by number answers, as an option
  pub searched-found : (n : ℕ) (hs : List (Node T)) (r : Result ℕ ℕ) → IsBinarySearchResult (λ node. nat_cmp node.head.number n) hs r → IfSome (result_ok r) (HoldsAt (λ node. node.head.number ≡ n) hs)
  searched-found n hs (Ok i) found = λ d. equal-from (slice_index_or hs i d).head.number n (found d)
  searched-found n hs (Err i) found = tt

  pub searched-missing : (n : ℕ) (hs : List (Node T)) (r : Result ℕ ℕ) → NodesRise hs → IsBinarySearchResult (λ node. nat_cmp node.head.number n) hs r → IfNone (result_ok r) (All (λ node. node.head.number ≢ n) hs)
  searched-missing n hs (Ok i) rise found = tt
  searched-missing n hs (Err i) rise found =
      let parted = found (rising-answers n hs rise) in
      λ k d within same.
      elim (cases_lt k i) [
        | inl before ↦ let low = less-from (slice_index_or hs k d).head.number n (parted.0 k d (omega arith) before) in omega arith
        | inr after ↦ let high = greater-from (slice_index_or hs k d).head.number n (parted.1 k d after within) in omega arith
      ]

  -- what the answer of a search says of the place
  pub stands_some : (n : ℕ) (r : Option ℕ) (hs : List (Node T)) → NodesRise hs → IfSome r (λ i. i < length hs) → IfSome r (HoldsAt (λ node. node.head.number ≡ n) hs) → IfSome r (λ i. IsHeld n hs × (i ≡ index_in n hs))
  stands_some n None hs rise inside found = tt
  stands_some n (Some i) hs rise inside found = let at = stands_at n i hs (apart_of hs rise) inside found in (at.held, at.place_is)

  pub missing_none : (n : ℕ) (r : Option ℕ) (hs : List (Node T)) → IfNone r (All (λ node. node.head.number ≢ n) hs) → IfNone r (find_node n hs ≡ None)
  missing_none n None hs none = none_found n hs none
  missing_none n (Some i) hs none = tt

  -- a number below that of the first node has no node
  pub before_first : (n : ℕ) (x : Node T) (hs : List (Node T)) → NodesRise hs → x ≡ slice_index_or hs 0 x → (x.head.number ≤ n → ⊥) → find_node n hs ≡ None
  before_first n x [] rise first less = refl
  before_first n x (h ∷ hs) rise first less = elim (cases_lt n x.head.number) [
    | inl under ↦ none_found n (h ∷ hs) (later n h hs rise (subst (λ (y : Node T). n < y.head.number) first under))
    | inr over ↦ absurd (less over)
  ]
    where
      later : (n : ℕ) (h : Node T) (hs : List (Node T)) → NodesRise (h ∷ hs) → n < h.head.number → All (λ node. node.head.number ≢ n) (h ∷ hs)
      later n h hs rise less zero d inside = λ is. omega (arith, is, less)
      later n h hs rise less (suc k) d inside = λ is. let rises = rising (h ∷ hs) d 0 (suc k) rise (omega arith) inside in omega (arith, rises, is, less)

  -- a node that is read at a place, and has that number, is the node of that number
  pub stands_there : (n i : ℕ) (x : Node T) (hs : List (Node T)) → NodesRise hs → i < length hs → x ≡ slice_index_or hs i x → x.head.number ≡ n → IsHeld n hs × (i ≡ index_in n hs)
  stands_there n i x hs rise inside there named =
      let at = stands_at n i hs (apart_of hs rise) inside (λ d. ap (λ (y : Node T). y.head.number) (get_or_default hs i d x inside ∙ sym there) ∙ named) in
      (at.held, at.place_is)

module _ {T : Type 0} where
  -- a number above that of the last node has no node
  pub after_last : (n last : ℕ) (x : Node T) (hs : List (Node T)) → NodesRise hs → last + 1 ≡ length hs → x ≡ slice_index_or hs last x → (n ≤ x.head.number → ⊥) → find_node n hs ≡ None
  after_last n last x hs rise end there more = none_found n hs (λ k d inside is.
      let last_is : (slice_index_or hs last d).head.number ≡ x.head.number = ap (λ (y : Node T). y.head.number) (get_or_default hs last d x (omega (arith, end)) ∙ sym there) in
      elim (cases_lt k last) [
        | inl before ↦ let rises = rising hs d k last rise before (omega (arith, end)) in more (omega (arith, rises, is, last_is))
        | inr same ↦ let at : k ≡ last = omega (arith, same, inside, end) in more (omega (arith, sym is ∙ ap (λ i. (slice_index_or hs i d).head.number) at ∙ last_is))
      ])

-- the place that a search answers
pub index_held : {T : Type 0} (n : ℕ) (r : Option ℕ) (i : ℕ) (hs : List (Node T)) → r ≡ Some i → IfSome r (λ k. IsHeld n hs × (k ≡ index_in n hs)) → IsHeld n hs × (i ≡ index_in n hs)
index_held n r i hs is found = subst (λ o. IfSome o (λ k. IsHeld n hs × (k ≡ index_in n hs))) is found

-- what holds at all events holds where there is no answer
pub where_none : {A P : Type 0} (r : Option A) → P → IfNone r P
where_none None p = p
where_none (Some x) p = tt
