-- Sums over numbers that are lowered, and the most of a list.
use Rattle.std.proofs.Common.{◌≡◌, ℕ, ◌+◌, ◌-◌, ◌<◌, ◌≤◌, Bool, true, cond, List, [], ◌∷◌, refl, sym, ◌∙◌, ap, arith, suc, zero}
use Rattle.std.specs.Prelude.{count_by, max, sum_by}
use Rattle.std.specs.List.{AllByRecursion, fold, range_with_len}
use Rattle.std.proofs.lemmas.List.Sums.{sum_by-append, sum_by-cons}
use Rattle.event_log.proofs.FoldedAlike.{range-split}
use Rattle.event_log.proofs.OneMore.{count-range}
use Rattle.event_log.proofs.Totals.{sum-alike}

pub sum-zeros : (ns : List ℕ) → sum_by (λ n. 0) ns ≡ 0
sum-zeros [] = refl
sum-zeros (n ∷ ns) = let rest = sum-zeros ns in omega (arith, sum_by-cons (λ (n : ℕ). 0) n ns)

-- a sum over the same numbers, each less
pub sum-shift : (f : ℕ → ℕ) (by a k : ℕ) → sum_by (λ n. f (n + by)) (range_with_len a k) ≡ sum_by f (range_with_len (a + by) k)
sum-shift f by a zero = refl
sum-shift f by a (suc k) =
    let next : a + 1 + by ≡ a + by + 1 = omega arith in
    let rest : sum_by (λ n. f (n + by)) (range_with_len (a + 1) k) ≡ sum_by f (range_with_len (a + by + 1) k)
    = sum-shift f by (a + 1) k ∙ ap (λ b. sum_by f (range_with_len b k)) next in
    omega (arith, sum_by-cons (λ n. f (n + by)) a (range_with_len (a + 1) k), sum_by-cons f (a + by) (range_with_len (a + by + 1) k))

-- a sum over all numbers is that over those below a bound, and over the others, each less by the bound
sum-parts : (f : ℕ → ℕ) (by k : ℕ) → sum_by f (range_with_len 0 (by + k)) ≡ sum_by f (range_with_len 0 by) + sum_by (λ n. f (n + by)) (range_with_len 0 k)
sum-parts f by k =
    ap (sum_by f) (range-split 0 by k)
    ∙ (sum_by-append f (range_with_len 0 by) (range_with_len (0 + by) k) ∙ ap (λ s. sum_by f (range_with_len 0 by) + s) (sym (sum-shift f by 0 k)))

-- where there is nothing below the bound, the others are all
pub sum-lower : (f g : ℕ → ℕ) (by high : ℕ) → by ≤ high → ((n : ℕ) → n < by → f n ≡ 0) → ((n : ℕ) → g n ≡ f (n + by))
    → sum_by g (range_with_len 0 ((high - by) + 0)) ≡ sum_by f (range_with_len 0 (high + 0))
sum-lower f g by high less none same =
    let whole : high + 0 ≡ by + ((high - by) + 0) = omega arith in
    let lower : sum_by f (range_with_len 0 by) ≡ 0 = sum-alike (λ n. 0) f 0 by (λ n low below. none n (omega arith)) ∙ sum-zeros (range_with_len 0 by) in
    let upper : sum_by g (range_with_len 0 ((high - by) + 0)) ≡ sum_by (λ n. f (n + by)) (range_with_len 0 ((high - by) + 0))
    = sum-alike (λ n. f (n + by)) g 0 ((high - by) + 0) (λ n low below. same n) in
    let all : sum_by f (range_with_len 0 (high + 0)) ≡ sum_by f (range_with_len 0 (by + ((high - by) + 0))) = ap (λ k. sum_by f (range_with_len 0 k)) whole in
    omega (arith, sum-parts f by ((high - by) + 0))

pub all-count : (a k : ℕ) → count_by (λ n. true) (range_with_len a k) ≡ k
all-count a zero = refl
all-count a (suc k) = let rest = all-count (a + 1) k in omega (arith, sum_by-cons (λ (n : ℕ). cond true 1 0) a (range_with_len (a + 1) k))

-- where all below the bound count, the others are as many less
pub count-lower : (p q : ℕ → Bool) (by high : ℕ) → by ≤ high → ((n : ℕ) → n < by → p n ≡ true) → ((n : ℕ) → q n ≡ p (n + by))
    → count_by p (range_with_len 0 (high + 0)) ≡ by + count_by q (range_with_len 0 ((high - by) + 0))
count-lower p q by high less each same =
    let whole : high + 0 ≡ by + ((high - by) + 0) = omega arith in
    let lower : count_by p (range_with_len 0 by) ≡ by = count-range p (λ n. true) 0 by (λ n low below. each n (omega arith)) ∙ all-count 0 by in
    let upper : count_by q (range_with_len 0 ((high - by) + 0)) ≡ count_by (λ n. p (n + by)) (range_with_len 0 ((high - by) + 0))
    = count-range q (λ n. p (n + by)) 0 ((high - by) + 0) (λ n low below. same n) in
    let all : count_by p (range_with_len 0 (high + 0)) ≡ count_by p (range_with_len 0 (by + ((high - by) + 0))) = ap (λ k. count_by p (range_with_len 0 k)) whole in
    omega (arith, sum-parts (λ n. cond (p n) 1 0) by ((high - by) + 0))

-- ---- the most of a list

module _ {A : Type 0} (f : A → ℕ) where
  most-grows : (a : ℕ) (xs : List A) → a ≤ fold (λ most x. max most (f x)) a xs
  most-grows a [] = omega arith
  most-grows a (x ∷ xs) = let rest = most-grows (max a (f x)) xs in omega arith

  -- none is more
  pub all-most : (a : ℕ) (xs : List A) → AllByRecursion (λ x. f x ≤ fold (λ most x. max most (f x)) a xs) xs
  all-most a [] = tt
  all-most a (x ∷ xs) = let rest = most-grows (max a (f x)) xs in (omega arith, all-most (max a (f x)) xs)

  -- and it is no more than a bound of all
  pub most-least : (a b : ℕ) (xs : List A) → a ≤ b → AllByRecursion (λ x. f x ≤ b) xs → fold (λ most x. max most (f x)) a xs ≤ b
  most-least a b [] less all = less
  most-least a b (x ∷ xs) less all = let here = all.0 in most-least (max a (f x)) b xs (omega arith) all.1
