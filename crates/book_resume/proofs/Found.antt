-- The arrival of a message among those that are remembered.
use Rattle.std.proofs.Common.{◌≡◌, ◌≢◌, ℕ, ◌+◌, ◌<◌, ◌≤◌, true, false, ◌==◌, List, [], ◌∷◌, length, get_or, take, Option, None, Some, refl, ◌∙◌, ap, arith, suc, zero}
use Rattle.std.specs.Prelude.{find}
use Rattle.std.specs.List.{cons_option, filter_map}
use Rattle.std.specs.Option.{option_map_or}
use Rattle.std.proofs.lemmas.Bool.Decides.{nat_tests}
use Rattle.event_log.specs.declared.entry.Told.{Told}
use Rattle.event_log.specs.declared.entry.Told.TheVariants as told
use Rattle.event_log.specs.History.{Remembered, is_numbered, number_told}
use Rattle.event_log.specs.inner.History.{number_of}
use Rattle.event_log.proofs.MemoryNumbers.{Climbing}
use Rattle.event_log.proofs.Recalling.{is_of}

numbered-by : (n : ℕ) (t : Told) → is_numbered n t ≡ option_map_or (λ k. k == n) (number_told t) false
numbered-by n (told.Accepted k) = refl
numbered-by n told.Filtered = refl
numbered-by n (told.Refused cause) = refl
numbered-by n (told.Repeat place) = refl

-- an arrival without a number is that of no message
pub unnumbered : (n : ℕ) (r : Remembered) → number_of r ≡ None → is_of n r ≡ false
unnumbered n r none = numbered-by n r.told ∙ ap (λ o. option_map_or (λ k. k == n) o false) none

-- one with a number is that of no other message
pub numbered-else : (n k : ℕ) (r : Remembered) → number_of r ≡ Some k → n ≢ k → is_of n r ≡ false
numbered-else n k r is apart =
    let other : (k == n) ≡ false = grind (arith, nat_tests) in
    numbered-by n r.told ∙ (ap (λ o. option_map_or (λ k. k == n) o false) is ∙ other)

-- but of its own
pub numbered-own : (k : ℕ) (r : Remembered) → number_of r ≡ Some k → is_of k r ≡ true
numbered-own k r is =
    let own : (k == k) ≡ true = grind (arith, nat_tests) in
    numbered-by k r.told ∙ (ap (λ o. option_map_or (λ j. j == k) o false) is ∙ own)

-- no message has a number below those that are remembered
pub none-lower : (n low high : ℕ) (rs : List Remembered) → n < low → Climbing low high (filter_map number_of rs) → find (is_of n) rs ≡ None
none-lower n low high [] less climb = refl
none-lower n low high (r ∷ rs) less climb = by (number_of r) refl climb (λ from below c. none-lower n from high rs below c)
  where
    by : (o : Option ℕ) → number_of r ≡ o → Climbing low high (cons_option o (filter_map number_of rs))
        → ((from : ℕ) → n < from → Climbing from high (filter_map number_of rs) → find (is_of n) rs ≡ None) → find (is_of n) (r ∷ rs) ≡ None
    by None is climb rest = rw (unnumbered n r is) (rest low less climb)
    by (Some k) is climb rest = let first = climb.0 in rw (numbered-else n k r is (λ e. absurd (omega arith))) (rest (k + 1) (omega arith) climb.2)

-- where the numbers rise, an arrival with a number is the one that is found by it
pub found-at : (low high n : ℕ) (rs : List Remembered) (k : ℕ) (r : Remembered) → Climbing low high (filter_map number_of rs)
    → k < length rs → get_or rs k r ≡ r → number_of r ≡ Some n → (low ≤ n) × (n < high) × (find (is_of n) rs ≡ Some r)
found-at low high n [] k r climb inside is own = absurd (omega arith)
found-at low high n (x ∷ rs) zero r climb inside is own =
    let its : number_of x ≡ Some n = ap number_of is ∙ own in
    let at = numbered-own n x its in
    by (number_of x) its climb (rw at (ap (λ y. Some y) is))
  where
    by : (o : Option ℕ) → o ≡ Some n → Climbing low high (cons_option o (filter_map number_of rs)) → find (is_of n) (x ∷ rs) ≡ Some r
        → (low ≤ n) × (n < high) × (find (is_of n) (x ∷ rs) ≡ Some r)
    by None none climb found = absurd cc
    by (Some m) same climb found = let equal : m ≡ n = cc in let from = climb.0 in let below = climb.1 in (omega arith, omega arith, found)
found-at low high n (x ∷ rs) (suc k) r climb inside is own = by (number_of x) refl climb (λ from c. found-at from high n rs k r c (omega arith) is own)
  where
    by : (o : Option ℕ) → number_of x ≡ o → Climbing low high (cons_option o (filter_map number_of rs))
        → ((from : ℕ) → Climbing from high (filter_map number_of rs) → (from ≤ n) × (n < high) × (find (is_of n) rs ≡ Some r))
        → (low ≤ n) × (n < high) × (find (is_of n) (x ∷ rs) ≡ Some r)
    by None none climb rest = let later = rest low climb in (later.0, later.1, rw (unnumbered n x none) later.2)
    by (Some m) its climb rest =
        let first = climb.0 in
        let later = rest (m + 1) climb.2 in
        let past = later.0 in
        (omega arith, later.1, rw (numbered-else n m x its (λ e. absurd (omega arith))) later.2)

-- the numbers before one that is remembered are below it
pub before-lower : (low high n : ℕ) (rs : List Remembered) (k : ℕ) (r : Remembered) → Climbing low high (filter_map number_of rs)
    → k < length rs → get_or rs k r ≡ r → number_of r ≡ Some n → Climbing low n (filter_map number_of (take k rs))
before-lower low high n [] k r climb inside is own = absurd (omega arith)
before-lower low high n (x ∷ rs) zero r climb inside is own = tt
before-lower low high n (x ∷ rs) (suc k) r climb inside is own =
    by (number_of x) climb (λ from c. before-lower from high n rs k r c (omega arith) is own) (λ from c. (found-at from high n rs k r c (omega arith) is own).0)
  where
    by : (o : Option ℕ) → Climbing low high (cons_option o (filter_map number_of rs))
        → ((from : ℕ) → Climbing from high (filter_map number_of rs) → Climbing from n (filter_map number_of (take k rs)))
        → ((from : ℕ) → Climbing from high (filter_map number_of rs) → from ≤ n)
        → Climbing low n (cons_option o (filter_map number_of (take k rs)))
    by None climb rest past = rest low climb
    by (Some m) climb rest past = let less = past (m + 1) climb.2 in (climb.0, omega arith, rest (m + 1) climb.2)
