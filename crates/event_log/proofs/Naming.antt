-- Two lists of channels, compared place by place.
use Rattle.std.proofs.Common.{◌≡◌, ℕ, ◌+◌, ◌<◌, ◌≤◌, true, false, ◌&&◌, List, [], ◌∷◌, length, drop, refl, sym, ◌∙◌, ap, arith, add-one, suc, zero}
use Rattle.std.specs.Prelude.{slice_get}
use Rattle.std.specs.Cmp.Lexicographic.{pointwise}
use Rattle.plan_text.specs.Entries.{ChannelEntry}
use Rattle.event_log.specs.Deployment.{same_name}
use Rattle.event_log.specs.inner.Deployment.{same_at}

-- what is left of them is alike where the next are, and the rest
next-alike : (xs ys : List ChannelEntry) (i : ℕ) → length xs ≡ length ys → i < length xs
    → pointwise same_name (drop i xs) (drop i ys) ≡ (same_at (slice_get xs i) (slice_get ys i) && pointwise same_name (drop (suc i) xs) (drop (suc i) ys))
next-alike [] ys i many inside = absurd (omega arith)
next-alike (x ∷ xs) [] i many inside = absurd cc
next-alike (x ∷ xs) (y ∷ ys) zero many inside = refl
next-alike (x ∷ xs) (y ∷ ys) (suc i) many inside = next-alike xs ys i (omega arith) (omega arith)

-- so they go on alike where the next are
pub rest-alike : (xs ys : List ChannelEntry) (i : ℕ) → length xs ≡ length ys → i < length xs → same_at (slice_get xs i) (slice_get ys i) ≡ true
    → pointwise same_name (drop (i + 1) xs) (drop (i + 1) ys) ≡ pointwise same_name (drop i xs) (drop i ys)
rest-alike xs ys i many inside is = ap (λ k. pointwise same_name (drop k xs) (drop k ys)) (add-one i) ∙ sym (next-alike xs ys i many inside ∙ ap (λ b. b && pointwise same_name (drop (suc i) xs) (drop (suc i) ys)) is)

-- and not where the next are not
pub not-alike : (xs ys : List ChannelEntry) (i : ℕ) → length xs ≡ length ys → i < length xs → same_at (slice_get xs i) (slice_get ys i) ≡ false → pointwise same_name (drop i xs) (drop i ys) ≡ false
not-alike xs ys i many inside is = next-alike xs ys i many inside ∙ ap (λ b. b && pointwise same_name (drop (suc i) xs) (drop (suc i) ys)) is

-- nothing is left past their end
past-end : (xs : List ChannelEntry) (i : ℕ) → length xs ≤ i → drop i xs ≡ []
past-end [] zero past = refl
past-end [] (suc i) past = refl
past-end (x ∷ xs) zero past = absurd (omega arith)
past-end (x ∷ xs) (suc i) past = past-end xs i (omega arith)

pub none-left : (xs ys : List ChannelEntry) (i : ℕ) → length xs ≡ length ys → length xs ≤ i → pointwise same_name (drop i xs) (drop i ys) ≡ true
none-left xs ys i many past =
    ap (λ l. pointwise same_name l (drop i ys)) (past-end xs i past) ∙ ap (λ l. pointwise same_name [] l) (past-end ys i (omega arith))
