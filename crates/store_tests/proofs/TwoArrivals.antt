-- The indices of two arrivals increase where the first has the lower one.
use Rattle.std.proofs.Common.{◌≡◌, ◌<◌, ◌++◌, List, [], ◌∷◌, map, sym, ◌∙◌, ap, subst, arith, suc, zero}
use Rattle.std.specs.List.Sorted.{IsStrictlyIncreasing}
use Rattle.event_log.specs.History.{Remembered}

pub rising_two : (a b : Remembered) (none one two : List Remembered) → none ≡ [] → one ≡ none ++ a ∷ [] → two ≡ one ++ b ∷ []
    → a.place < b.place → IsStrictlyIncreasing (map (λ r. r.place) two)
rising_two a b none one two empty first second less =
    let are : two ≡ a ∷ b ∷ [] = second ∙ ap (λ (rs : List Remembered). rs ++ b ∷ []) (first ∙ ap (λ (rs : List Remembered). rs ++ a ∷ []) empty) in
    subst (λ (rs : List Remembered). IsStrictlyIncreasing (map (λ r. r.place) rs)) (sym are) by
  where
    by : IsStrictlyIncreasing (a.place ∷ b.place ∷ [])
    by zero inside = less
    by (suc k) inside = absurd (omega arith)
