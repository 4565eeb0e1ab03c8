-- Numbers pass the test of increasing where they increase, and only there.
use Rattle.std.proofs.Common.{◌≡◌, ℕ, zero, suc, ◌+◌, ◌<◌, ◌≤◌, Bool, true, List, [], ◌∷◌, length, refl, sym, subst, ◌∙◌, arith}
use Rattle.std.specs.Prelude.{slice_index}
use Rattle.std.specs.Bool.{Decides}
use Rattle.std.specs.List.Sorted.{IsStrictlyIncreasing}
use Rattle.std.proofs.lemmas.Bool.{and_from, and_parts, le-leb, leb-true}
use Rattle.opening_records.specs.inner.Decoding.{climb_from}

climb-rises : (low : ℕ) (ns : List ℕ) → climb_from low ns ≡ true → IsStrictlyIncreasing ns
climb-rises low [] e k inside = absurd (omega arith)
climb-rises low (n ∷ []) e k inside = absurd (omega arith)
climb-rises low (n ∷ (m ∷ ns)) e zero inside =
    let p = and_parts _ _ e in
    let q = and_parts _ _ p.1 in
    let le = leb-true (n + 1) m q.0 in
    omega arith
climb-rises low (n ∷ (m ∷ ns)) e (suc k) inside =
    let p = and_parts _ _ e in
    let next : suc (k + 1) ≡ suc k + 1 = omega arith in
    subst (λ j. slice_index (m ∷ ns) k < slice_index (n ∷ (m ∷ ns)) j) next (climb-rises (n + 1) (m ∷ ns) p.1 k (omega arith))

climb-after : (n : ℕ) (ns : List ℕ) → IsStrictlyIncreasing (n ∷ ns) → climb_from (n + 1) ns ≡ true
climb-after n [] rise = refl
climb-after n (m ∷ ns) rise =
    let first : n < m = rise 0 (omega arith) in
    and_from _ _ (le-leb (n + 1) m (omega arith)) (climb-after m ns (λ k inside.
    let next : suc k + 1 ≡ suc (k + 1) = omega arith in
    subst (λ j. slice_index (m ∷ ns) k < slice_index (n ∷ (m ∷ ns)) j) next (rise (suc k) (omega arith))))

rises-climb : (ns : List ℕ) → IsStrictlyIncreasing ns → climb_from 0 ns ≡ true
rises-climb [] rise = refl
rises-climb (n ∷ ns) rise = and_from _ _ (le-leb 0 n (omega arith)) (climb-after n ns rise)

pub climb_decides : (ns : List ℕ) (b : Bool) → b ≡ climb_from 0 ns → Decides b (IsStrictlyIncreasing ns)
climb_decides ns b is = (λ yes. climb-rises 0 ns (sym is ∙ yes), λ rise. is ∙ rises-climb ns rise)
