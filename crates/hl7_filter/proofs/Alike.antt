-- Lists that are compared side by side.
use Rattle.std.proofs.Common.{◌≡◌, ℕ, ◌≤◌, List, [], ◌∷◌, Bool, true, false, length, drop, ◌==◌, refl, sym, ◌∙◌}
use Rattle.std.specs.Bool.{Decides}
use Rattle.std.proofs.lemmas.List.{drop_all}
use Rattle.std.proofs.Math.Dec.{eqb-suc-zero}
use Rattle.hl7_filter.specs.inner.View.{conditions_view}
use Rattle.hl7_filter.specs.declared.condition.Cond.{Cond}

-- at the end of the first, they are the same exactly where nothing is left of the second
pub alike_at_end : (cs os rest : List Cond) (i : ℕ) (r : Bool) → length cs ≤ i
    → (conditions_view cs ≡ conditions_view os → conditions_view (drop i cs) ≡ conditions_view rest)
    → (conditions_view (drop i cs) ≡ conditions_view rest → conditions_view cs ≡ conditions_view os)
    → r ≡ (length rest == 0) → Decides r (conditions_view cs ≡ conditions_view os)
alike_at_end cs os [] i r past onward back is = (λ _. back (rw (drop_all i cs past) refl), λ _. is)
alike_at_end cs os (c ∷ rest) i r past onward back is =
    let none : conditions_view (drop i cs) ≡ conditions_view [] = rw (drop_all i cs past) refl in (
      λ ended. let bad : false ≡ true = sym (eqb-suc-zero (length rest)) ∙ (sym is ∙ ended) in cc,
      λ same. let bad : conditions_view [] ≡ conditions_view (c ∷ rest) = sym none ∙ onward same in cc,
    )
