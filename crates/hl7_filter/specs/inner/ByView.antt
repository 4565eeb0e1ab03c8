-- The laws of `==` of values that are compared by what they say.
use Rattle.std.specs.Prelude.{◌≡◌, refl, Bool}
use Rattle.std.proofs.Common.{sym, ◌∙◌}
use Rattle.std.specs.Bool.{Decides}
use Rattle.std.specs.Cmp.{IsPartialEquivalence, IsEquivalence, both_ways, equiv}

-- a test that decides whether two values say the same meets the laws
pub by_view_laws : {A V : Type 0} (view : A → V) (same : A → A → Bool)
    → ((x y : A) → Decides (same x y) (view x ≡ view y)) → IsPartialEquivalence same
by_view_laws view same d = record {
  symm = λ x y. both_ways (same x y) (same y x) (λ h. (d y x).1 (sym ((d x y).0 h))) (λ h. (d x y).1 (sym ((d y x).0 h)));
  trans = λ x y z h i. (d x z).1 ((d x y).0 h ∙ (d y z).0 i);
}

pub by_view_equiv : {A V : Type 0} (view : A → V) (same : A → A → Bool) → ((x y : A) → Decides (same x y) (view x ≡ view y)) → IsEquivalence same
by_view_equiv view same d = equiv (by_view_laws view same d) (λ x. (d x x).1 refl)
