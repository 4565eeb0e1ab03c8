-- Lookup tables that are compared.
use Rattle.std.proofs.Common.{◌≡◌, ℕ, List, Bool, true, false, ◌&&◌, Option, None, Some, refl, sym, ap, ◌∙◌}
use Rattle.std.specs.Bool.{Decides}
use Rattle.std.specs.Cmp.Derive.Mapped.{pointwise-map}
use Rattle.std.specs.Cmp.Lexicographic.{pointwise}
use Rattle.std.specs.Option.{option_eq}
use Rattle.std.specs.Str.{bytes_eq}
use Rattle.std.proofs.lemmas.Slice.Eq.{bytes_eq-Decides, slice_eq-Decides}
use Rattle.hl7_transform.specs.inner.Same.{same_pair, same_pair-Decides}
use Rattle.hl7_transform.specs.inner.View.{table_view}
use Rattle.hl7_transform.specs.declared.step.Pair.{Pair}

-- what compares the pairs compares what the tables say
pub tables_alike : (ts us : List Pair) (r : Bool) → r ≡ pointwise (λ (p q : Pair). bytes_eq p.from q.from && bytes_eq p.to q.to) ts us → Decides r (table_view ts ≡ table_view us)
tables_alike ts us r is =
    slice_eq-Decides same_pair-Decides (table_view ts) (table_view us) r (is ∙ sym (pointwise-map (λ (p : Pair). (p.from, p.to)) same_pair ts us))

inside : (x y : List ℕ) (r : Bool) → Decides r (x ≡ y) → Decides r (Some x ≡ Some y)
inside x y r d = (λ h. ap Some (d.0 h), λ e. d.1 cc)

-- what compares the texts of defaults compares the defaults
pub defaults_alike : (x y : Option (List ℕ)) → Decides (option_eq bytes_eq x y) (x ≡ y)
defaults_alike None None = (λ _. refl, λ _. refl)
defaults_alike (Some x) (Some y) = inside x y (bytes_eq x y) (bytes_eq-Decides x y)
defaults_alike None (Some y) = (λ h. let bad : false ≡ true = h in cc, λ e. cc)
defaults_alike (Some x) None = (λ h. let bad : false ≡ true = h in cc, λ e. cc)
