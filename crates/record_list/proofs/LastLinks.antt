-- The links of a new last node are written one by one.
use Rattle.std.proofs.Common.{◌≡◌, ◌≢◌, ◌≤◌, ◌<◌, ◌+◌, ◌==◌, ℕ, Bool, true, false, List, slice_index_or, slice_set, refl, sym, ap, ◌∙◌, subst, arith, ◌/◌, ◌^◌, ◌-◌}
use lib.Pow.{shr-shr}
use Rattle.std.proofs.Math.Nat.{zero-div}
use Rattle.std.proofs.lemmas.List.{get_or-set_other}
use Rattle.std.specs.declared.option.Option.{Option}
use Rattle.std.specs.declared.option.Option.TheVariants.{None, Some}
use Rattle.record_list.specs.declared.row_head.Place.{Place}
use Rattle.record_list.specs.declared.row_head.Link.{Link}
use Rattle.record_list.specs.inner.Chain.{link}
use Rattle.std.specs.Option.{is_some}
use Rattle.record_list.specs.inner.Stands.{stands, new_link}
use Rattle.record_list.proofs.Change.{set_some}
use Rattle.record_list.proofs.Entering.{differ, same}

-- the links of a node that stands alone in each chain, and below d what they become
module _ (mask : ℕ) (tails : List (Option Place)) where
  abbrev pub Written : ℕ → List (Option Link) → Type 0
  Written d ls = ((e : ℕ) → e < d → slice_index_or ls e None ≡ new_link (stands e mask) (slice_index_or tails e None)) × ((e : ℕ) → d ≤ e → e < 32 → slice_index_or ls e None ≡ new_link (stands e mask) None)

  below : (e d : ℕ) → e < d + 1 → e ≢ d → e < d
  below e d lt ne = omega (arith, lt, ne)

  above : (e d : ℕ) → d + 1 ≤ e → e ≢ d
  above e d le p = omega (arith, le, p)

  alone_at : (d : ℕ) (ls : List (Option Link)) → Written d ls → d < 32 → (y : Bool) → stands d mask ≡ y → slice_index_or ls d None ≡ new_link y None
  alone_at d ls w lt y is = w.1 d (omega arith) lt ∙ ap (λ b. new_link b None) is

  pub links_stand : (d : ℕ) (ls : List (Option Link)) → Written d ls → d < 32 → stands d mask ≡ true → is_some (slice_index_or ls d None) ≡ true
  links_stand d ls w lt y = ap is_some (alone_at d ls w lt true y)

  pub links_set : (d : ℕ) (ls ks : List (Option Link)) → Written d ls → d < 32 → stands d mask ≡ true → ks ≡ slice_set ls d (Some (link (slice_index_or tails d None) None)) → Written (d + 1) ks
  links_set d ls ks w lt y is = (
    λ e le. (elim (e == d) as (λ b. (e == d) ≡ b → slice_index_or ks e None ≡ new_link (stands e mask) (slice_index_or tails e None)) [
      | true ↦ λ q. subst (λ k. slice_index_or ks k None ≡ new_link (stands k mask) (slice_index_or tails k None)) (sym (same e d q))
          (ap (λ l. slice_index_or l d None) is ∙ set_some ls d (link None None) (Some (link (slice_index_or tails d None) None)) (alone_at d ls w lt true y) ∙ sym (ap (λ b. new_link b (slice_index_or tails d None)) y))
      | false ↦ λ q. ap (λ l. slice_index_or l e None) is ∙ get_or-set_other ls d e (Some (link (slice_index_or tails d None) None)) None (differ e d q) ∙ w.0 e (below e d le (differ e d q))
    ]) refl,
    λ e le more. ap (λ l. slice_index_or l e None) is ∙ get_or-set_other ls d e (Some (link (slice_index_or tails d None) None)) None (above e d le) ∙ w.1 e (omega (arith, le)) more,
  )

  pub links_skip : (d : ℕ) (ls ks : List (Option Link)) → Written d ls → d < 32 → stands d mask ≡ false → ks ≡ ls → Written (d + 1) ks
  links_skip d ls ks w lt y is = (
    λ e le. (elim (e == d) as (λ b. (e == d) ≡ b → slice_index_or ks e None ≡ new_link (stands e mask) (slice_index_or tails e None)) [
      | true ↦ λ q. subst (λ k. slice_index_or ks k None ≡ new_link (stands k mask) (slice_index_or tails k None)) (sym (same e d q))
          (ap (λ l. slice_index_or l d None) is ∙ alone_at d ls w lt false y ∙ sym (ap (λ b. new_link b (slice_index_or tails d None)) y))
      | false ↦ λ q. ap (λ l. slice_index_or l e None) is ∙ w.0 e (below e d le (differ e d q))
    ]) refl,
    λ e le more. ap (λ l. slice_index_or l e None) is ∙ w.1 e (omega (arith, le)) more,
  )

pub is_new : (b : Bool) (t : Option Place) → is_some (new_link b t) ≡ b
is_new true t = refl
is_new false t = refl

-- a mask with no bit from d on
pub none_above : (mask d e : ℕ) → mask / 2 ^ d ≡ 0 → d ≤ e → stands e mask ≡ false
none_above mask d e none le =
    let place : d + (e - d) ≡ e = omega arith in
    let less : mask / 2 ^ d / 2 ^ (e - d) ≡ mask / 2 ^ (d + (e - d)) = shr-shr mask d (e - d) in
    let gone : mask / 2 ^ e ≡ 0 = ap (λ k. mask / 2 ^ k) (sym place) ∙ sym less ∙ ap (λ n. n / 2 ^ (e - d)) none ∙ zero-div (2 ^ (e - d)) in
    rw gone refl
