-- The chains below d have their new last node.
use Rattle.std.proofs.Common.{◌≡◌, ◌≢◌, ◌≤◌, ◌<◌, ◌+◌, ◌==◌, ℕ, true, false, refl, sym, ap, ◌∙◌, subst, arith, eqb→eq, T}
use lib.Dec.{eqb_refl}
use Rattle.record_list.proofs.Chains.{keys}
use Rattle.record_list.specs.declared.links.Links.{Links}
use Rattle.record_list.specs.inner.Chain.{members, items_at}
use Rattle.record_list.specs.inner.Linked.{IsLinked, IsSameChain}
use Rattle.record_list.specs.inner.Stands.{NodesRise}
use Rattle.record_list.proofs.Rising.{rise_like}
use Rattle.record_list.proofs.Leave.{same_then}
use Rattle.record_list.proofs.Enter.{same_linked}

pub differ : (e d : ℕ) → (e == d) ≡ false → e ≢ d
differ e d f p = absurd (subst T (ap (λ k. e == k) p ∙ f) (eqb_refl e))

pub same : (e d : ℕ) → (e == d) ≡ true → e ≡ d
same e d f = eqb→eq e d (subst T (sym f) tt)

module _ {T : Type 0} where
  pub record Entered (d : ℕ) (s t : Links T) : Type 0 where
    pub rise : NodesRise t.nodes.items
    pub linked : (e : ℕ) → e < d → IsLinked e t
    pub rest : (e : ℕ) → d ≤ e → IsSameChain e s t
    pub members_same : (e : ℕ) → members e t.nodes.items ≡ members e s.nodes.items
    pub items_same : items_at t.nodes.items ≡ items_at s.nodes.items
    pub visits_most : t.visits ≤ s.visits + d
    pub visits_least : s.visits ≤ t.visits

  pub step_entered : (d : ℕ) (s m t : Links T) → Entered d s m → IsLinked d t → members d t.nodes.items ≡ members d m.nodes.items → ((e : ℕ) → e ≢ d → IsSameChain e m t) → items_at t.nodes.items ≡ items_at m.nodes.items
      → t.visits ≤ m.visits + 1 → m.visits ≤ t.visits → Entered (d + 1) s t
  step_entered d s m t a l ms others items visits rises = record {
    rise = rise_like m.nodes.items t.nodes.items items a.rise;
    linked = λ e lt. (elim (e == d) as (λ b. (e == d) ≡ b → IsLinked e t) [
      | true ↦ λ q. subst (λ k. IsLinked k t) (sym (same e d q)) l
      | false ↦ λ q. same_linked e m t (others e (differ e d q)) (a.linked e (below e d lt (differ e d q)))
    ]) refl;
    rest = λ e le. same_then e s m t (a.rest e (omega (arith, le))) (others e (above e d le));
    members_same = λ e. (elim (e == d) as (λ b. (e == d) ≡ b → members e t.nodes.items ≡ members e s.nodes.items) [
      | true ↦ λ q. subst (λ k. members k t.nodes.items ≡ members k m.nodes.items) (sym (same e d q)) ms ∙ a.members_same e
      | false ↦ λ q. ap keys (others e (differ e d q)).entries_same ∙ a.members_same e
    ]) refl;
    items_same = items ∙ a.items_same;
    visits_most = omega (arith, visits, a.visits_most);
    visits_least = omega (arith, rises, a.visits_least);
  }
    where
      below : (e d : ℕ) → e < d + 1 → e ≢ d → e < d
      below e d lt ne = omega (arith, lt, ne)

      above : (e d : ℕ) → d + 1 ≤ e → e ≢ d
      above e d le p = omega (arith, le, p)

  pub skip_entered : (d : ℕ) (s m : Links T) → Entered d s m → IsLinked d s → Entered (d + 1) s m
  skip_entered d s m a l = record {
    rise = a.rise;
    linked = λ e lt. (elim (e == d) as (λ b. (e == d) ≡ b → IsLinked e m) [
      | true ↦ λ q. subst (λ k. IsLinked k m) (sym (same e d q)) (same_linked d s m (a.rest d (omega arith)) l)
      | false ↦ λ q. a.linked e (below e d lt (differ e d q))
    ]) refl;
    rest = λ e le. a.rest e (omega (arith, le));
    members_same = a.members_same;
    items_same = a.items_same;
    visits_most = omega (arith, a.visits_most);
    visits_least = a.visits_least;
  }
    where
      below : (e d : ℕ) → e < d + 1 → e ≢ d → e < d
      below e d lt ne = omega (arith, lt, ne)
