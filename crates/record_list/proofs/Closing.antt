-- The gaps that a node leaves are closed one by one.
use Rattle.std.proofs.Common.{◌≡◌, ◌≢◌, ◌≤◌, ◌<◌, ◌+◌, ◌==◌, ℕ, Bool, true, false, cond, List, [], ◌∷◌, ◌++◌, slice_index_or, refl, sym, ap, ◌∙◌, subst, arith}
use Rattle.std.specs.declared.option.Option.{Option}
use Rattle.std.specs.declared.option.Option.TheVariants.{None, Some}
use Rattle.record_list.specs.inner.Held.{find_node, drop_node}
use Rattle.record_list.proofs.Numbers.{number_eq}
use Rattle.record_list.specs.declared.row_head.Link.{Link}
use Rattle.record_list.specs.declared.links.Node.{Node}
use Rattle.record_list.specs.declared.links.Links.{Links}
use Rattle.record_list.specs.inner.Chain.{place, first_or, last_or, entry_of, entries, members, link_at, items_at}
use Rattle.record_list.specs.inner.Linked.{IsNotAmong, IsApart, numbers_in, head_at, tail_at, IsLinked, IsOpen, IsSameChain}
use Rattle.record_list.proofs.Chains.{away_members}
use Rattle.record_list.specs.inner.Stands.{NodesRise}
use Rattle.record_list.proofs.Rising.{rise_like}
use Rattle.record_list.proofs.Leave.{drop_entry, find_entry, drop_away, cut_chain, first_again, last_again, entry_found, same_then}
use Rattle.record_list.proofs.Enter.{same_linked}
use Rattle.record_list.proofs.Entering.{differ, same}

below : (e d : ℕ) → e < d + 1 → e ≢ d → e < d
below e d lt ne = omega (arith, lt, ne)

above : (e d : ℕ) → d + 1 ≤ e → e ≢ d
above e d le p = omega (arith, le, p)

module _ {T : Type 0} where
  pub same_open : (e : ℕ) (s t : Links T) (o : Option Link) → IsSameChain e s t → IsOpen e s o → IsOpen e t o
  same_open e s t None k l = same_linked e s t k l
  same_open e s t (Some l) k g = record {
    front = g.front;
    back = g.back;
    on = g.on;
    from = g.from;
    linked = k.entries_same ∙ g.linked;
    last = g.last;
    first = g.first;
    head = k.head_same ∙ g.head ∙ ap (λ o. first_or o g.front) (sym k.head_same);
    tail = k.tail_same ∙ g.tail ∙ ap (λ o. last_or o g.back) (sym k.tail_same);
  }

  -- the gaps below d are closed
  pub record Closed (d : ℕ) (s t : Links T) : Type 0 where
    pub rise : NodesRise t.nodes.items
    pub linked : (e : ℕ) → e < d → IsLinked e t
    pub rest : (e : ℕ) → d ≤ e → IsSameChain e s t
    pub items_same : items_at t.nodes.items ≡ items_at s.nodes.items
    pub visits_most : t.visits ≤ s.visits + (d + d)
    pub visits_least : s.visits ≤ t.visits

  pub step_closed : (d : ℕ) (s m t : Links T) → Closed d s m → IsLinked d t → ((e : ℕ) → e ≢ d → IsSameChain e m t) → items_at t.nodes.items ≡ items_at m.nodes.items → t.visits ≤ m.visits + 2 → m.visits ≤ t.visits → Closed (d + 1) s t
  step_closed d s m t a l others items visits rises = record {
    rise = rise_like m.nodes.items t.nodes.items items a.rise;
    linked = λ e lt. (elim (e == d) as (λ b. (e == d) ≡ b → IsLinked e t) [
      | true ↦ λ q. subst (λ k. IsLinked k t) (sym (same e d q)) l
      | false ↦ λ q. same_linked e m t (others e (differ e d q)) (a.linked e (below e d lt (differ e d q)))
    ]) refl;
    rest = λ e le. same_then e s m t (a.rest e (omega (arith, le))) (others e (above e d le));
    items_same = items ∙ a.items_same;
    visits_most = omega (arith, visits, a.visits_most);
    visits_least = omega (arith, rises, a.visits_least);
  }

  pub skip_closed : (d : ℕ) (s m : Links T) → Closed d s m → IsLinked d s → Closed (d + 1) s m
  skip_closed d s m a l = record {
    rise = a.rise;
    linked = λ e lt. (elim (e == d) as (λ b. (e == d) ≡ b → IsLinked e m) [
      | true ↦ λ q. subst (λ k. IsLinked k m) (sym (same e d q)) (same_linked d s m (a.rest d (omega arith)) l)
      | false ↦ λ q. a.linked e (below e d lt (differ e d q))
    ]) refl;
    rest = λ e le. a.rest e (omega (arith, le));
    items_same = a.items_same;
    visits_most = omega (arith, a.visits_most);
    visits_least = a.visits_least;
  }

  -- a node that is dropped is gone from each chain
  entries_dropped : (d : ℕ) (p : ℕ) (hs : List (Node T)) → IsApart (numbers_in hs) → entries d (drop_node p hs) ≡ drop_entry p (entries d hs)
  entries_dropped d p [] a = refl
  entries_dropped d p (h ∷ hs) a = (elim (h.head.number == p) as (λ y. (h.head.number == p) ≡ y → entries d (drop_node p (h ∷ hs)) ≡ drop_entry p (entries d (h ∷ hs))) [
    | true ↦ λ t. ap (λ (b : Bool). entries d (cond b hs (h ∷ drop_node p hs))) t
        ∙ sym (elim (link_at d h) as (λ o. drop_entry p (entry_of h.head.number o (entries d hs)) ≡ entries d hs) [
          | None ↦ drop_away p (entries d hs) (away_members d p hs (subst (λ r. IsNotAmong r (numbers_in hs)) (number_eq h.head.number p t) a.0))
          | Some l ↦ ap (λ (b : Bool). cond b (entries d hs) ((h.head.number, l) ∷ drop_entry p (entries d hs))) t
        ])
    | false ↦ λ t. ap (λ (b : Bool). entries d (cond b hs (h ∷ drop_node p hs))) t ∙ ap (λ es. entry_of h.head.number (link_at d h) es) (entries_dropped d p hs a.1)
        ∙ sym (elim (link_at d h) as (λ o. drop_entry p (entry_of h.head.number o (entries d hs)) ≡ entry_of h.head.number o (drop_entry p (entries d hs))) [
          | None ↦ refl
          | Some l ↦ ap (λ (b : Bool). cond b (entries d hs) ((h.head.number, l) ∷ drop_entry p (entries d hs))) t
        ])
  ]) refl

  -- a node with no link in the chain has no entry in it
  entry_none : (d : ℕ) (p : ℕ) (x : Node T) (hs : List (Node T)) → IsApart (numbers_in hs) → find_node p hs ≡ Some x → link_at d x ≡ None → drop_entry p (entries d hs) ≡ entries d hs
  entry_none d p x [] a f e = refl
  entry_none d p x (h ∷ hs) a f e = (elim (h.head.number == p) as (λ y. (h.head.number == p) ≡ y → drop_entry p (entries d (h ∷ hs)) ≡ entries d (h ∷ hs)) [
    | true ↦ λ t.
        let is : Some h ≡ Some x = subst (λ (b : Bool). cond b (Some h) (find_node p hs) ≡ Some x) t f in
        let node : h ≡ x = cc in
        ap (λ o. drop_entry p (entry_of h.head.number o (entries d hs))) (ap (link_at d) node ∙ e)
        ∙ drop_away p (entries d hs) (away_members d p hs (subst (λ r. IsNotAmong r (numbers_in hs)) (number_eq h.head.number p t) a.0))
        ∙ sym (ap (λ o. entry_of h.head.number o (entries d hs)) (ap (link_at d) node ∙ e))
    | false ↦ λ t.
        let on = entry_none d p x hs a.1 (subst (λ (b : Bool). cond b (Some h) (find_node p hs) ≡ Some x) t f) e in
        elim (link_at d h) as (λ o. drop_entry p (entry_of h.head.number o (entries d hs)) ≡ entry_of h.head.number o (entries d hs)) [
          | None ↦ on
          | Some k ↦ ap (λ (b : Bool). cond b (entries d hs) ((h.head.number, k) ∷ drop_entry p (entries d hs))) t ∙ ap (λ es. (h.head.number, k) ∷ es) on
        ]
  ]) refl

  -- the state s, and the state m without the node x of the number p
  module _ (d : ℕ) (p : ℕ) (x : Node T) (s m : Links T) (apart : IsApart (numbers_in s.nodes.items)) (linked : IsLinked d s) (found : find_node p s.nodes.items ≡ Some x)
      (held : m.nodes.items ≡ drop_node p s.nodes.items) (heads : m.heads ≡ s.heads) (tails : m.tails ≡ s.tails) where
    gone : entries d m.nodes.items ≡ drop_entry p (entries d s.nodes.items)
    gone = ap (entries d) held ∙ entries_dropped d p s.nodes.items apart

    open_at : (o : Option Link) → link_at d x ≡ o → IsOpen d m o
    open_at None e = same_linked d s m (record { entries_same = gone ∙ entry_none d p x s.nodes.items apart found e; head_same = ap (λ l. slice_index_or l d None) heads; tail_same = ap (λ l. slice_index_or l d None) tails }) linked
    open_at (Some l) e =
        let ms = members d s.nodes.items in
        let c = cut_chain None ms None p l (ap (find_entry p) (sym linked.0) ∙ entry_found d p x l s.nodes.items found e) in
        let head : head_at d m ≡ first_or None (c.us ++ p ∷ c.vs) = ap (λ h. slice_index_or h d None) heads ∙ linked.1 ∙ ap (first_or None) c.cut in
        let tail : tail_at d m ≡ last_or None (c.us ++ p ∷ c.vs) = ap (λ h. slice_index_or h d None) tails ∙ linked.2 ∙ ap (last_or None) c.cut in
        record {
          front = c.us;
          back = c.vs;
          on = Some (place p);
          from = Some (place p);
          linked = gone ∙ ap (drop_entry p) linked.0 ∙ c.dropped;
          last = ap (λ k. k.prev) c.is;
          first = ap (λ k. k.next) c.is;
          head = first_again (head_at d m) c.us p c.vs head;
          tail = last_again (tail_at d m) c.us p c.vs tail;
        }

    pub opened : IsOpen d m (link_at d x)
    opened = open_at (link_at d x) refl
