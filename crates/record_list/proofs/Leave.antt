-- A node leaves a chain: a gap opens.
use Rattle.std.proofs.Common.{◌≡◌, ◌≢◌, ℕ, suc, Bool, true, false, cond, List, [], ◌∷◌, ◌++◌, slice_index_or, slice_set, refl, sym, ap, ◌∙◌, subst, ◌==◌}
use Rattle.std.proofs.lemmas.List.{get_or-set_other}
use Rattle.std.specs.declared.option.Option.{Option}
use Rattle.std.specs.declared.option.Option.TheVariants.{None, Some}
use Rattle.record_list.specs.inner.Held.{index_in, find_node, set_node}
use Rattle.record_list.specs.declared.row_head.Place.{Place}
use Rattle.record_list.proofs.Numbers.{number_eq}
use Rattle.record_list.specs.declared.row_head.Link.{Link}
use Rattle.record_list.specs.declared.links.Node.{Node}
use Rattle.record_list.specs.declared.links.Links.{Links}
use Rattle.record_list.specs.inner.Chain.{place, link, first_or, last_or, chain, entry_of, entries, members, link_at, without_link, change_node}
use Rattle.record_list.specs.inner.Linked.{IsNotAmong, IsApart, numbers_in, head_at, tail_at, IsLinked, BrokenAt, IsSameChain}
use Rattle.record_list.proofs.Change.{set_change, set_some}
use Rattle.record_list.proofs.Chains.{keys, away_members, entries_kept}
use Rattle.record_list.proofs.Join.{last_append}

abbrev pub drop_entry : ℕ → List (ℕ × Link) → List (ℕ × Link)
drop_entry p [] = []
drop_entry p (e ∷ es) = cond (e.0 == p) es (e ∷ drop_entry p es)

abbrev pub find_entry : ℕ → List (ℕ × Link) → Option Link
find_entry p [] = None
find_entry p (e ∷ es) = cond (e.0 == p) (Some e.1) (find_entry p es)

pub drop_away : (p : ℕ) (es : List (ℕ × Link)) → IsNotAmong p (keys es) → drop_entry p es ≡ es
drop_away p [] a = refl
drop_away p (e ∷ es) a = ap (λ (b : Bool). cond b es (e ∷ drop_entry p es)) a.0 ∙ ap (λ l. e ∷ l) (drop_away p es a.1)

-- the entry of the number p in a chain: who stands before and after it
pub record CutChain (b : Option Place) (ms : List ℕ) (a : Option Place) (p : ℕ) (l : Link) : Type 0 where
  pub us : List ℕ
  pub vs : List ℕ
  pub cut : ms ≡ us ++ p ∷ vs
  pub is : l ≡ link (last_or b us) (first_or a vs)
  pub dropped : drop_entry p (chain b ms a) ≡ chain b us (Some (place p)) ++ chain (Some (place p)) vs a

first_of_cut : (a : Option Place) (us : List ℕ) (p : ℕ) (vs : List ℕ) → first_or a (us ++ p ∷ vs) ≡ first_or (Some (place p)) us
first_of_cut a [] p vs = refl
first_of_cut a (u ∷ us) p vs = refl

pub cut_chain : (b : Option Place) (ms : List ℕ) (a : Option Place) (p : ℕ) (l : Link) → find_entry p (chain b ms a) ≡ Some l → CutChain b ms a p l
cut_chain b [] a p l e = cc
cut_chain b (m ∷ ms) a p l e = (elim (m == p) as (λ y. (m == p) ≡ y → CutChain b (m ∷ ms) a p l) [
  | true ↦ λ t.
      let at : m ≡ p = number_eq m p t in
      let same : Some (link b (first_or a ms)) ≡ Some l = subst (λ (c : Bool). cond c (Some (link b (first_or a ms))) (find_entry p (chain (Some (place m)) ms a)) ≡ Some l) t e in
      let is : link b (first_or a ms) ≡ l = cc in
      record {
        us = [];
        vs = ms;
        cut = ap (λ q. q ∷ ms) at;
        is = sym is;
        dropped = ap (λ (c : Bool). cond c (chain (Some (place m)) ms a) ((m, link b (first_or a ms)) ∷ drop_entry p (chain (Some (place m)) ms a))) t ∙ ap (λ q. chain (Some (place q)) ms a) at;
      }
  | false ↦ λ t.
      let on = cut_chain (Some (place m)) ms a p l (subst (λ (c : Bool). cond c (Some (link b (first_or a ms))) (find_entry p (chain (Some (place m)) ms a)) ≡ Some l) t e) in
      record {
        us = m ∷ on.us;
        vs = on.vs;
        cut = ap (λ q. m ∷ q) on.cut;
        is = on.is;
        dropped = ap (λ (c : Bool). cond c (chain (Some (place m)) ms a) ((m, link b (first_or a ms)) ∷ drop_entry p (chain (Some (place m)) ms a))) t
            ∙ (λ i. (m, link b ((ap (first_or a) on.cut ∙ first_of_cut a on.us p on.vs) i)) ∷ on.dropped i);
      }
]) refl

pub first_again : (h : Option Place) (us : List ℕ) (p : ℕ) (vs : List ℕ) → h ≡ first_or None (us ++ p ∷ vs) → h ≡ first_or h us
first_again h [] p vs e = refl
first_again h (u ∷ us) p vs e = e

pub last_again : (t : Option Place) (us : List ℕ) (p : ℕ) (vs : List ℕ) → t ≡ last_or None (us ++ p ∷ vs) → t ≡ last_or t vs
last_again t us p [] e = refl
last_again t us p (v ∷ vs) e = e ∙ sym (last_append None us (p ∷ v ∷ vs))

module _ {T : Type 0} where
  pub set_same : (p : ℕ) (x : Node T) (hs : List (Node T)) → find_node p hs ≡ Some x → set_node p x hs ≡ hs
  set_same p x [] e = cc
  set_same p x (h ∷ hs) e = (elim (h.head.number == p) as (λ b. cond b (Some h) (find_node p hs) ≡ Some x → slice_set (h ∷ hs) (cond b 0 (suc (index_in p hs))) x ≡ h ∷ hs) [
    | true ↦ λ is. let node : h ≡ x = cc in ap (λ y. y ∷ hs) (sym node)
    | false ↦ λ on. ap (λ l. h ∷ l) (set_same p x hs on)
  ]) e

  pub entry_found : (d : ℕ) (p : ℕ) (x : Node T) (l : Link) (hs : List (Node T)) → find_node p hs ≡ Some x → link_at d x ≡ Some l → find_entry p (entries d hs) ≡ Some l
  entry_found d p x l [] f e = cc
  entry_found d p x l (h ∷ hs) f e = (elim (h.head.number == p) as (λ y. (h.head.number == p) ≡ y → find_entry p (entries d (h ∷ hs)) ≡ Some l) [
    | true ↦ λ t.
        let is : Some h ≡ Some x = subst (λ (b : Bool). cond b (Some h) (find_node p hs) ≡ Some x) t f in
        let node : h ≡ x = cc in
        ap (λ o. find_entry p (entry_of h.head.number o (entries d hs))) (ap (link_at d) node ∙ e) ∙ ap (λ (b : Bool). cond b (Some l) (find_entry p (entries d hs))) t
    | false ↦ λ t.
        let on = entry_found d p x l hs (subst (λ (b : Bool). cond b (Some h) (find_node p hs) ≡ Some x) t f) e in
        elim (link_at d h) as (λ o. find_entry p (entry_of h.head.number o (entries d hs)) ≡ Some l) [
          | None ↦ on
          | Some k ↦ ap (λ (b : Bool). cond b (Some k) (find_entry p (entries d hs))) t ∙ on
        ]
  ]) refl

  gone : (d : ℕ) (n : Node T) → link_at d (without_link d n) ≡ None
  gone d n = cleared n.head.links d
    where
      cleared : (xs : List (Option Link)) (i : ℕ) → slice_index_or (slice_set xs i None) i None ≡ None
      cleared xs i = Rattle.record_list.proofs.Change.set_none xs i

  entries_left : (d : ℕ) (p : ℕ) (hs : List (Node T)) → IsApart (numbers_in hs) → entries d (change_node p (without_link d) hs) ≡ drop_entry p (entries d hs)
  entries_left d p [] a = refl
  entries_left d p (h ∷ hs) a = (elim (h.head.number == p) as (λ y. (h.head.number == p) ≡ y → entries d (change_node p (without_link d) (h ∷ hs)) ≡ drop_entry p (entries d (h ∷ hs))) [
    | true ↦ λ t. ap (λ (b : Bool). entries d (cond b (without_link d h ∷ hs) (h ∷ change_node p (without_link d) hs))) t ∙ ap (λ o. entry_of h.head.number o (entries d hs)) (gone d h)
        ∙ sym (elim (link_at d h) as (λ o. drop_entry p (entry_of h.head.number o (entries d hs)) ≡ entries d hs) [
          | None ↦ drop_away p (entries d hs) (away_members d p hs (subst (λ r. IsNotAmong r (numbers_in hs)) (number_eq h.head.number p t) a.0))
          | Some l ↦ ap (λ (b : Bool). cond b (entries d hs) ((h.head.number, l) ∷ drop_entry p (entries d hs))) t
        ])
    | false ↦ λ t. ap (λ (b : Bool). entries d (cond b (without_link d h ∷ hs) (h ∷ change_node p (without_link d) hs))) t ∙ ap (λ es. entry_of h.head.number (link_at d h) es) (entries_left d p hs a.1)
        ∙ sym (elim (link_at d h) as (λ o. drop_entry p (entry_of h.head.number o (entries d hs)) ≡ entry_of h.head.number o (drop_entry p (entries d hs))) [
          | None ↦ refl
          | Some l ↦ ap (λ (b : Bool). cond b (entries d hs) ((h.head.number, l) ∷ drop_entry p (entries d hs))) t
        ])
  ]) refl

  -- the state s, and the state m after the node of the number p has given up its link l
  module _ (d : ℕ) (p : ℕ) (x : Node T) (l : Link) (s m : Links T) (apart : IsApart (numbers_in s.nodes.items)) (linked : IsLinked d s)
      (found : find_node p s.nodes.items ≡ Some x) (has : link_at d x ≡ Some l) (held : m.nodes.items ≡ set_node p (without_link d x) s.nodes.items) (heads : m.heads ≡ s.heads) (tails : m.tails ≡ s.tails) where
    pub held_left : m.nodes.items ≡ change_node p (without_link d) s.nodes.items
    held_left = held ∙ set_change p (without_link d) x (without_link d x) s.nodes.items found refl

    pub others_left : (e : ℕ) → e ≢ d → IsSameChain e s m
    others_left e ne = record {
      entries_same = ap (entries e) held_left ∙ entries_kept e p (without_link d) (λ n. refl) (λ n. get_or-set_other n.head.links d e None None ne) s.nodes.items;
      head_same = ap (λ h. slice_index_or h e None) heads;
      tail_same = ap (λ h. slice_index_or h e None) tails;
    }

    pub gap_left : BrokenAt d m l.prev l.next
    gap_left =
        let ms = members d s.nodes.items in
        let c = cut_chain None ms None p l (ap (find_entry p) (sym linked.0) ∙ entry_found d p x l s.nodes.items found has) in
        let head : head_at d m ≡ first_or None (c.us ++ p ∷ c.vs) = ap (λ h. slice_index_or h d None) heads ∙ linked.1 ∙ ap (first_or None) c.cut in
        let tail : tail_at d m ≡ last_or None (c.us ++ p ∷ c.vs) = ap (λ h. slice_index_or h d None) tails ∙ linked.2 ∙ ap (last_or None) c.cut in
        record {
          front = c.us;
          back = c.vs;
          on = Some (place p);
          from = Some (place p);
          linked = ap (entries d) held_left ∙ entries_left d p s.nodes.items apart ∙ ap (drop_entry p) linked.0 ∙ c.dropped;
          last = ap (λ k. k.prev) c.is;
          first = ap (λ k. k.next) c.is;
          head = first_again (head_at d m) c.us p c.vs head;
          tail = last_again (tail_at d m) c.us p c.vs tail;
        }

  pub linked_like : (d : ℕ) (s t : Links T) → t.nodes.items ≡ s.nodes.items → t.heads ≡ s.heads → t.tails ≡ s.tails → IsLinked d s → IsLinked d t
  linked_like d s t e h w k = subst (λ (z : List (Node T) × List (Option Place) × List (Option Place)).
      (entries d z.0 ≡ chain None (members d z.0) None) × (slice_index_or z.1 d None ≡ first_or None (members d z.0)) × (slice_index_or z.2 d None ≡ last_or None (members d z.0))) (λ i. (sym e i, sym h i, sym w i)) k

  pub same_like : (e : ℕ) (s t : Links T) → t.nodes.items ≡ s.nodes.items → t.heads ≡ s.heads → t.tails ≡ s.tails → IsSameChain e s t
  same_like e s t n h w = record { entries_same = ap (entries e) n; head_same = ap (λ l. slice_index_or l e None) h; tail_same = ap (λ l. slice_index_or l e None) w }

  pub same_then : (e : ℕ) (r s t : Links T) → IsSameChain e r s → IsSameChain e s t → IsSameChain e r t
  same_then e r s t a b = record { entries_same = b.entries_same ∙ a.entries_same; head_same = b.head_same ∙ a.head_same; tail_same = b.tail_same ∙ a.tail_same }
