-- A gap in a chain is closed in two steps.
use Rattle.std.proofs.Common.{◌≡◌, ◌≢◌, ℕ, ◌<◌, Bool, true, false, cond, List, [], ◌∷◌, ◌++◌, map, length, slice_index_or, slice_set, refl, sym, ap, ◌∙◌, subst, IfSome, ◌==◌}
use Rattle.std.proofs.lemmas.List.{get_or-set_other, get_or-set_same}
use Rattle.std.specs.declared.option.Option.{Option}
use Rattle.std.specs.declared.option.Option.TheVariants.{None, Some}
use Rattle.row_store.specs.declared.Row.{Row}
use Rattle.record_list.specs.inner.Held.{find_node, IsHeld}
use Rattle.record_list.specs.declared.row_head.Place.{Place}
use Rattle.record_list.proofs.Numbers.{number_refl}
use Rattle.record_list.specs.declared.row_head.Link.{Link}
use Rattle.record_list.specs.declared.links.Node.{Node}
use Rattle.record_list.specs.declared.links.Links.{Links}
use Rattle.record_list.specs.inner.Chain.{place, first_or, last_or, chain, entry_of, entries, members, link_at, with_next, with_prev, change_at, end_after, items_at}
use Rattle.record_list.specs.inner.Linked.{IsApart, numbers_in, head_at, tail_at, IsLinked, BrokenAt, IsSameChain}
use Rattle.record_list.specs.inner.Stands.{NodesRise}
use Rattle.record_list.proofs.Rising.{rise_like}
use Rattle.record_list.proofs.Chains.{keys, keys_chain, keys_only, keys_front, last_is, chain_append, points_on, points_back, others_on, others_back, items_on, items_back, numbers_of_items}

last_cut : (x : ℕ) (xs : List ℕ) → (us : List ℕ) × (p : ℕ) × ((x ∷ xs ≡ us ++ p ∷ []) × (last_or (Some (place x)) xs ≡ Some (place p)))
last_cut x [] = ([], x, (refl, refl))
last_cut x (y ∷ ys) = let on = last_cut y ys in (x ∷ on.0, on.1, (ap (λ l. x ∷ l) on.2.0, on.2.1))

end_set : (d : ℕ) (q w : Option Place) (ends : List (Option Place)) → d < length ends → w ≡ None → slice_index_or (end_after w d q ends) d None ≡ q
end_set d q w ends p e = ap (λ o. slice_index_or (end_after o d q ends) d None) e ∙ get_or-set_same ends d q None p

pub end_kept : (d e : ℕ) (q w : Option Place) (ends : List (Option Place)) → e ≢ d → slice_index_or (end_after w d q ends) e None ≡ slice_index_or ends e None
end_kept d e q None ends ne = get_or-set_other ends d e q None ne
end_kept d e q (Some at) ends ne = refl

pub head_after : (d : ℕ) (q b : Option Place) (xs : List ℕ) (ends : List (Option Place)) → d < length ends → b ≡ last_or None xs → slice_index_or ends d None ≡ first_or (slice_index_or ends d None) xs → slice_index_or (end_after b d q ends) d None ≡ first_or q xs
head_after d q b [] ends p e h = end_set d q b ends p e
head_after d q b (x ∷ xs) ends p e h = let on = last_is x xs in ap (λ o. slice_index_or (end_after o d q ends) d None) (e ∙ on.1) ∙ h

tail_after : (d : ℕ) (q n : Option Place) (ys : List ℕ) (ends : List (Option Place)) → d < length ends → n ≡ first_or None ys → slice_index_or ends d None ≡ last_or (slice_index_or ends d None) ys → slice_index_or (end_after n d q ends) d None ≡ last_or q ys
tail_after d q n [] ends p e h = end_set d q n ends p e
tail_after d q n (y ∷ ys) ends p e h = ap (λ o. slice_index_or (end_after o d q ends) d None) e ∙ h

pub first_append : (a : Option Place) (xs ys : List ℕ) → first_or (first_or a ys) xs ≡ first_or a (xs ++ ys)
first_append a [] ys = refl
first_append a (x ∷ xs) ys = refl

pub last_append : (b : Option Place) (xs ys : List ℕ) → last_or (last_or b xs) ys ≡ last_or b (xs ++ ys)
last_append b [] ys = refl
last_append b (x ∷ xs) ys = last_append (Some (place x)) xs ys

module _ {T : Type 0} where
  held_more : (p : ℕ) (h : Node T) (hs : List (Node T)) → IsHeld p hs → IsHeld p (h ∷ hs)
  held_more p h hs x = (elim (h.head.number == p) as (λ y. (h.head.number == p) ≡ y → IsHeld p (h ∷ hs)) [
    | true ↦ λ t. (h, ap (λ (b : Bool). cond b (Some h) (find_node p hs)) t)
    | false ↦ λ t. (x.0, ap (λ (b : Bool). cond b (Some h) (find_node p hs)) t ∙ x.1)
  ]) refl

  held_here : (p : ℕ) (h : Node T) (hs : List (Node T)) → h.head.number ≡ p → IsHeld p (h ∷ hs)
  held_here p h hs e = (h, ap (λ (b : Bool). cond b (Some h) (find_node p hs)) (subst (λ r. (h.head.number == r) ≡ true) e (number_refl h.head.number)))

  -- a member is held
  pub member_held : (d : ℕ) (p : ℕ) (us vs : List ℕ) (hs : List (Node T)) → members d hs ≡ us ++ p ∷ vs → IsHeld p hs
  member_held d p [] vs [] e = cc
  member_held d p (u ∷ us) vs [] e = cc
  member_held d p [] vs (h ∷ hs) e = (elim (link_at d h) as (λ o. keys (entry_of h.head.number o (entries d hs)) ≡ p ∷ vs → IsHeld p (h ∷ hs)) [
    | None ↦ λ f. held_more p h hs (member_held d p [] vs hs f)
    | Some l ↦ λ f. let at : h.head.number ≡ p = cc in held_here p h hs at
  ]) e
  member_held d p (u ∷ us) vs (h ∷ hs) e = (elim (link_at d h) as (λ o. keys (entry_of h.head.number o (entries d hs)) ≡ (u ∷ us) ++ p ∷ vs → IsHeld p (h ∷ hs)) [
    | None ↦ λ f. held_more p h hs (member_held d p (u ∷ us) vs hs f)
    | Some l ↦ λ f. let rest : members d hs ≡ us ++ p ∷ vs = cc in held_more p h hs (member_held d p us vs hs rest)
  ]) e

  pub before_held : (d : ℕ) (b : Option Place) (xs : List ℕ) (a : Option Place) (rest : List (ℕ × Link)) (hs : List (Node T)) → entries d hs ≡ chain None xs a ++ rest → b ≡ last_or None xs → IfSome b (λ at. IsHeld at.number hs)
  before_held d b [] a rest hs e is = subst (λ o. IfSome o (λ at. IsHeld at.number hs)) (sym is) tt
  before_held d b (x ∷ xs) a rest hs e is =
      let c = last_cut x xs in
      let at : members d hs ≡ c.0 ++ c.1 ∷ keys rest = ap keys e ∙ keys_chain None a (x ∷ xs) rest ∙ ap (λ l. l ++ keys rest) c.2.0 ∙ Rattle.std.proofs.Common.append_assoc c.0 (c.1 ∷ []) (keys rest) in
      subst (λ o. IfSome o (λ at. IsHeld at.number hs)) (sym (is ∙ c.2.1)) (member_held d c.1 c.0 (keys rest) hs at)

  pub after_held : (d : ℕ) (n : Option Place) (front : List (ℕ × Link)) (b : Option Place) (ys : List ℕ) (hs : List (Node T)) → entries d hs ≡ front ++ chain b ys None → n ≡ first_or None ys → IfSome n (λ at. IsHeld at.number hs)
  after_held d n front b [] hs e is = subst (λ o. IfSome o (λ at. IsHeld at.number hs)) (sym is) tt
  after_held d n front b (y ∷ ys) hs e is =
      subst (λ o. IfSome o (λ at. IsHeld at.number hs)) (sym is) (member_held d y (keys front) ys hs (ap keys e ∙ keys_front front b None (y ∷ ys)))

  pub apart_like : (hs ks : List (Node T)) → items_at ks ≡ items_at hs → IsApart (numbers_in hs) → IsApart (numbers_in ks)
  apart_like hs ks e = subst IsApart (numbers_of_items hs ∙ ap (map (λ (i : Row T × List Bool). i.0.number)) (sym e) ∙ sym (numbers_of_items ks))

  pub half_rises : (d : ℕ) (prev next : Option Place) (s m : Links T) → NodesRise s.nodes.items → m.nodes.items ≡ change_at prev (with_next d next) s.nodes.items → NodesRise m.nodes.items
  half_rises d prev next s m rise held₁ = rise_like s.nodes.items m.nodes.items (ap items_at held₁ ∙ items_on d next prev s.nodes.items) rise

  half : (d : ℕ) (prev next : Option Place) (s m : Links T) → IsApart (numbers_in s.nodes.items) → (gap : BrokenAt d s prev next) → m.nodes.items ≡ change_at prev (with_next d next) s.nodes.items → entries d m.nodes.items ≡ chain None gap.front next ++ chain gap.from gap.back None
  half d prev next s m apart gap held₁ = ap (entries d) held₁ ∙ points_on d gap.on next gap.front prev (chain gap.from gap.back None) s.nodes.items apart gap.linked gap.last

  pub after_is_held : (d : ℕ) (prev next : Option Place) (s m : Links T) → IsApart (numbers_in s.nodes.items) → BrokenAt d s prev next → m.nodes.items ≡ change_at prev (with_next d next) s.nodes.items → IfSome next (λ at. IsHeld at.number m.nodes.items)
  after_is_held d prev next s m apart gap held₁ = after_held d next (chain None gap.front next) gap.from gap.back m.nodes.items (half d prev next s m apart gap held₁) gap.first

  -- what `point_on` and then `point_back` leave
  module _ (d : ℕ) (prev next : Option Place) (s m t : Links T) (apart : IsApart (numbers_in s.nodes.items)) (gap : BrokenAt d s prev next)
      (held₁ : m.nodes.items ≡ change_at prev (with_next d next) s.nodes.items) (held₂ : t.nodes.items ≡ change_at next (with_prev d prev) m.nodes.items)
      (heads₁ : m.heads ≡ end_after prev d next s.heads) (heads₂ : t.heads ≡ m.heads)
      (tails₁ : m.tails ≡ s.tails) (tails₂ : t.tails ≡ end_after next d prev m.tails)
      (wide₁ : d < length s.heads) (wide₂ : d < length s.tails) where
    items₁ : items_at m.nodes.items ≡ items_at s.nodes.items
    items₁ = ap items_at held₁ ∙ items_on d next prev s.nodes.items

    pub items_joined : items_at t.nodes.items ≡ items_at s.nodes.items
    items_joined = ap items_at held₂ ∙ items_back d prev next m.nodes.items ∙ items₁

    apart₁ : IsApart (numbers_in m.nodes.items)
    apart₁ = apart_like s.nodes.items m.nodes.items items₁ apart

    abbrev all : List ℕ
    all = gap.front ++ gap.back

    whole : entries d t.nodes.items ≡ chain None all None
    whole = ap (entries d) held₂ ∙ points_back d gap.from prev (chain None gap.front next) next gap.back m.nodes.items apart₁ (half d prev next s m apart gap held₁) gap.first
        ∙ (λ i. chain None gap.front (gap.first i) ++ chain (gap.last i) gap.back None) ∙ chain_append None None gap.front gap.back

    members_whole : members d t.nodes.items ≡ all
    members_whole = ap keys whole ∙ keys_only None None all

    members_had : members d s.nodes.items ≡ all
    members_had = ap keys gap.linked ∙ keys_chain None gap.on gap.front (chain gap.from gap.back None) ∙ ap (λ l. gap.front ++ l) (keys_only gap.from None gap.back)

    pub members_joined : members d t.nodes.items ≡ members d s.nodes.items
    members_joined = members_whole ∙ sym members_had

    head_joined : head_at d t ≡ first_or None all
    head_joined = ap (λ l. slice_index_or l d None) (heads₂ ∙ heads₁) ∙ head_after d next prev gap.front s.heads wide₁ gap.last gap.head ∙ ap (λ o. first_or o gap.front) gap.first ∙ first_append None gap.front gap.back

    tail_joined : tail_at d t ≡ last_or None all
    tail_joined = ap (λ l. slice_index_or l d None) (tails₂ ∙ ap (end_after next d prev) tails₁) ∙ tail_after d prev next gap.back s.tails wide₂ gap.first gap.tail ∙ ap (λ o. last_or o gap.back) gap.last ∙ last_append None gap.front gap.back

    pub linked_joined : IsLinked d t
    linked_joined = (whole ∙ ap (λ l. chain None l None) (sym members_whole), head_joined ∙ ap (first_or None) (sym members_whole), tail_joined ∙ ap (last_or None) (sym members_whole))

    pub others_joined : (e : ℕ) → e ≢ d → IsSameChain e s t
    others_joined e ne = record {
      entries_same = ap (entries e) held₂ ∙ others_back d e prev next m.nodes.items ne ∙ ap (entries e) held₁ ∙ others_on d e next prev s.nodes.items ne;
      head_same = ap (λ l. slice_index_or l e None) (heads₂ ∙ heads₁) ∙ end_kept d e next prev s.heads ne;
      tail_same = ap (λ l. slice_index_or l e None) (tails₂ ∙ ap (end_after next d prev) tails₁) ∙ end_kept d e prev next s.tails ne;
    }
