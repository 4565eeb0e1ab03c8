-- One node is changed: what becomes of the chains.
use Rattle.std.proofs.Common.{◌≡◌, ℕ, zero, suc, true, false, cond, List, [], ◌∷◌, slice_index_or, slice_set, refl, sym, ap, ◌∙◌, ◌==◌}
use Rattle.std.proofs.lemmas.List.{set-get_or}
use Rattle.std.specs.declared.option.Option.{Option}
use Rattle.std.specs.declared.option.Option.TheVariants.{None, Some}
use Rattle.record_list.specs.inner.Held.{index_in, find_node, set_node}
use Rattle.record_list.specs.declared.row_head.Place.{Place}
use Rattle.record_list.specs.declared.row_head.Link.{Link}
use Rattle.record_list.specs.declared.links.Node.{Node}
use Rattle.record_list.specs.inner.Chain.{link, link_at, with_links, next_is, prev_is, with_next, with_prev, change_node, change_at}

-- the changed place of a list is the new value, where the old one was there
pub set_some : {X : Type 0} (xs : List (Option X)) (i : ℕ) (x : X) (y : Option X) → slice_index_or xs i None ≡ Some x → slice_index_or (slice_set xs i y) i None ≡ y
set_some [] i x y e = cc
set_some (z ∷ xs) zero x y e = refl
set_some (z ∷ xs) (suc i) x y e = set_some xs i x y e

pub set_none : {X : Type 0} (xs : List (Option X)) (i : ℕ) → slice_index_or (slice_set xs i None) i None ≡ None
set_none [] i = refl
set_none (z ∷ xs) zero = refl
set_none (z ∷ xs) (suc i) = set_none xs i

module _ {T : Type 0} where
  -- a write to the node of the number p is a change of it
  pub set_change : (p : ℕ) (f : Node T → Node T) (x w : Node T) (hs : List (Node T)) → find_node p hs ≡ Some x → w ≡ f x → set_node p w hs ≡ change_node p f hs
  set_change p f x w [] e g = cc
  set_change p f x w (h ∷ hs) e g = (elim (h.head.number == p) as (λ b. cond b (Some h) (find_node p hs) ≡ Some x → slice_set (h ∷ hs) (cond b 0 (suc (index_in p hs))) w ≡ cond b (f h ∷ hs) (h ∷ change_node p f hs)) [
    | true ↦ λ is. let node : h ≡ x = cc in ap (λ y. y ∷ hs) (g ∙ ap f (sym node))
    | false ↦ λ on. ap (λ l. h ∷ l) (set_change p f x w hs on g)
  ]) e

  with_next_some : (d : ℕ) (q : Option Place) (x : Node T) (l : Link) → link_at d x ≡ Some l → (with_links (slice_set x.head.links d (Some (link l.prev q))) x) ≡ with_next d q x
  with_next_some d q x l e = ap (λ (o : Option Link). with_links (slice_set x.head.links d (next_is q o)) x) (sym e)

  with_next_none : (d : ℕ) (q : Option Place) (x : Node T) → link_at d x ≡ None → x ≡ with_next d q x
  with_next_none d q x e = sym (ap (λ (o : Option Link). with_links (slice_set x.head.links d (next_is q o)) x) e ∙ ap (λ (o : Option Link). with_links (slice_set x.head.links d o) x) (sym e) ∙ ap (λ (ls : List (Option Link)). with_links ls x) (set-get_or x.head.links d None))

  with_prev_some : (d : ℕ) (q : Option Place) (x : Node T) (l : Link) → link_at d x ≡ Some l → (with_links (slice_set x.head.links d (Some (link q l.next))) x) ≡ with_prev d q x
  with_prev_some d q x l e = ap (λ (o : Option Link). with_links (slice_set x.head.links d (prev_is q o)) x) (sym e)

  with_prev_none : (d : ℕ) (q : Option Place) (x : Node T) → link_at d x ≡ None → x ≡ with_prev d q x
  with_prev_none d q x e = sym (ap (λ (o : Option Link). with_links (slice_set x.head.links d (prev_is q o)) x) e ∙ ap (λ (o : Option Link). with_links (slice_set x.head.links d o) x) (sym e) ∙ ap (λ (ls : List (Option Link)). with_links ls x) (set-get_or x.head.links d None))

  module _ (prev : Option Place) (at : Place) (d : ℕ) (q : Option Place) (held : List (Node T)) (x : Node T) (is : prev ≡ Some at) (found : find_node at.number held ≡ Some x) where
    pub next_written : (l : Link) → link_at d x ≡ Some l → set_node at.number (with_links (slice_set x.head.links d (Some (link l.prev q))) x) held ≡ change_at prev (with_next d q) held
    next_written l e = set_change at.number (with_next d q) x _ held found (with_next_some d q x l e) ∙ ap (λ o. change_at o (with_next d q) held) (sym is)

    pub next_kept : link_at d x ≡ None → set_node at.number x held ≡ change_at prev (with_next d q) held
    next_kept e = set_change at.number (with_next d q) x x held found (with_next_none d q x e) ∙ ap (λ o. change_at o (with_next d q) held) (sym is)

    pub prev_written : (l : Link) → link_at d x ≡ Some l → set_node at.number (with_links (slice_set x.head.links d (Some (link q l.next))) x) held ≡ change_at prev (with_prev d q) held
    prev_written l e = set_change at.number (with_prev d q) x _ held found (with_prev_some d q x l e) ∙ ap (λ o. change_at o (with_prev d q) held) (sym is)

    pub prev_kept : link_at d x ≡ None → set_node at.number x held ≡ change_at prev (with_prev d q) held
    prev_kept e = set_change at.number (with_prev d q) x x held found (with_prev_none d q x e) ∙ ap (λ o. change_at o (with_prev d q) held) (sym is)
