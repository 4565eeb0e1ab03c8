-- A node at the end of a chain is made known to the chain.
use Rattle.std.proofs.Common.{◌≡◌, ◌≢◌, ℕ, ◌<◌, List, [], ◌∷◌, ◌++◌, length, slice_index_or, slice_set, refl, sym, ap, ◌∙◌, IfSome}
use Rattle.std.proofs.lemmas.List.{get_or-set_other, get_or-set_same}
use Rattle.std.specs.declared.option.Option.TheVariants.{None, Some}
use Rattle.record_list.specs.inner.Held.{IsHeld}
use Rattle.record_list.specs.declared.row_head.Place.{Place}
use Rattle.record_list.specs.declared.links.Links.{Links}
use Rattle.record_list.specs.inner.Chain.{link, first_or, last_or, chain, entries, members, with_next, change_at, end_after, items_at}
use Rattle.record_list.specs.inner.Linked.{IsApart, numbers_in, head_at, tail_at, IsLinked, LacksTail, IsSameChain}
use Rattle.record_list.proofs.Chains.{keys, keys_chain, keys_only, chain_append, points_on, others_on, items_on}
use Rattle.record_list.proofs.Join.{before_held, head_after, end_kept, last_append, first_append}

module _ {T : Type 0} (d : ℕ) (at : Place) (s m t : Links T) (apart : IsApart (numbers_in s.nodes.items)) (hangs : LacksTail d s at.number) where
  pub last_held : IfSome (tail_at d s) (λ q. IsHeld q.number s.nodes.items)
  last_held = before_held d (tail_at d s) hangs.front None ((at.number, link (last_or None hangs.front) None) ∷ []) s.nodes.items hangs.linked hangs.tail

  module _ (held₁ : m.nodes.items ≡ change_at (tail_at d s) (with_next d (Some at)) s.nodes.items) (heads₁ : m.heads ≡ end_after (tail_at d s) d (Some at) s.heads) (tails₁ : m.tails ≡ s.tails)
      (held₂ : t.nodes.items ≡ m.nodes.items) (heads₂ : t.heads ≡ m.heads) (tails₂ : t.tails ≡ slice_set m.tails d (Some at)) (wide₁ : d < length s.heads) (wide₂ : d < length s.tails) where
    abbrev all : List ℕ
    all = hangs.front ++ at.number ∷ []

    held_is : t.nodes.items ≡ change_at (tail_at d s) (with_next d (Some at)) s.nodes.items
    held_is = held₂ ∙ held₁

    whole : entries d t.nodes.items ≡ chain None all None
    whole = ap (entries d) held_is ∙ points_on d None (Some at) hangs.front (tail_at d s) ((at.number, link (last_or None hangs.front) None) ∷ []) s.nodes.items apart hangs.linked hangs.tail ∙ chain_append None None hangs.front (at.number ∷ [])

    members_whole : members d t.nodes.items ≡ all
    members_whole = ap keys whole ∙ keys_only None None all

    pub members_entered : members d t.nodes.items ≡ members d s.nodes.items
    members_entered = members_whole ∙ sym (ap keys hangs.linked ∙ keys_chain None None hangs.front ((at.number, link (last_or None hangs.front) None) ∷ []))

    head_entered : head_at d t ≡ first_or None all
    head_entered = ap (λ l. slice_index_or l d None) (heads₂ ∙ heads₁) ∙ head_first hangs.front hangs.tail hangs.head ∙ first_append None hangs.front (at.number ∷ [])
      where
        head_first : (xs : List ℕ) → tail_at d s ≡ last_or None xs → head_at d s ≡ first_or None xs → slice_index_or (end_after (tail_at d s) d (Some at) s.heads) d None ≡ first_or (Some at) xs
        head_first [] e h = head_after d (Some at) (tail_at d s) [] s.heads wide₁ e refl
        head_first (x ∷ xs) e h = head_after d (Some at) (tail_at d s) (x ∷ xs) s.heads wide₁ e h

    tail_entered : tail_at d t ≡ last_or None all
    tail_entered = ap (λ l. slice_index_or l d None) (tails₂ ∙ ap (λ l. slice_set l d (Some at)) tails₁) ∙ get_or-set_same s.tails d (Some at) None wide₂ ∙ last_append None hangs.front (at.number ∷ [])

    pub linked_entered : IsLinked d t
    linked_entered = (whole ∙ ap (λ l. chain None l None) (sym members_whole), head_entered ∙ ap (first_or None) (sym members_whole), tail_entered ∙ ap (last_or None) (sym members_whole))

    pub others_entered : (e : ℕ) → e ≢ d → IsSameChain e s t
    others_entered e ne = record {
      entries_same = ap (entries e) held_is ∙ others_on d e (Some at) (tail_at d s) s.nodes.items ne;
      head_same = ap (λ l. slice_index_or l e None) (heads₂ ∙ heads₁) ∙ end_kept d e (Some at) (tail_at d s) s.heads ne;
      tail_same = ap (λ l. slice_index_or l e None) (tails₂ ∙ ap (λ l. slice_set l d (Some at)) tails₁) ∙ get_or-set_other s.tails d e (Some at) None ne;
    }

    pub items_entered : items_at t.nodes.items ≡ items_at s.nodes.items
    items_entered = ap items_at held_is ∙ items_on d (Some at) (tail_at d s) s.nodes.items

module _ {T : Type 0} where
  pub same_linked : (e : ℕ) (s t : Links T) → IsSameChain e s t → IsLinked e s → IsLinked e t
  same_linked e s t k l =
      let m : members e t.nodes.items ≡ members e s.nodes.items = ap keys k.entries_same in
      (k.entries_same ∙ l.0 ∙ ap (λ ps. chain None ps None) (sym m), k.head_same ∙ l.1 ∙ ap (first_or None) (sym m), k.tail_same ∙ l.2 ∙ ap (last_or None) (sym m))

  pub same_hangs : (e : ℕ) (s t : Links T) (p : ℕ) → IsSameChain e s t → LacksTail e s p → LacksTail e t p
  same_hangs e s t p k h = record { front = h.front; linked = k.entries_same ∙ h.linked; head = k.head_same ∙ h.head; tail = k.tail_same ∙ h.tail }
