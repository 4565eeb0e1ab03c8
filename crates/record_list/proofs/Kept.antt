-- A store of linked rows stays whole: what each change does to marks and rows.
use Rattle.std.proofs.Common.{◌≡◌, ◌≤◌, ◌<◌, ◌^◌, ◌||◌, ◌&&◌, ◌==◌, ℕ, zero, suc, Bool, true, false, cond, List, [], ◌∷◌, ◌++◌, map, slice_index_or, replicate, refl, sym, ap, ◌∙◌, subst, arith}
use Rattle.std.specs.Option.{is_some}
use Rattle.std.specs.declared.option.Option.{Option}
use Rattle.std.specs.declared.option.Option.TheVariants.{None, Some}
use Rattle.record_list.specs.inner.Held.{drop_node}
use Rattle.record_list.specs.declared.row_head.Place.{Place}
use Rattle.row_store.specs.declared.Row.{Row}
use Rattle.row_store.specs.Rows.{is_row, is_in_queue}
use Rattle.row_store.specs.inner.Rows.{front_of, is_linked, unlinked}
use Rattle.row_store.proofs.Bits.{beyond_width}
use Rattle.record_list.specs.declared.links.Node.{Node}
use Rattle.record_list.specs.declared.links.Links.{Links}
use Rattle.record_list.specs.inner.Chain.{place, first_or, last_or, chain, entry_of, entries, members, link_at, change_node, row_of, rows_of, items_at}
use Rattle.record_list.specs.inner.Linked.{IsLinked}
use Rattle.record_list.specs.inner.Stands.{stands, AreMarked, NodesRise, IsWhole}
use Rattle.record_list.proofs.Chains.{keys}
use Rattle.record_list.proofs.Rising.{rise_like}

pub is_some_at : {X : Type 0} (xs : List (Option X)) (d : ℕ) → slice_index_or (map is_some xs) d false ≡ is_some (slice_index_or xs d None)
is_some_at [] d = refl
is_some_at (x ∷ xs) zero = refl
is_some_at (x ∷ xs) (suc d) = is_some_at xs d

abbrev no_place : Option Place
no_place = None

none_at : (n d : ℕ) → slice_index_or (replicate n no_place) d None ≡ None
none_at zero d = refl
none_at (suc n) zero = refl
none_at (suc n) (suc d) = none_at n d

module _ {T : Type 0} where
  abbrev pub IsMarked : Row T × List Bool → Type 0
  IsMarked i = (i.0.mask < 2 ^ 32) × ((d : ℕ) → d < 32 → slice_index_or i.1 d false ≡ stands d i.0.mask)

  -- a store is whole where its nodes are like others that are
  pub whole_from : (hs : List (Node T)) (t : Links T) → items_at t.nodes.items ≡ items_at hs → NodesRise hs → AreMarked (items_at hs) → ((d : ℕ) → d < 32 → IsLinked d t) → IsWhole t
  whole_from hs t items rise marked linked = record {
    rise = rise_like hs t.nodes.items items rise;
    linked = linked;
    marked = subst AreMarked (sym items) marked;
  }

  pub marked_push : (is : List (Row T × List Bool)) (i : Row T × List Bool) → AreMarked is → IsMarked i → AreMarked (is ++ i ∷ [])
  marked_push [] i m one = (one, tt)
  marked_push (j ∷ js) i m one = (m.0, marked_push js i m.1 one)

  pub marked_changed : (p : ℕ) (f : Node T → Node T) → ((x : Node T) → IsMarked (row_of x, map is_some x.head.links) → IsMarked (row_of (f x), map is_some (f x).head.links)) → (hs : List (Node T)) → AreMarked (items_at hs) → AreMarked (items_at (change_node p f hs))
  marked_changed p f keeps [] m = tt
  marked_changed p f keeps (h ∷ hs) m = elim (h.head.number == p) as (λ y. AreMarked (items_at (cond y (f h ∷ hs) (h ∷ change_node p f hs))))
      [ true ↦ (keeps h m.0, m.1) | false ↦ (m.0, marked_changed p f keeps hs m.1) ]

  pub marked_dropped : (p : ℕ) (hs : List (Node T)) → AreMarked (items_at hs) → AreMarked (items_at (drop_node p hs))
  marked_dropped p [] m = tt
  marked_dropped p (h ∷ hs) m = elim (h.head.number == p) as (λ y. AreMarked (items_at (cond y hs (h ∷ drop_node p hs))))
      [ true ↦ m.1 | false ↦ (m.0, marked_dropped p hs m.1) ]

  -- whether a node's row stands in a queue is whether it has a link there
  pub in_queue : (d : ℕ) (h : Node T) → d < 32 → IsMarked (row_of h, map is_some h.head.links) → is_in_queue d (row_of h) ≡ is_some (link_at d h)
  in_queue d h lt m = sym (m.1 d lt) ∙ is_some_at h.head.links d

  -- no node stands in the chain: there is no front
  pub front_none : (d : ℕ) (hs : List (Node T)) → d < 32 → AreMarked (items_at hs) → None ≡ first_or None (members d hs) → front_of d (rows_of hs) ≡ None
  front_none d [] lt m e = refl
  front_none d (h ∷ hs) lt m e = (elim (link_at d h) as (λ o. link_at d h ≡ o → None ≡ first_or None (keys (entry_of h.head.number o (entries d hs))) → front_of d (rows_of (h ∷ hs)) ≡ None) [
    | None ↦ λ k f. let out : is_in_queue d (row_of h) ≡ false = in_queue d h lt m.0 ∙ ap is_some k in rw out (front_none d hs lt m.1 f)
    | Some l ↦ λ k f. cc
  ]) refl e

  -- the number of the first node of the chain is the front
  pub front_some : (d : ℕ) (at : Place) (hs : List (Node T)) → d < 32 → AreMarked (items_at hs) → Some at ≡ first_or None (members d hs) → front_of d (rows_of hs) ≡ Some at.number
  front_some d at [] lt m e = cc
  front_some d at (h ∷ hs) lt m e = (elim (link_at d h) as (λ o. link_at d h ≡ o → Some at ≡ first_or None (keys (entry_of h.head.number o (entries d hs))) → front_of d (rows_of (h ∷ hs)) ≡ Some at.number) [
    | None ↦ λ k f.
        let out : is_in_queue d (row_of h) ≡ false = in_queue d h lt m.0 ∙ ap is_some k in
        rw out (front_some d at hs lt m.1 f)
    | Some l ↦ λ k f.
        let is : at ≡ place h.head.number = cc in
        let inside : is_in_queue d (row_of h) ≡ true = in_queue d h lt m.0 ∙ ap is_some k in
        rw inside (ap (λ (p : Place). Some p.number) (sym is))
  ]) refl e

  pub new_whole : (s : Links T) → s.nodes.items ≡ [] → s.heads ≡ replicate 32 None → s.tails ≡ replicate 32 None → IsWhole s
  new_whole s n h t = record {
    rise = subst NodesRise (sym n) (λ k inside. absurd (omega arith));
    linked = λ d lt. subst (λ (z : List (Node T) × List (Option Place) × List (Option Place)).
        (entries d z.0 ≡ chain None (members d z.0) None) × (slice_index_or z.1 d None ≡ first_or None (members d z.0)) × (slice_index_or z.2 d None ≡ last_or None (members d z.0))) (λ i. (sym n i, sym h i, sym t i))
        (refl, none_at 32 d, none_at 32 d);
    marked = subst (λ hs. AreMarked (items_at hs)) (sym n) tt;
  }

  -- beyond the queues nobody stands
  pub front_beyond : (d : ℕ) (hs : List (Node T)) → 32 ≤ d → AreMarked (items_at hs) → front_of d (rows_of hs) ≡ None
  front_beyond d [] le m = refl
  front_beyond d (h ∷ hs) le m = rw (beyond_width h.head.mask d m.0.0 le) (front_beyond d hs le m.1)

  pub linked_beyond : (n d : ℕ) (hs : List (Node T)) → 32 ≤ d → AreMarked (items_at hs) → is_linked n d (rows_of hs) ≡ false
  linked_beyond n d [] le m = refl
  linked_beyond n d (h ∷ hs) le m = rw (beyond_width h.head.mask d m.0.0 le, linked_beyond n d hs le m.1) (elim (is_row n (row_of h)) as (λ b. ((b && false) || false) ≡ false) [ true ↦ refl | false ↦ refl ])

  pub unlinked_beyond : (n d : ℕ) (hs : List (Node T)) → 32 ≤ d → AreMarked (items_at hs) → unlinked n d (rows_of hs) ≡ rows_of hs
  unlinked_beyond n d [] le m = refl
  unlinked_beyond n d (h ∷ hs) le m = rw (beyond_width h.head.mask d m.0.0 le, unlinked_beyond n d hs le m.1) (elim (is_row n (row_of h)) as (λ b. cond b (row_of h) (row_of h) ∷ rows_of hs ≡ (row_of h) ∷ rows_of hs) [ true ↦ refl | false ↦ refl ])
