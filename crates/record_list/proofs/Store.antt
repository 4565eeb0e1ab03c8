-- What each call does to a store that is whole.
use Rattle.std.proofs.Common.{◌≡◌, ◌≢◌, ◌≤◌, ◌<◌, ◌+◌, ◌-◌, ◌^◌, ◌==◌, ℕ, zero, suc, Bool, true, false, cond, List, [], ◌∷◌, ◌++◌, length, map, slice_index_or, slice_set, refl, sym, ap, ◌∙◌, subst, arith}
use Rattle.std.specs.Prelude.{All, remove}
use Rattle.std.specs.Option.{is_some}
use Rattle.std.specs.Int.{bit_at}
use Rattle.std.proofs.lemmas.List.{map-append, set-get_or, get_or-set_other}
use Rattle.std.specs.declared.option.Option.{Option}
use Rattle.std.specs.declared.option.Option.TheVariants.{None, Some}
use Rattle.record_list.specs.inner.Held.{index_in, find_node, set_node, drop_node, IsHeld}
use Rattle.row_store.specs.declared.Row.{Row}
use Rattle.row_store.specs.inner.Rows.{without, changed_at}
use Rattle.row_store.proofs.Bits.{bit_at-without_same, bit_at-without_other}
use Rattle.row_store.proofs.Places.{numbers-changed_at, NumbersRise-removed, NumbersRise-push}
use Rattle.record_list.specs.declared.row_head.Link.{Link}
use Rattle.record_list.specs.declared.links.Node.{Node}
use Rattle.record_list.specs.declared.links.Links.{Links}
use Rattle.record_list.specs.inner.Chain.{link, first_or, last_or, chain, entry_of, entries, members, link_at, without_link, change_node, row_of, rows_of, items_at}
use Rattle.record_list.specs.inner.Linked.{tail_at, IsLinked, IsOpen, LacksTail, IsSameChain}
use Rattle.record_list.specs.inner.Stands.{stands, new_link, AreMarked, NodesRise, IsWhole}
use Rattle.record_list.proofs.Change.{set_change, set_none}
use Rattle.record_list.proofs.Chains.{keys}
use Rattle.record_list.proofs.Enter.{same_linked}
use Rattle.record_list.proofs.Entering.{differ, same}
use Rattle.record_list.proofs.Found.{Found, found_at}
use Rattle.record_list.proofs.Kept.{is_some_at, IsMarked, whole_from, marked_push, marked_changed, marked_dropped, in_queue}
use Rattle.record_list.proofs.LastLinks.{is_new}
use Rattle.record_list.proofs.Leave.{set_same}
use Rattle.record_list.proofs.Rising.{rows_like, apart_of, node_there, dropped_there, stands_there}
use Rattle.record_list.proofs.Closing.{opened}

less : (d mask : ℕ) → mask < 2 ^ 32 → without d mask < 2 ^ 32
less d mask lt = elim (bit_at mask d == 1) as (λ b. cond b (mask - 2 ^ d) mask < 2 ^ 32) [ true ↦ omega (arith, lt) | false ↦ lt ]

module _ {T : Type 0} where
  pub marked_found : (p : ℕ) (x : Node T) (hs : List (Node T)) → AreMarked (items_at hs) → find_node p hs ≡ Some x → IsMarked (row_of x, map is_some x.head.links)
  marked_found p x [] m f = cc
  marked_found p x (h ∷ hs) m f = (elim (h.head.number == p) as (λ y. (h.head.number == p) ≡ y → IsMarked (row_of x, map is_some x.head.links)) [
    | true ↦ λ t.
        let is : Some h ≡ Some x = subst (λ (b : Bool). cond b (Some h) (find_node p hs) ≡ Some x) t f in
        let node : h ≡ x = cc in
        subst (λ (y : Node T). IsMarked (row_of y, map is_some y.head.links)) node m.0
    | false ↦ λ t. marked_found p x hs m.1 (subst (λ (b : Bool). cond b (Some h) (find_node p hs) ≡ Some x) t f)
  ]) refl

  -- a node is changed
  pub whole_changed : (s t : Links T) (n : ℕ) (f : Node T → Node T) (g : Row T → Row T) → IsWhole s → Found n s.nodes.items → ((x : Node T) → row_of (f x) ≡ g (row_of x)) → ((r : Row T) → (g r).number ≡ r.number)
      → items_at t.nodes.items ≡ items_at (change_node n f s.nodes.items) → ((x : Node T) → IsMarked (row_of x, map is_some x.head.links) → IsMarked (row_of (f x), map is_some (f x).head.links)) → ((d : ℕ) → d < 32 → IsLinked d t) → IsWhole t
  whole_changed s t n f g w on rows numbers items marks linked =
      whole_from (change_node n f s.nodes.items) t items
      (rw (on.changed_is f g rows, numbers-changed_at n g numbers (rows_of s.nodes.items)) w.rise)
      (marked_changed n f marks s.nodes.items w.marked) linked

  pub marks_left : (d : ℕ) → d < 32 → (x : Node T) → IsMarked (row_of x, map is_some x.head.links) → IsMarked (row_of (without_link d x), map is_some (without_link d x).head.links)
  marks_left d lt x m = (
    less d x.head.mask m.0,
    λ e le. is_some_at (slice_set x.head.links d None) e ∙ (elim (e == d) as (λ b. (e == d) ≡ b → is_some (slice_index_or (slice_set x.head.links d None) e None) ≡ stands e (without d x.head.mask)) [
      | true ↦ λ q.
          let at : e ≡ d = same e d q in
          let gone : is_some (slice_index_or (slice_set x.head.links d None) e None) ≡ false = ap (λ k. is_some (slice_index_or (slice_set x.head.links d None) k None)) at ∙ ap is_some (set_none x.head.links d) in
          let out : stands d (without d x.head.mask) ≡ false = ap (λ b. b == 1) (bit_at-without_same x.head.mask d) in
          gone ∙ sym out ∙ ap (λ k. stands k (without d x.head.mask)) (sym at)
      | false ↦ λ q.
          ap is_some (get_or-set_other x.head.links d e None None (differ e d q)) ∙ sym (is_some_at x.head.links e) ∙ m.1 e le ∙ ap (λ b. b == 1) (sym (bit_at-without_other x.head.mask d e (differ e d q)))
    ]) refl,
  )

  -- to leave a chain in which the node doesn't stand changes nothing
  pub left_none : (d : ℕ) → d < 32 → (p : ℕ) (x : Node T) (hs : List (Node T)) → find_node p hs ≡ Some x → IsMarked (row_of x, map is_some x.head.links) → link_at d x ≡ None → change_node p (without_link d) hs ≡ hs
  left_none d lt p x hs found m none =
      let out : (bit_at x.head.mask d == 1) ≡ false = in_queue d (x) lt m ∙ ap is_some none in
      let mask : without d x.head.mask ≡ x.head.mask = rw out refl in
      let links : slice_set x.head.links d None ≡ x.head.links = ap (slice_set x.head.links d) (sym none) ∙ set-get_or x.head.links d None in
      let is : x ≡ without_link d x = λ i. record x { head = record x.head { links = sym links i; mask = sym mask i } } in
      sym (set_change p (without_link d) x x hs found is) ∙ set_same p x hs found

  pub left_items : (d : ℕ) → d < 32 → (p : ℕ) (x : Node T) (s t : Links T) (r : Bool) → find_node p s.nodes.items ≡ Some x → IsMarked (row_of x, map is_some x.head.links) → r ≡ is_some (link_at d x)
      → items_at t.nodes.items ≡ cond r (items_at (change_node p (without_link d) s.nodes.items)) (items_at s.nodes.items) → items_at t.nodes.items ≡ items_at (change_node p (without_link d) s.nodes.items)
  left_items d lt p x s t r found m stood items = (elim (link_at d x) as (λ o. link_at d x ≡ o → items_at t.nodes.items ≡ items_at (change_node p (without_link d) s.nodes.items)) [
    | None ↦ λ k.
        let not : r ≡ false = stood ∙ ap is_some k in
        subst (λ b. items_at t.nodes.items ≡ cond b (items_at (change_node p (without_link d) s.nodes.items)) (items_at s.nodes.items)) not items ∙ sym (ap items_at (left_none d lt p x s.nodes.items found m k))
    | Some l ↦ λ k.
        let yet : r ≡ true = stood ∙ ap is_some k in
        subst (λ b. items_at t.nodes.items ≡ cond b (items_at (change_node p (without_link d) s.nodes.items)) (items_at s.nodes.items)) yet items
  ]) refl

  pub left_linked : (d : ℕ) (s t : Links T) → IsWhole s → IsLinked d t → ((e : ℕ) → e ≢ d → IsSameChain e s t) → (e : ℕ) → e < 32 → IsLinked e t
  left_linked d s t w l others e lt = (elim (e == d) as (λ b. (e == d) ≡ b → IsLinked e t) [
    | true ↦ λ q. subst (λ k. IsLinked k t) (sym (same e d q)) l
    | false ↦ λ q. same_linked e s t (others e (differ e d q)) (w.linked e lt)
  ]) refl

  -- a node that leaves a chain stays where it is
  pub rise_left : (d p : ℕ) (x : Node T) (hs : List (Node T)) → NodesRise hs → IsHeld p hs → find_node p hs ≡ Some x → NodesRise (set_node p (without_link d x) hs)
  rise_left d p x hs rise held found =
      let on = found_at p hs rise held in
      let change : Row T → Row T = λ row. record row { mask = without d row.mask } in
      let rows : rows_of (set_node p (without_link d x) hs) ≡ changed_at p change (rows_of hs) = ap rows_of (set_change p (without_link d) x (without_link d x) hs found refl) ∙ on.changed_is (without_link d) change (λ y. refl) in
      rw (rows, numbers-changed_at p change (λ row. refl) (rows_of hs)) rise

  -- a node is gone
  pub rise_dropped : (n : ℕ) (hs : List (Node T)) → NodesRise hs → Found n hs → NodesRise (drop_node n hs)
  rise_dropped n hs rise on = rw on.removed_is (NumbersRise-removed n (rows_of hs) rise)

  -- the state s, and the state m without the node x, which stands at i
  module _ (s m : Links T) (i : ℕ) (x : Node T) (w : IsWhole s) (inside : i < length s.nodes.items) (there : x ≡ slice_index_or s.nodes.items i x)
      (gone : m.nodes.items ≡ remove s.nodes.items i) (heads : m.heads ≡ s.heads) (tails : m.tails ≡ s.tails) where
    stands_here : IsHeld x.head.number s.nodes.items × (i ≡ index_in x.head.number s.nodes.items)
    stands_here = stands_there x.head.number i x s.nodes.items w.rise inside there refl

    found : find_node x.head.number s.nodes.items ≡ Some x
    found =
        let held = stands_here.0 in
        held.1 ∙ ap Some (sym (there ∙ ap (λ k. slice_index_or s.nodes.items k x) stands_here.1 ∙ node_there x.head.number held.0 x s.nodes.items held.1))

    dropped : m.nodes.items ≡ drop_node x.head.number s.nodes.items
    dropped = gone ∙ ap (remove s.nodes.items) stands_here.1 ∙ dropped_there x.head.number x s.nodes.items found

    pub rise_taken : NodesRise m.nodes.items
    rise_taken = subst NodesRise (sym dropped) (rise_dropped x.head.number s.nodes.items w.rise (found_at x.head.number s.nodes.items w.rise stands_here.0))

    pub open_taken : (d : ℕ) → d < 32 → IsOpen d m (link_at d x)
    open_taken d lt = opened d x.head.number x s m (apart_of s.nodes.items w.rise) (w.linked d lt) found dropped heads tails

    pub whole_taken : (t : Links T) → items_at t.nodes.items ≡ items_at m.nodes.items → ((d : ℕ) → d < 32 → IsLinked d t) → IsWhole t
    whole_taken t items linked = whole_from m.nodes.items t items rise_taken (subst (λ hs. AreMarked (items_at hs)) (sym dropped) (marked_dropped x.head.number s.nodes.items w.marked)) linked

  entries_push : (d : ℕ) (hs : List (Node T)) (h : Node T) → entries d (hs ++ h ∷ []) ≡ entries d hs ++ entry_of h.head.number (link_at d h) []
  entries_push d [] h = refl
  entries_push d (k ∷ ks) h = ap (entry_of k.head.number (link_at d k)) (entries_push d ks h) ∙ past (link_at d k)
    where
      past : (o : Option Link) → entry_of k.head.number o (entries d ks ++ entry_of h.head.number (link_at d h) []) ≡ entry_of k.head.number o (entries d ks) ++ entry_of h.head.number (link_at d h) []
      past None = refl
      past (Some l) = refl

  -- the state s, and the state m with one more node, whose links know the ends of the chains
  module _ (s m : Links T) (w : IsWhole s) (number mask : ℕ) (x : Node T) (row : (x.head.number ≡ number) × (x.head.mask ≡ mask)) (held : m.nodes.items ≡ s.nodes.items ++ x ∷ []) (heads : m.heads ≡ s.heads) (tails : m.tails ≡ s.tails)
      (below : All (λ row. row.number < number) (rows_of s.nodes.items)) (links : (d : ℕ) → d < 32 → link_at d x ≡ new_link (stands d mask) (tail_at d s)) where
    abbrev longer : List (Node T)
    longer = s.nodes.items ++ x ∷ []

    rows_longer : rows_of longer ≡ rows_of s.nodes.items ++ row_of x ∷ []
    rows_longer = map-append row_of s.nodes.items (x ∷ [])

    rise_longer : NodesRise longer
    rise_longer = rw rows_longer (NumbersRise-push (rows_of s.nodes.items) (row_of x) w.rise (subst (λ k. All (λ row. row.number < k) (rows_of s.nodes.items)) (sym row.0) below))

    pub rise_pushed : NodesRise m.nodes.items
    rise_pushed = subst NodesRise (sym held) rise_longer

    in_now : (d : ℕ) → d < 32 → (y : Bool) → stands d mask ≡ y → entries d m.nodes.items ≡ entries d s.nodes.items ++ entry_of number (new_link y (tail_at d s)) []
    in_now d lt y e = ap (entries d) held ∙ entries_push d s.nodes.items x ∙ (λ i. entries d s.nodes.items ++ entry_of (row.0 i) ((links d lt ∙ ap (λ b. new_link b (tail_at d s)) e) i) [])

    pub hangs_pushed : (d : ℕ) → d < 32 → stands d mask ≡ true → LacksTail d m number
    hangs_pushed d lt e =
        let k = w.linked d lt in
        record {
          front = members d s.nodes.items;
          linked = in_now d lt true e ∙ (λ i. k.0 i ++ (number, link (k.2 i) None) ∷ []);
          head = ap (λ l. slice_index_or l d None) heads ∙ k.1;
          tail = ap (λ l. slice_index_or l d None) tails ∙ k.2;
        }

    pub linked_pushed : (d : ℕ) → d < 32 → stands d mask ≡ false → IsLinked d m
    linked_pushed d lt e =
        let k = w.linked d lt in
        let same : entries d m.nodes.items ≡ entries d s.nodes.items = in_now d lt false e ∙ Rattle.std.proofs.Common.append-nil (entries d s.nodes.items) in
        (same ∙ k.0 ∙ ap (λ es. chain None (keys es) None) (sym same), ap (λ l. slice_index_or l d None) heads ∙ k.1 ∙ ap (λ es. first_or None (keys es)) (sym same), ap (λ l. slice_index_or l d None) tails ∙ k.2 ∙ ap (λ es. last_or None (keys es)) (sym same))

    pub rows_pushed : (t : Links T) → items_at t.nodes.items ≡ items_at m.nodes.items → rows_of t.nodes.items ≡ rows_of s.nodes.items ++ record { number = number; mask = mask; item = x.item } ∷ []
    rows_pushed t items = rows_like longer t.nodes.items (items ∙ ap items_at held) ∙ rows_longer ∙ (λ i. rows_of s.nodes.items ++ record { number = row.0 i; mask = row.1 i; item = x.item } ∷ [])

    pub whole_pushed : (t : Links T) → mask < 2 ^ 32 → items_at t.nodes.items ≡ items_at m.nodes.items → ((d : ℕ) → d < 32 → IsLinked d t) → IsWhole t
    whole_pushed t fits items linked =
        let marked : IsMarked (row_of x, map is_some x.head.links) =
        subst (λ k. (k < 2 ^ 32) × ((d : ℕ) → d < 32 → slice_index_or (map is_some x.head.links) d false ≡ stands d k)) (sym row.1)
        (fits, λ d lt. is_some_at x.head.links d ∙ ap is_some (links d lt) ∙ is_new (stands d mask) (tail_at d s)) in
        whole_from longer t (items ∙ ap items_at held) rise_longer
        (subst AreMarked (sym (map-append (λ (h : Node T). (row_of h, map is_some h.head.links)) s.nodes.items (x ∷ [])))
        (marked_push (items_at s.nodes.items) (row_of x, map is_some x.head.links) w.marked marked))
        linked
