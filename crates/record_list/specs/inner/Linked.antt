-- When the chains of a `Links` are whole.
use Rattle.std.specs.Prelude.{◌≡◌, ℕ, false, List, [], ◌∷◌, ◌++◌, map, slice_index_or, ◌==◌}
use Rattle.std.specs.declared.option.Option.{Option}
use Rattle.std.specs.declared.option.Option.TheVariants.{None, Some}
use Rattle.record_list.specs.declared.row_head.Place.{Place}
use Rattle.record_list.specs.declared.row_head.Link.{Link}
use Rattle.record_list.specs.declared.links.Node.{Node}
use Rattle.record_list.specs.declared.links.Links.{Links}
use Rattle.record_list.specs.inner.Chain.{link, first_or, last_or, chain, entries, members}

abbrev pub IsNotAmong : ℕ → List ℕ → Type 0
IsNotAmong p [] = Unit {0}
IsNotAmong p (q ∷ qs) = ((q == p) ≡ false) × IsNotAmong p qs

-- no number occurs twice
abbrev pub IsApart : List ℕ → Type 0
IsApart [] = Unit {0}
IsApart (p ∷ ps) = IsNotAmong p ps × IsApart ps

module _ {T : Type 0} where
  abbrev pub numbers_in : List (Node T) → List ℕ
  numbers_in = map (λ h. h.head.number)

  abbrev pub head_at : ℕ → Links T → Option Place
  head_at d s = slice_index_or s.heads d None

  abbrev pub tail_at : ℕ → Links T → Option Place
  tail_at d s = slice_index_or s.tails d None

  -- the chain d from end to end: its nodes are linked in the order of the rows
  abbrev pub IsLinked : ℕ → Links T → Type 0
  IsLinked d s =
      (entries d s.nodes.items ≡ chain None (members d s.nodes.items) None)
      × (head_at d s ≡ first_or None (members d s.nodes.items))
      × (tail_at d s ≡ last_or None (members d s.nodes.items))

  -- the chain d but for what the nodes before and after a gap say of each other
  pub record BrokenAt (d : ℕ) (s : Links T) (before after : Option Place) : Type 0 where
    pub front : List ℕ
    pub back : List ℕ
    pub on : Option Place
    pub from : Option Place
    pub linked : entries d s.nodes.items ≡ chain None front on ++ chain from back None
    pub last : before ≡ last_or None front
    pub first : after ≡ first_or None back
    pub head : head_at d s ≡ first_or (head_at d s) front
    pub tail : tail_at d s ≡ last_or (tail_at d s) back

  -- the chain d, in which a node that is gone had this link, or none
  abbrev pub IsOpen : ℕ → Links T → Option Link → Type 0
  IsOpen d s None = IsLinked d s
  IsOpen d s (Some l) = BrokenAt d s l.prev l.next

  -- the chain d is whole but for its last node, of the number p, which knows its predecessor and is not yet known to it
  pub record LacksTail (d : ℕ) (s : Links T) (p : ℕ) : Type 0 where
    pub front : List ℕ
    pub linked : entries d s.nodes.items ≡ chain None front None ++ (p, link (last_or None front) None) ∷ []
    pub head : head_at d s ≡ first_or None front
    pub tail : tail_at d s ≡ last_or None front

  -- nothing of the chain e changes
  pub record IsSameChain (e : ℕ) (s t : Links T) : Type 0 where
    pub entries_same : entries e t.nodes.items ≡ entries e s.nodes.items
    pub head_same : head_at e t ≡ head_at e s
    pub tail_same : tail_at e t ≡ tail_at e s
