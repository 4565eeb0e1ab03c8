-- Chains of nodes: which link each node of a chain has.
use Rattle.std.specs.Prelude.{ℕ, Bool, cond, List, [], ◌∷◌, map, slice_index_or, slice_set, ◌==◌}
use Rattle.std.specs.declared.option.Option.{Option}
use Rattle.std.specs.declared.option.Option.TheVariants.{None, Some}
use Rattle.record_list.specs.declared.row_head.Place.{Place}
use Rattle.record_list.specs.declared.row_head.Link.{Link}
use Rattle.record_list.specs.declared.links.Node.{Node}
use Rattle.row_store.specs.declared.Row.{Row}
use Rattle.row_store.specs.inner.Rows.{without}
use Rattle.std.specs.Option.{is_some}

abbrev pub place : ℕ → Place
place p = record { number = p }

abbrev pub link : Option Place → Option Place → Link
link b a = record { prev = b; next = a }

-- the place of the first number, or a
abbrev pub first_or : Option Place → List ℕ → Option Place
first_or a [] = a
first_or a (p ∷ ps) = Some (place p)

-- the place of the last number, or b
abbrev pub last_or : Option Place → List ℕ → Option Place
last_or b [] = b
last_or b (p ∷ ps) = last_or (Some (place p)) ps

-- nodes of these numbers, linked one to the next, with b before the first and a after the last
abbrev pub chain : Option Place → List ℕ → Option Place → List (ℕ × Link)
chain b [] a = []
chain b (p ∷ ps) a = (p, link b (first_or a ps)) ∷ chain (Some (place p)) ps a

abbrev pub entry_of : ℕ → Option Link → List (ℕ × Link) → List (ℕ × Link)
entry_of p None es = es
entry_of p (Some l) es = (p, l) ∷ es

abbrev pub next_is : Option Place → Option Link → Option Link
next_is q None = None
next_is q (Some l) = Some (record l { next = q })

abbrev pub prev_is : Option Place → Option Link → Option Link
prev_is q None = None
prev_is q (Some l) = Some (record l { prev = q })

module _ {T : Type 0} where
  -- the node's link in the chain d, if it is in it
  abbrev pub link_at : ℕ → Node T → Option Link
  link_at d n = slice_index_or n.head.links d None

  -- the nodes of the chain d in the order of the rows, each with its link
  abbrev pub entries : ℕ → List (Node T) → List (ℕ × Link)
  entries d [] = []
  entries d (h ∷ hs) = entry_of h.head.number (link_at d h) (entries d hs)

  -- the numbers of the nodes of the chain d
  abbrev pub members : ℕ → List (Node T) → List ℕ
  members d hs = map (λ e. e.0) (entries d hs)

  -- the node with other links
  abbrev pub with_links : List (Option Link) → Node T → Node T
  with_links links n = record n { head = record n.head { links = links } }

  -- the node with another neighbour in the chain d, if it is in it
  abbrev pub with_next : ℕ → Option Place → Node T → Node T
  with_next d q n = with_links (slice_set n.head.links d (next_is q (link_at d n))) n

  abbrev pub with_prev : ℕ → Option Place → Node T → Node T
  with_prev d q n = with_links (slice_set n.head.links d (prev_is q (link_at d n))) n

  -- the node out of the chain d
  abbrev pub without_link : ℕ → Node T → Node T
  without_link d n = record n { head = record n.head { links = slice_set n.head.links d None; mask = without d n.head.mask } }

  -- the node of the number p is changed by f
  abbrev pub change_node : ℕ → (Node T → Node T) → List (Node T) → List (Node T)
  change_node p f [] = []
  change_node p f (h ∷ hs) = cond (h.head.number == p) (f h ∷ hs) (h ∷ change_node p f hs)

  abbrev pub change_at : Option Place → (Node T → Node T) → List (Node T) → List (Node T)
  change_at None f hs = hs
  change_at (Some at) f hs = change_node at.number f hs

  -- the row of a node
  abbrev pub row_of : Node T → Row T
  row_of n = record { number = n.head.number; mask = n.head.mask; item = n.item }

  -- the rows of the nodes, in their order
  abbrev pub rows_of : List (Node T) → List (Row T)
  rows_of = map row_of

  -- the rows of the nodes, and of each chain whether they have a link in it
  abbrev pub items_at : List (Node T) → List (Row T × List Bool)
  items_at hs = map (λ h. (row_of h, map is_some h.head.links)) hs

-- the ends of a chain, where none or one of the two neighbours is missing
abbrev pub end_after : Option Place → ℕ → Option Place → List (Option Place) → List (Option Place)
end_after None d q ends = slice_set ends d q
end_after (Some at) d q ends = ends
