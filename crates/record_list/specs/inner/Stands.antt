-- Which chains a node is in, and when a store of linked rows is whole.
use Rattle.std.specs.Prelude.{◌≡◌, ℕ, ◌<◌, ◌^◌, ◌==◌, Bool, true, false, List, [], ◌∷◌, slice_index_or}
use Rattle.std.specs.Int.{bit_at}
use Rattle.std.specs.declared.option.Option.{Option}
use Rattle.std.specs.declared.option.Option.TheVariants.{None, Some}
use Rattle.row_store.specs.declared.Row.{Row}
use Rattle.record_list.specs.declared.row_head.Link.{Link}
use Rattle.record_list.specs.declared.links.Links.{Links}
use Rattle.row_store.specs.inner.Rows.{NumbersRise}
use Rattle.record_list.specs.inner.Chain.{link, items_at, rows_of}
use Rattle.record_list.specs.declared.row_head.Place.{Place}
use Rattle.record_list.specs.declared.links.Node.{Node}
use Rattle.record_list.specs.inner.Linked.{IsLinked}

-- whether a row with this mask is in the chain d
abbrev pub stands : ℕ → ℕ → Bool
stands d mask = bit_at mask d == 1

-- the link of a new last node, which each chain that it is in gives it
abbrev pub new_link : Bool → Option Place → Option Link
new_link true last = Some (link last None)
new_link false last = None

-- the masks have bits of queues alone, and each node has its links exactly in the chains that its row is in
abbrev pub AreMarked : {T : Type 0} → List (Row T × List Bool) → Type 0
AreMarked [] = Unit {0}
AreMarked (i ∷ is) = ((i.0.mask < 2 ^ 32) × ((d : ℕ) → d < 32 → slice_index_or i.1 d false ≡ stands d i.0.mask)) × AreMarked is

-- the nodes lie in the order of their numbers
abbrev pub NodesRise : {T : Type 0} → List (Node T) → Type 0
NodesRise hs = NumbersRise (rows_of hs)

-- the whole of a store of linked rows: the numbers rise, every chain is linked, and each node is in those that its row's mask says
pub record IsWhole {T : Type 0} (s : Links T) : Type 0 where
  pub rise : NodesRise s.nodes.items
  pub linked : (d : ℕ) → d < 32 → IsLinked d s
  pub marked : AreMarked (items_at s.nodes.items)
