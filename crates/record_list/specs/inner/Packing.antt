-- How a node's links and its row's mask are kept.
use Rattle.std.specs.Prelude.{ℕ, Bool, true, false, ◌-◌, ◌==◌, nat_lt, if◌then◌else◌, List, [], ◌∷◌, map, slice_index_or}
use Rattle.std.specs.List.{range_with_len}
use Rattle.std.specs.declared.option.Option.{Option}
use Rattle.std.specs.declared.option.Option.TheVariants.{None, Some}
use Rattle.row_store.specs.inner.Rows.{without}
use Rattle.record_list.specs.declared.row_head.Link.{Link}
use Rattle.record_list.specs.declared.row_head.LinkKind.{LinkKind}
use Rattle.record_list.specs.declared.row_head.LinkKind.TheVariants.{Absent, Alone, First, Middle, Last}
use Rattle.record_list.specs.declared.row_head.Neighbours.{Neighbours}

-- the link of a node in a chain, by its seat there: a neighbour that it hasn't counts for nothing
abbrev pub link_of : LinkKind → Neighbours → Option Link
link_of Absent ends = None
link_of Alone ends = Some (record { prev = None; next = None })
link_of First ends = Some (record { prev = None; next = Some ends.next })
link_of Middle ends = Some (record { prev = Some ends.prev; next = Some ends.next })
link_of Last ends = Some (record { prev = Some ends.prev; next = None })

-- whether that is a link at all
abbrev pub is_seated : LinkKind → Bool
is_seated Absent = false
is_seated Alone = true
is_seated First = true
is_seated Middle = true
is_seated Last = true

-- the mask of a row that stays in the queue, or leaves it
abbrev pub mask_after : ℕ → Bool → ℕ → ℕ
mask_after d stays mask = if stays then mask else without d mask

abbrev pub links_of : List LinkKind → List Neighbours → List (Option Link)
links_of [] es = []
links_of (s ∷ ss) [] = []
links_of (s ∷ ss) (e ∷ es) = link_of s e ∷ links_of ss es

-- the slot of queue d among all queues but one
abbrev pub slot_of : ℕ → ℕ → ℕ
slot_of queue d = if nat_lt d queue then d else d - 1

-- the link in the chain d: in the row's first queue, or in one of the others
abbrev pub link_in : ℕ → Option Link → List (Option Link) → ℕ → Option Link
link_in queue first others d = if d == queue then first else slice_index_or others (slot_of queue d) None

-- the links in the 32 chains
abbrev pub table_of : ℕ → Option Link → List (Option Link) → List (Option Link)
table_of queue first others = map (link_in queue first others) (range_with_len 0 32)
