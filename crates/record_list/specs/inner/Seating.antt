-- How what a node has beside its item is kept by its parts.
use Rattle.std.specs.Prelude.{ℕ, ◌^◌, if◌then◌else◌, List, []}
use Rattle.std.specs.Option.{is_some}
use Rattle.std.specs.declared.option.Option.{Option}
use Rattle.record_list.specs.declared.row_head.Neighbours.{Neighbours}
use Rattle.record_list.specs.declared.row_head.Link.{Link}
use Rattle.record_list.specs.declared.row_head.HeadParts.{HeadParts}
use Rattle.record_list.specs.declared.row_head.HeadParts.TheVariants.{OneQueue, Several}
use Rattle.record_list.specs.declared.row_head.QueueSeat.{QueueSeat}
use Rattle.record_list.specs.inner.Head.{Head}
use Rattle.record_list.specs.inner.Packing.{is_seated, link_of, mask_after, table_of}

-- the number of the row
abbrev pub number_of : HeadParts → ℕ
number_of (OneQueue first number ends) = number
number_of (Several first number block) = number

-- the first queue, and the seat there
abbrev pub queue_seat_of : HeadParts → QueueSeat
queue_seat_of (OneQueue first number ends) = first
queue_seat_of (Several first number block) = first

-- the ends in the first queue
abbrev pub queue_ends_of : HeadParts → Neighbours
queue_ends_of (OneQueue first number ends) = ends
queue_ends_of (Several first number block) = block.value.first

-- the links in other queues: a row that was pushed into one queue has none
abbrev pub others_of : HeadParts → List (Option Link)
others_of (OneQueue first number ends) = []
others_of (Several first number block) = block.value.others

-- the queues that the row is in
abbrev pub mask_of : HeadParts → ℕ
mask_of (OneQueue first number ends) = if is_seated first.seat then 2 ^ first.queue else 0
mask_of (Several first number block) = block.value.mask

-- the queues that the row is in once its first queue has this link
abbrev pub mask_with : Option Link → HeadParts → ℕ
mask_with link (OneQueue first number ends) = if is_some link then 2 ^ first.queue else 0
mask_with link (Several first number block) = mask_after first.queue (is_some link) block.value.mask

-- the links in the 32 chains
abbrev pub table_by : HeadParts → List (Option Link)
table_by parts =
    let first = queue_seat_of parts in
    table_of first.queue (link_of first.seat (queue_ends_of parts)) (others_of parts)

abbrev pub head_by : HeadParts → Head
head_by parts = record { number = number_of parts; mask = mask_of parts; links = table_by parts }
