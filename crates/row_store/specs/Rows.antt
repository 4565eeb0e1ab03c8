-- Rows in the order of their numbers, each with the set of queues that it is in, as a mask.
use Rattle.std.specs.Prelude.{ℕ, ◌-◌, Bool, ◌==◌, List, Option, filter, find, map}
use Rattle.std.specs.Option.{option_map}
use Rattle.std.specs.Int.{bit_at}
use Rattle.row_store.specs.declared.Row.{Row}

-- the numbers of the rows
abbrev pub row_numbers : {T : Type 0} → List (Row T) → List ℕ
row_numbers rows = map (λ row. row.number) rows

-- whether the row has this number
abbrev pub is_row : {T : Type 0} → ℕ → Row T → Bool
is_row number row = row.number == number

-- whether the row is in queue d
abbrev pub is_in_queue : {T : Type 0} → ℕ → Row T → Bool
is_in_queue d row = bit_at row.mask d == 1

-- the numbers in queue d, in the order of the rows
abbrev pub queue_of : {T : Type 0} → ℕ → List (Row T) → List ℕ
queue_of d rows = row_numbers (filter (is_in_queue d) rows)

-- the item of a row
abbrev pub item_at : {T : Type 0} → ℕ → List (Row T) → Option T
item_at number rows = option_map (λ row. row.item) (find (is_row number) rows)
