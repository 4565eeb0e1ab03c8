-- What proofs use beside the page Rows.
use Rattle.std.specs.Prelude.{ℕ, ◌-◌, ◌^◌, Bool, ◌==◌, not, ◌&&◌, if◌then◌else◌, List, Option, filter, find, map}
use Rattle.std.specs.List.{list_any}
use Rattle.std.specs.List.Sorted.{IsStrictlyIncreasing}
use Rattle.std.specs.Option.{option_map}
use Rattle.std.specs.Int.{bit_at}
use Rattle.row_store.specs.declared.Row.{Row}
use Rattle.row_store.specs.Rows.{row_numbers, is_row, is_in_queue}

-- the numbers rise, so that each number has one row
abbrev pub NumbersRise : {T : Type 0} → List (Row T) → Type 0
NumbersRise rows = IsStrictlyIncreasing (row_numbers rows)

-- the first number in queue d
abbrev pub front_of : {T : Type 0} → ℕ → List (Row T) → Option ℕ
front_of d rows = option_map (λ row. row.number) (find (is_in_queue d) rows)

-- whether the row of that number is in queue d
abbrev pub is_linked : {T : Type 0} → ℕ → ℕ → List (Row T) → Bool
is_linked number d rows = list_any (λ row. is_row number row && is_in_queue d row) rows

-- the rows, that of one number changed
abbrev pub changed_at : {T : Type 0} → ℕ → (Row T → Row T) → List (Row T) → List (Row T)
changed_at number change rows = map (λ row. if is_row number row then change row else row) rows

-- a mask without d
abbrev pub without : ℕ → ℕ → ℕ
without d mask = if bit_at mask d == 1 then mask - 2 ^ d else mask

-- the rows, that number taken out of queue d
abbrev pub unlinked : {T : Type 0} → ℕ → ℕ → List (Row T) → List (Row T)
unlinked number d rows = changed_at number (λ row. record row { mask = without d row.mask }) rows

-- the rows, another item at that number
abbrev pub with_item : {T : Type 0} → ℕ → T → List (Row T) → List (Row T)
with_item number item rows = changed_at number (λ row. record row { item = item }) rows

-- the rows without that number
abbrev pub removed : {T : Type 0} → ℕ → List (Row T) → List (Row T)
removed number rows = filter (λ row. not (is_row number row)) rows
