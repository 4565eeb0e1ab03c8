-- Three rows: 3 stands in the queues 0 and 31, 5 in 31, and 9 in none.
use Rattle.std.proofs.Common.{◌≡◌, ℕ, false, List, [], ◌∷◌, None, Some, refl}
use Rattle.row_store.specs.declared.Row.{Row}
use Rattle.row_store.specs.Rows.{queue_of, item_at}
use Rattle.row_store.specs.inner.Rows.{front_of, with_item, is_linked, unlinked, removed}

abbrev three_rows : List (Row ℕ)
three_rows = record { number = 3; item = 30; mask = 2147483649 } ∷ (record { number = 5; item = 50; mask = 2147483648 } ∷ (record { number = 9; item = 90; mask = 0 } ∷ []))

-- the queues, in the order of the rows
queue_0 : queue_of 0 three_rows ≡ 3 ∷ []
queue_0 = refl

queue_31 : queue_of 31 three_rows ≡ 3 ∷ 5 ∷ []
queue_31 = refl

queue_32 : front_of 32 three_rows ≡ None
queue_32 = refl

-- a row that leaves queue 31 stays in queue 0
left_31 : queue_of 31 (unlinked 3 31 three_rows) ≡ 5 ∷ []
left_31 = refl

kept_0 : queue_of 0 (unlinked 3 31 three_rows) ≡ 3 ∷ []
kept_0 = refl

not_there : is_linked 9 31 three_rows ≡ false
not_there = refl

-- another item, and a row that is gone
changed_item : item_at 5 (with_item 5 55 three_rows) ≡ Some 55
changed_item = refl

other_item : item_at 3 (with_item 5 55 three_rows) ≡ Some 30
other_item = refl

gone : queue_of 31 (removed 3 three_rows) ≡ 5 ∷ []
gone = refl
