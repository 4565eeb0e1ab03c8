-- What a contract sees of a store of linked rows.
use Rattle.std.specs.Prelude.{ℕ, List}
use Rattle.row_store.specs.declared.Row.{Row}

-- the rows in the order of their numbers, and how many nodes its calls have gone to
pub record LinkedRows (T : Type 0) : Type 0 where
  pub rows : List (Row T)
  pub visits : ℕ
