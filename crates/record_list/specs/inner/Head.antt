-- What contracts see of a row without its item.
use Rattle.std.specs.Prelude.{ℕ, List}
use Rattle.std.specs.declared.option.Option.{Option}
use Rattle.record_list.specs.declared.row_head.Link.{Link}

-- its number, the queues that it is in, and its link in each of them
pub record Head : Type 0 where
  pub number : ℕ
  pub mask : ℕ
  pub links : List (Option Link)
