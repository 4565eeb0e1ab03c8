-- What proofs use beside the page Promise.
use Rattle.std.specs.Prelude.{◌≡◌, List, ◌++◌, ◌≢◌, ℕ, Err}
use Rattle.std.specs.List.{AllByRecursion}
use Rattle.book_core.specs.declared.receipt.NotBooked.TheVariants.{NoMemory}
use Rattle.conn_core.specs.declared.booking.Unbooked.TheVariants.{Refused}
use Rattle.conn_core.specs.Replies.{Answer}

-- a text is a prefix of another
pub record IsFrontOf (text whole : List ℕ) : Type 0 where
  pub rest : List ℕ
  pub goes_on : whole ≡ text ++ rest

-- no message was answered that memory was refused
abbrev pub NoneLacked : List Answer → Type 0
NoneLacked answers = AllByRecursion (λ a. a.outcome ≢ Err (Refused NoMemory)) answers
