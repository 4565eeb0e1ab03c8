-- What proofs use beside the page Shares.
use Rattle.std.specs.Prelude.{◌+◌}
use Rattle.book_lock.specs.Shares.{Made}

abbrev pub no_calls : Made
no_calls = record { takes = 0; settlements = 0 }

-- one more take
abbrev pub with_take : Made → Made
with_take m = record m { takes = m.takes + 1 }

-- one more settlement
abbrev pub with_settlement : Made → Made
with_settlement m = record m { settlements = m.settlements + 1 }
