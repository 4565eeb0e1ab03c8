-- What proofs use beside the page Refusing.
use Rattle.std.specs.Prelude.{ℕ}
use Rattle.book_core.specs.declared.receipt.NotBooked.{NotBooked}
use Rattle.book_core.specs.declared.receipt.NotBooked.TheVariants.{NoMemory, Full, PlanChanged}

-- the number of the refusal
abbrev pub not_booked_code : NotBooked → ℕ
not_booked_code NoMemory = 1
not_booked_code Full = 2
not_booked_code PlanChanged = 3
