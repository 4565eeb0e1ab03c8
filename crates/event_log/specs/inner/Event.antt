-- What proofs use beside the page Event.
use Rattle.std.specs.Prelude.{Result, Ok, Err}

abbrev pub result_map_err : {T E F : Type 0} → (E → F) → Result T E → Result T F
result_map_err f (Ok x) = Ok x
result_map_err f (Err e) = Err (f e)
