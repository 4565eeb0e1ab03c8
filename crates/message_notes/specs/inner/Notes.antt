-- Notes by the number of a message.
use Rattle.std.specs.Prelude.{ℕ, ◌-◌, nat_lt, if◌then◌else◌, List, Option, None, Some, slice_get, option_and_then}

-- the note about the message of a number, where the notes begin at the first number: none of a number below it
abbrev pub kept : {T : Type 0} → ℕ → List (Option T) → ℕ → Option T
kept first slots n = if nat_lt n first then None else option_and_then (λ slot. slot) (slice_get slots (n - first))
