-- A message as a text file has it.
use Rattle.std.specs.Prelude.{◌==◌, ℕ, Bool, if◌then◌else◌, List, [], ◌∷◌, ◌++◌}

-- a byte of the message, by whether it follows a CR: an LF is a CR, but for one that follows a CR, which is nothing
abbrev pub ended : Bool → ℕ → List ℕ
ended after_return b = if b == 10 then (if after_return then [] else 13 ∷ []) else b ∷ []

-- the message that a text has, by whether the text follows a CR
abbrev pub segments : Bool → List ℕ → List ℕ
segments after_return [] = []
segments after_return (b ∷ bs) = ended after_return b ++ segments (b == 13) bs
