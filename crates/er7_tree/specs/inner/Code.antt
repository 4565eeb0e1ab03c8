-- The numbers of refusals.
use Rattle.std.specs.Prelude.{ℕ}
use Rattle.er7_tree.specs.declared.refusal.Refusal.{Refusal}
use Rattle.er7_tree.specs.declared.refusal.Refusal.TheVariants.{NoHeader, BadDelimiters, BadSegmentName, TooManySegments, BadPath, NoSuchSegment, NoMemory}

-- that names a refusal
abbrev pub code_of : Refusal → ℕ
code_of NoHeader = 1
code_of BadDelimiters = 2
code_of (BadSegmentName place) = 3
code_of TooManySegments = 4
code_of BadPath = 5
code_of NoSuchSegment = 6
code_of NoMemory = 7
