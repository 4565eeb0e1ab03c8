-- What proofs use beside the page Framing.
use Rattle.std.specs.Prelude.{◌≢◌, ℕ, ◌+◌, ◌==◌, ◌&&◌, if◌then◌else◌, List, [], ◌∷◌, ◌++◌, take, is_none, All}
use Rattle.mllp_frame.specs.Event.{FramingEvent, block, broken}
use Rattle.mllp_frame.specs.Framing.{start_block, end_block, data_max, data_of, rest_of, block_outcome, IsBlockData}

-- the least length of data that is too long
unfoldable pub least_too_long : ℕ
least_too_long = data_max + 1

-- data up to the first byte past the limit, by which it is known to be too long
abbrev pub shortened : List ℕ → List ℕ
shortened bytes = take least_too_long bytes

-- what is kept of the bytes behind the start byte of an open block
abbrev pub unfinished : List ℕ → List ℕ
unfinished s = shortened (data_of s) ++ rest_of s

-- The open end of a byte string: the block that has begun and has neither ended nor broken, and else nothing. Its data
-- is kept up to the first byte past the limit.
abbrev pub open_end : List ℕ → List ℕ
open_end [] = []
open_end (b ∷ s) = if b == start_block && is_none (block_outcome s) then b ∷ unfinished s else open_end s

-- a block begun, with this data so far
abbrev pub begun_block : List ℕ → List ℕ
begun_block bytes = start_block ∷ bytes

-- the same behind its end byte
abbrev pub ending_block : List ℕ → List ℕ
ending_block bytes = start_block ∷ bytes ++ end_block ∷ []

-- bytes that open no block
abbrev pub HasNoStart : List ℕ → Type 0
HasNoStart bytes = All (λ b. b ≢ start_block) bytes

-- A block that was read holds what a block can hold.
abbrev pub HoldsData : FramingEvent → Type 0
HoldsData (block bytes) = IsBlockData bytes
HoldsData (broken cause) = Unit {0}
