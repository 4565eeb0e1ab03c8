-- The framing of HL7's minimal lower layer protocol: what a whole byte string holds.
use Rattle.std.specs.Prelude.{◌≡◌, ℕ, Bool, false, ◌==◌, ◌||◌, ◌≤◌, nat_le, if◌then◌else◌, List, [], ◌∷◌, ◌++◌, length, drop, Option, Some, None, option_to_list, All}
use Rattle.std.specs.List.{before_first, position_or_len}
use Rattle.mllp_frame.specs.declared.Break.TheVariants.{NewStart, BadEnd, TooLong}
use Rattle.mllp_frame.specs.Event.{FramingEvent, block, broken}

-- the start block character, the end block character, and the carriage return that has to follow that one (MLLP Release 1, block format)
abbrev pub start_block : ℕ
start_block = 11

abbrev pub end_block : ℕ
end_block = 28

abbrev pub carriage_return : ℕ
carriage_return = 13

-- the most data bytes of a block: 1 MiB
abbrev pub data_max : ℕ
data_max = 1048576

-- whether a byte is one of the two that no data holds
abbrev pub is_framing : ℕ → Bool
is_framing b = b == start_block || b == end_block

-- data, which holds neither of the two
abbrev pub IsData : List ℕ → Type 0
IsData bytes = All (λ b. is_framing b ≡ false) bytes

-- a block on the wire: the start block character, the data, the end block character and the carriage return
abbrev pub block_bytes : List ℕ → List ℕ
block_bytes bytes = start_block ∷ bytes ++ end_block ∷ carriage_return ∷ []

-- the data that a string begins with: its longest prefix that holds neither of the two
abbrev pub data_of : List ℕ → List ℕ
data_of s = before_first is_framing s

-- what follows that data
abbrev pub rest_of : List ℕ → List ℕ
rest_of s = drop (position_or_len is_framing s) s

-- the event of a block that has both its end bytes
abbrev pub ended_block : List ℕ → FramingEvent
ended_block bytes = if nat_le (length bytes) data_max then block bytes else broken TooLong

-- what becomes of a block with this data, by the bytes after it; none where they do not decide it yet
abbrev pub decision : List ℕ → List ℕ → Option FramingEvent
decision bytes [] = None
decision bytes (b ∷ []) = if b == start_block then Some (broken NewStart) else None
decision bytes (b ∷ c ∷ rest) =
    if b == start_block then Some (broken NewStart)
    else if c == carriage_return then Some (ended_block bytes) else Some (broken BadEnd)

-- what becomes of the block that a start byte opens, by the bytes after that byte
abbrev pub block_outcome : List ℕ → Option FramingEvent
block_outcome s = decision (data_of s) (rest_of s)

-- The events of a byte string: each start byte opens a block, and the bytes after it decide what becomes of it.
-- The search for the next start byte goes on right behind the last one. That is the same as going on behind the block,
-- since data holds no start byte; `cutting_rules` says it so, one equation for each way in which a block goes on.
abbrev pub blocks : List ℕ → List FramingEvent
blocks [] = []
blocks (b ∷ s) = if b == start_block then option_to_list (block_outcome s) ++ blocks s else blocks s

-- what a block can hold: data within the limit
pub record IsBlockData (bytes : List ℕ) : Type 0 where
  pub plain : IsData bytes
  pub bounded : length bytes ≤ data_max
