-- What is read of the service's standard input, where the reader's bytes are known.
use Rattle.std.specs.Prelude.{◌≡◌, ◌≢◌, ◌<◌, ◌≤◌, ◌⊎◌, ℕ, List, [], ◌∷◌, ◌++◌, All, length, take, Option, zero, suc}
use Rattle.std.specs.Io.KnownBytes.{Consumes, IsAtEnd}
use Rattle.service_commands.specs.declared.input.Held.{Held}
use Rattle.service_commands.specs.declared.input.Held.TheVariants.{Within, Over}
use Rattle.service_commands.specs.declared.input.Input.{Input}
use Rattle.service_commands.specs.declared.input.Input.TheVariants.{Line, TooLong, End}

-- bytes without a line feed
abbrev pub IsText : List ℕ → Type 0
IsText bytes = All (λ b. b ≢ 10) bytes

-- what is held of the bytes of a line
abbrev pub Holds : Held → List ℕ → List ℕ → Type 0
Holds (Within len) buffer bytes = (len ≤ length buffer) × (bytes ≡ take len buffer)
Holds Over buffer bytes = length buffer < length bytes

-- what a line feed makes of a line
abbrev pub ended : Held → Input
ended (Within len) = Line len
ended Over = TooLong

-- what the reader's end makes of a line
abbrev pub at_end : Held → Input
at_end (Within zero) = End
at_end (Within (suc len)) = Line (suc len)
at_end Over = TooLong

-- a line was read: its bytes and the line feed, or its bytes up to the reader's end
abbrev pub HasRead : Option (List ℕ) → Option (List ℕ) → List ℕ → Type 0
HasRead old new bytes = IsText bytes × (Consumes old new (bytes ++ 10 ∷ []) ⊎ (Consumes old new bytes × IsAtEnd new))

-- a part of a line was read, and no line feed
pub record HasReadPart (old new : Option (List ℕ)) : Type 0 where
  pub bytes : List ℕ
  pub is_text : IsText bytes
  pub consumed : Consumes old new bytes

-- a line that is longer than the buffer was read
pub record HasReadLong (old new : Option (List ℕ)) (buffer : List ℕ) : Type 0 where
  pub bytes : List ℕ
  pub longer : length buffer < length bytes
  pub read : HasRead old new bytes

-- what was read, by what the reader had left before and after, and by the buffer
abbrev pub Reads : Option (List ℕ) → Option (List ℕ) → List ℕ → Input → Type 0
Reads old new buffer (Line len) = (len ≤ length buffer) × HasRead old new (take len buffer)
Reads old new buffer TooLong = HasReadLong old new buffer
Reads old new buffer End = Consumes old new [] × IsAtEnd new
