-- The position of a framer in its stream.
use Rattle.std.specs.Prelude.{◌≡◌, ℕ, ◌+◌, ◌*◌, ◌≤◌, List, [], ◌++◌, length}
use Rattle.mllp_frame.specs.declared.stage.Stage.{Stage}
use Rattle.mllp_frame.specs.declared.stage.Stage.TheVariants.{Outside, Inside, Ended}
use Rattle.mllp_frame.specs.Event.{FramingEvent}
use Rattle.mllp_frame.specs.Framing.{blocks, IsData}
use Rattle.mllp_frame.specs.inner.Framing.{open_end, HasNoStart, least_too_long, begun_block, ending_block}

-- the open end of the stream
abbrev pub open_block : Stage → List ℕ
open_block Outside = []
open_block (Inside bytes) = begun_block bytes.items
open_block (Ended bytes) = ending_block bytes.items

-- data that is kept of an open block
pub record IsShortData (bytes : List ℕ) : Type 0 where
  pub plain : IsData bytes
  pub bounded : length bytes ≤ least_too_long

-- The data of the open block is short.
abbrev pub HoldsShortData : Stage → Type 0
HoldsShortData Outside = Unit {0}
HoldsShortData (Inside bytes) = IsShortData bytes.items
HoldsShortData (Ended bytes) = IsShortData bytes.items

-- what a step makes smaller: two for each byte that is left, and one for an end byte with nothing behind it yet
abbrev pub work : Stage → List ℕ → ℕ
work Outside rest = 2 * length rest
work (Inside bytes) rest = 2 * length rest
work (Ended bytes) rest = 2 * length rest + 1

-- From one string to another that is what is left of it: the events in between were added.
pub record Reads (old new : List FramingEvent) (before after : List ℕ) : Type 0 where
  pub added : List FramingEvent
  pub events : new ≡ old ++ added
  pub front : blocks before ≡ added ++ blocks after
  pub end : open_end before ≡ open_end after

-- No block is open, and what is left opens none.
pub record IsQuiet (begun left : List ℕ) : Type 0 where
  pub none_open : begun ≡ []
  pub no_start : HasNoStart left
