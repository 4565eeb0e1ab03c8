-- What proofs use beside the page Stream.
use Rattle.std.specs.Prelude.{◌≡◌, ℕ, List, [], ◌++◌, map, Option, None, Some}
use Rattle.std.specs.Io.KnownBytes.{Appends}
use Rattle.hl7_head.specs.Msa.{MsaFields}
use Rattle.mllp_frame.specs.Event.{FramingEvent}
use Rattle.mllp_frame.specs.inner.Framed.{Framed}
use Rattle.mllp_frame.specs.Framing.{blocks}
use Rattle.mllp_frame.specs.inner.Framing.{open_end}
use Rattle.delivery_worker.specs.Answers.{answer_in}
use Rattle.delivery_worker.specs.Stream.{IsFrontOf}

-- The framer was fed these bytes, and has handed out these events.
pub record Stands (received : List ℕ) (passed : List FramingEvent) (f : Framed) : Type 0 where
  pub events : blocks received ≡ passed ++ f.to_come
  pub left_open : f.open_end ≡ open_end received

-- what was received over a connection, by its framer, as long as it is open: where none is open, nothing yet
abbrev pub Before : Option Framed → List ℕ → List FramingEvent → Type 0
Before None received passed = (received ≡ []) × (passed ≡ [])
Before (Some f) received passed = Stands received passed f

-- the same afterwards, where it may have been lost
abbrev pub After : Option Framed → List ℕ → List FramingEvent → Type 0
After None received passed = IsFrontOf received passed
After (Some f) received passed = Stands received passed f

-- From one state of a connection to another these bytes were received, and these events read.
abbrev pub Goes : Option Framed → Option Framed → List ℕ → List FramingEvent → Type 0
Goes old new got read = (received : List ℕ) (passed : List FramingEvent) → Before old received passed → After new (received ++ got) (passed ++ read)

-- The answers to a message were read, the first of the events to come, and nothing of the stream is lost.
pub record ReadsOn (old new : Framed) (had has : List (Option MsaFields)) : Type 0 where
  pub read : List FramingEvent
  pub front : old.to_come ≡ read ++ new.to_come
  pub same_end : new.open_end ≡ old.open_end
  pub answers : has ≡ had ++ map answer_in read

-- They were read, and some of the stream may be lost.
pub record ReadsFront (old : Framed) (had has : List (Option MsaFields)) : Type 0 where
  pub read : List FramingEvent
  pub later : List FramingEvent
  pub front : old.to_come ≡ read ++ later
  pub answers : has ≡ had ++ map answer_in read

-- Answers were read as bytes were received, over a connection that is open afterwards or lost.
pub record Receives (old : Framed) (new : Option Framed) (log logs : Option (List ℕ)) (had has : List (Option MsaFields)) : Type 0 where
  pub read : List FramingEvent
  pub got : List ℕ
  pub answers : has ≡ had ++ map answer_in read
  pub logged : Appends log logs got
  pub goes : Goes (Some old) new got read
