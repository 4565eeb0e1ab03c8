-- A run of calls of a framer.
use Rattle.std.specs.Prelude.{ℕ, List, [], ◌∷◌, ◌++◌, take}
use Rattle.mllp_frame.specs.Event.{FramingEvent}
use Rattle.mllp_frame.specs.inner.Framed.{Framed, fed, taken}

-- a piece is fed, or the next event is taken
pub data Call : Type 0 where
  feed : List ℕ → Call
  next : Call

-- all bytes that are fed
abbrev pub bytes_of : List Call → List ℕ
bytes_of [] = []
bytes_of (feed piece ∷ calls) = piece ++ bytes_of calls
bytes_of (next ∷ calls) = bytes_of calls

-- the events that are handed out
abbrev pub handed_out : Framed → List Call → List FramingEvent
handed_out f [] = []
handed_out f (feed piece ∷ calls) = handed_out (fed f piece) calls
handed_out f (next ∷ calls) = take 1 f.to_come ++ handed_out (taken f) calls

-- the framer after the calls
abbrev pub after_calls : Framed → List Call → Framed
after_calls f [] = f
after_calls f (feed piece ∷ calls) = after_calls (fed f piece) calls
after_calls f (next ∷ calls) = after_calls (taken f) calls
