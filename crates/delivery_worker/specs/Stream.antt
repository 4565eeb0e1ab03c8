-- What is read of the stream that is received over a connection.
use Rattle.std.specs.Prelude.{◌≡◌, ℕ, List, ◌++◌}
use Rattle.mllp_frame.specs.Event.{FramingEvent}
use Rattle.mllp_frame.specs.Framing.{blocks}

-- The events are the first of those that the bytes hold.
abbrev pub IsFrontOf : List ℕ → List FramingEvent → Type 0
IsFrontOf received passed = (later : List FramingEvent) × (blocks received ≡ passed ++ later)
