-- A framer as a value.
use Rattle.std.specs.Prelude.{◌≡◌, ℕ, Bool, true, false, List, [], ◌++◌, drop}
use Rattle.mllp_frame.specs.Event.{FramingEvent}
use Rattle.mllp_frame.specs.Framing.{blocks}
use Rattle.mllp_frame.specs.inner.Framing.{open_end}

-- the events to come, the open end of the stream, and whether memory was refused
pub record Framed : Type 0 where
  pub to_come : List FramingEvent
  pub open_end : List ℕ
  pub failed : Bool

-- at the start of a stream
abbrev pub blank : Framed
blank = record { to_come = []; open_end = []; failed = false }

-- after a piece of the stream
abbrev pub fed : Framed → List ℕ → Framed
fed f piece = record { to_come = f.to_come ++ blocks (f.open_end ++ piece); open_end = open_end (f.open_end ++ piece); failed = f.failed }

-- after its first event was taken away
abbrev pub taken : Framed → Framed
taken f = record f { to_come = drop 1 f.to_come }

-- Of these events, the first ones were added.
pub record AddsFront (old new events : List FramingEvent) : Type 0 where
  pub added : List FramingEvent
  pub missed : List FramingEvent
  pub grows : new ≡ old ++ added
  pub front : events ≡ added ++ missed

-- After a piece that memory was refused for: the first of its events may have been added, and the stream is given up.
pub record GivesUp (old new : Framed) (piece : List ℕ) : Type 0 where
  pub front : AddsFront old.to_come new.to_come (blocks (old.open_end ++ piece))
  pub no_open_end : new.open_end ≡ []
  pub failed : new.failed ≡ true

-- Some events are the first of others.
pub record IsFront (some all : List FramingEvent) : Type 0 where
  pub rest : List FramingEvent
  pub whole : all ≡ some ++ rest
