-- The steps of a run.
use Rattle.std.specs.Prelude.{ℕ, List}
use Rattle.event_log.specs.Event.{Event}

-- A piece of a stream is received on a connection at a moment, an event other than an arrival happens, or the messages
-- numbered below a bound are forgotten. Arrivals are events of pieces alone.
pub data Turn : Type 0 where
  chunk : ℕ → List ℕ → ℕ → Turn
  event : Event → Turn
  prune : ℕ → Turn
