-- What proofs know of the book at each entry of a log.
use Rattle.std.specs.Prelude.{◌≤◌}
use Rattle.event_log.specs.History.{History}
use Rattle.event_log.specs.inner.Legal.{IsSound}

-- a sound history that holds no more entries than a book may
pub record IsSoundBook (h : History) : Type 0 where
  pub sound : IsSound h
  pub few : h.opening.events_max ≤ 1000000
