-- How reading and writing stop.
use Rattle.std.specs.Prelude.{◌≡◌, ℕ, List, ◌++◌, Option, ⊤}
use Rattle.std.specs.Io.KnownBytes.{Appends, IsAtEnd}
use Rattle.conn_worker.specs.Faults.{Rose}
use Rattle.conn_worker.specs.declared.report.ServeEnd.{ServeEnd}
use Rattle.conn_worker.specs.declared.report.ServeEnd.TheVariants.{End, ReadFault, WriteFault, TurnBound, NotPersisted}

-- what a reader shows where serving stops at it: what is left of it, and its faults before and after
abbrev pub StopsReading : ServeEnd → Option (List ℕ) → ℕ → ℕ → Type 0
StopsReading End left before after = IsAtEnd left
StopsReading ReadFault left before after = Rose before after
StopsReading TurnBound left before after = ⊤
StopsReading _ left before after = ⊥

-- what a writer shows where serving stops at it: its faults before and after
abbrev pub StopsWriting : ServeEnd → ℕ → ℕ → Type 0
StopsWriting WriteFault before after = Rose before after
StopsWriting TurnBound before after = ⊤
StopsWriting NotPersisted before after = ⊤
StopsWriting _ before after = ⊥

-- A prefix of a text was written.
pub record WritesFront (held holds : Option (List ℕ)) (text : List ℕ) : Type 0 where
  pub written : List ℕ
  pub unwritten : List ℕ
  pub whole : text ≡ written ++ unwritten
  pub wrote : Appends held holds written
