-- The steps by which a legal history comes.
use Rattle.std.specs.Prelude.{◌≡◌, ℕ, List}
use Rattle.event_log.specs.History.{History}
use Rattle.engine_model.specs.Run.{Run, started}
use Rattle.engine_model.specs.Turn.{Turn}
use Rattle.engine_model.specs.Steps.{Runs}

-- a run by these steps, from the opening of this history on, has this history
pub record IsRunOf (steps : List Turn) (h : History) (channels : List ℕ) : Type 0 where
  pub run : Run
  pub runs : Runs steps (started h.opening channels) run
  pub history : run.history ≡ h
