-- A history with room for more entries.
use Rattle.std.specs.Prelude.{ℕ}
use Rattle.event_log.specs.History.{History}

-- the history, and how many more entries can be pushed without memory
pub record Kept : Type 0 where
  pub history : History
  pub room : ℕ
