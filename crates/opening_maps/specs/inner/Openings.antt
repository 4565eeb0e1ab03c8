-- An opening with other numbers.
use Rattle.std.specs.Prelude.{ℕ}
use Rattle.event_log.specs.History.{Snapshot}

-- an opening with another bound of its entries
abbrev pub with_bound : ℕ → Snapshot → Snapshot
with_bound bound o = record o { events_max = bound }
