-- What proofs use beside the page Run.
use Rattle.std.specs.Prelude.{ℕ, Bool, false, List, [], slice_get}
use Rattle.std.specs.Option.{option_map_or}
use Rattle.event_log.specs.inner.History.{blank}
use Rattle.plan_text.specs.Entries.{PlanEntry}
use Rattle.engine_model.specs.Run.{Run, started}

-- the same where nothing was booked before
abbrev pub opened : PlanEntry → ℕ → List ℕ → Run
opened plan events_max channels = started (blank plan events_max) channels

-- what a connection was sent; nothing where there is no connection of that number
abbrev pub output_of : Run → ℕ → List ℕ
output_of r conn = option_map_or (λ c. c.output) (slice_get r.connections conn) []

-- whether a connection has ended
abbrev pub ended_at : Run → ℕ → Bool
ended_at r conn = option_map_or (λ c. c.ended) (slice_get r.connections conn) false
