-- A start puts its plan in force.
use Rattle.std.specs.Prelude.{◌≡◌, ◌≢◌, Option, None, Some}
use Rattle.plan_text.specs.Entries.{PlanEntry}
use Rattle.event_log.specs.History.{History, plan_in_force}
use Rattle.event_records.specs.declared.record.Record.{Record}
use Rattle.book_replay.specs.Replay.{IsBooked}

-- a plan is in force: it was before, and nothing changes; or it wasn't, and a record of its deployment is to be appended
abbrev pub IsAdopted : PlanEntry → History → History → Option Record → Type 0
IsAdopted plan old new None = (plan_in_force old ≡ plan) × (new ≡ old)
IsAdopted plan old new (Some r) = (plan_in_force old ≢ plan) × IsBooked old new r
