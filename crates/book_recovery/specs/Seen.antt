-- What records say beside the history that they make.
use Rattle.std.specs.Prelude.{ℕ, ◌/◌, ℤ, pos, negsuc, max, List, map, Option, None, Some}
use Rattle.std.specs.List.{filter_map, fold, reduce}
use Rattle.event_records.specs.declared.record.Record.{Record}
use Rattle.event_records.specs.declared.record.Record.TheVariants.{Arrival, Take, Settle, Cancel, Deploy, Prune}

-- the number of the connection of an arrival
abbrev pub connection_of : Record → Option ℕ
connection_of (Arrival conn channel raw told) = Some conn
connection_of (Take destination now) = None
connection_of (Settle ticket outcome now) = None
connection_of (Cancel number among) = None
connection_of (Deploy document) = None
connection_of (Prune before) = None

-- the moment of a take or a settlement
abbrev pub moment_of : Record → Option ℕ
moment_of (Arrival conn channel raw told) = None
moment_of (Take destination now) = Some now
moment_of (Settle ticket outcome now) = Some now
moment_of (Cancel number among) = None
moment_of (Deploy document) = None
moment_of (Prune before) = None

-- the highest number of a connection, if a message arrived over one
abbrev pub last_connection : List Record → Option ℕ
last_connection rs = reduce max (filter_map connection_of rs)

-- the last moment of the takes and settlements, or 0 where there is none
abbrev pub last_moment : List Record → ℕ
last_moment rs = fold max 0 (filter_map moment_of rs)

-- the second of a moment in milliseconds, or 0 where it is before 1970
abbrev pub second_of : ℤ → ℕ
second_of (pos n) = n / 1000
second_of (negsuc n) = 0

-- the last second of moments in milliseconds, or 0 where there is none
abbrev pub last_second : List ℤ → ℕ
last_second ats = fold max 0 (map second_of ats)
