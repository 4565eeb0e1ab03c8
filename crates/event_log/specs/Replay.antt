-- The sequential engine, run over the events of a history.
use Rattle.std.specs.Prelude.{map}
use Rattle.event_log.specs.History.{History, begun}
use Rattle.event_log.specs.Event.{event_of, run}

-- the history that the sequential engine gives of the same events, from the opening on
abbrev pub replay : History → History
replay h = run (begun h.opening) (map event_of h.entries)
