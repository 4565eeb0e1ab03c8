-- A run so far: what was booked, and what every connection read, was answered and was sent.
use Rattle.std.specs.Prelude.{ℕ, Bool, false, ◌==◌, if◌then◌else◌, List, [], drop, map, slice_index_or, Option, None, Some}
use Rattle.std.specs.List.{filter_map}
use Rattle.event_log.specs.declared.entry.Entry.{Entry}
use Rattle.event_log.specs.declared.entry.Entry.TheVariants.{Arrival, Take, Settle, Cancel, Deploy}
use Rattle.event_log.specs.History.{History, Snapshot, begun}
use Rattle.conn_core.specs.Messages.{BookedMessage, booked}
use Rattle.conn_core.specs.Replies.{Answer}

-- a connection: its channel, all bytes received, the messages that were answered, all bytes that were sent, and whether
-- it has ended
pub record Connection : Type 0 where
  pub channel : ℕ
  pub stream : List ℕ
  pub answers : List Answer
  pub output : List ℕ
  pub ended : Bool

-- What was booked, and the connections; a connection's number is its index. `folded` is how many of the answers of
-- each were given before the history was last folded; none, where it never was.
pub record Run : Type 0 where
  pub history : History
  pub connections : List Connection
  pub folded : List ℕ

-- a connection on which nothing was received yet
abbrev pub silent : ℕ → Connection
silent channel = record { channel = channel; stream = []; answers = []; output = []; ended = false }

-- the run of no step from an opening on, with a connection on each of these channels
abbrev pub started : Snapshot → List ℕ → Run
started opening channels = record { history = begun opening; connections = map silent channels; folded = map (λ _. 0) channels }

-- what an entry books for a connection, if it is an arrival there
abbrev pub arrival_on : ℕ → Entry → Option BookedMessage
arrival_on conn (Arrival came channel raw told) =
    if came == conn then Some (record { conn = came; channel = channel; raw = raw; told = told }) else None
arrival_on conn (Take ticket now) = None
arrival_on conn (Settle outcome ticket now state) = None
arrival_on conn (Cancel number among mask) = None
arrival_on conn (Deploy plan) = None

-- the arrivals of a connection, in the order in which they were booked
abbrev pub arrivals_on : ℕ → History → List BookedMessage
arrivals_on conn h = filter_map (arrival_on conn) h.entries

-- how many of the answers of a connection were given before the history was last folded
abbrev pub folded_at : Run → ℕ → ℕ
folded_at r conn = slice_index_or r.folded conn 0

-- what the answers of a connection book, but for the first few of them, as many as are given
abbrev pub booked_since : ℕ → ℕ → Connection → List BookedMessage
booked_since n conn c = booked conn c.channel (drop n c.answers)
