-- What holds of every run, whatever the steps and their order.
use Rattle.std.specs.Prelude.{◌≡◌, ◌≤◌, Bool, true, false, List, [], ◌++◌, length, map, slice_get, Some, ℕ}
use Rattle.std.specs.Option.{option_map_or}
use Rattle.event_log.specs.Legal.{IsLegal}
use Rattle.conn_core.specs.Messages.{messages}
use Rattle.conn_core.specs.Replies.{Answer, replies}
use Rattle.engine_model.specs.Run.{Connection, Run, arrivals_on, booked_since, folded_at}
use Rattle.engine_model.specs.Steps.{RepliesFront}

-- some messages are the first of others
pub record AreFirst (some all : List (List ℕ)) : Type 0 where
  pub later : List (List ℕ)
  pub whole : all ≡ some ++ later

-- the messages of a connection's stream, in order and each once, are those that were answered; where it has ended, those
-- that were answered are the first of them
abbrev pub AreRead : Bool → List ℕ → List Answer → Type 0
AreRead false stream answers = messages stream ≡ map (λ a. a.raw) answers
AreRead true stream answers = AreFirst (map (λ a. a.raw) answers) (messages stream)

-- what a connection was sent are the replies to its answers; where it has ended, a prefix of them
abbrev pub AreWritten : Bool → ℕ → List Answer → List ℕ → Type 0
AreWritten false conn answers output = output ≡ replies conn answers
AreWritten true conn answers output = RepliesFront conn 1 answers output

-- What every run keeps, whatever the steps and their order.
pub record RunInvariant (r : Run) : Type 0 where
  -- what was booked is what the sequential engine books of the same events
  pub legal : IsLegal r.history
  -- every message of a connection is answered once and in order; of one that has ended the first ones
  pub read : (conn : ℕ) (c : Connection) → slice_get r.connections conn ≡ Some c → AreRead c.ended c.stream c.answers
  -- what it was sent are the replies to these answers; what one that has ended was sent are whole acknowledgments, the
  -- first of its replies
  pub written : (conn : ℕ) (c : Connection) → slice_get r.connections conn ≡ Some c → AreWritten c.ended conn c.answers c.output
  -- the booked ones of its answers since the history was last folded are its arrivals that the history holds, in order, with
  -- channel, bytes and answer: all of its answers, where it never was folded; a number that no connection
  -- has has none
  pub booked : (conn : ℕ) → arrivals_on conn r.history ≡ option_map_or (booked_since (folded_at r conn) conn) (slice_get r.connections conn) []
  pub before : (conn : ℕ) (c : Connection) → slice_get r.connections conn ≡ Some c → folded_at r conn ≤ length c.answers
