-- What the program's values mean.
use Rattle.std.specs.Prelude.{◌≡◌, ◌<◌, ◌≤◌, ◌*◌, ℕ, false, List, [], length, map}
use Rattle.std.specs.Arc.{arc_value}
use Rattle.std.specs.List.{AllByRecursion}
use Rattle.event_log.specs.History.{History, plan_in_force}
use Rattle.mllp_frame.specs.Framing.{blocks}
use Rattle.mllp_frame.specs.inner.Framing.{open_end}
use Rattle.engine_model.specs.inner.Handling.{IsCounted, said}
use Rattle.engine_model.specs.declared.connection.Connected.{Connected}
use Rattle.engine_model.specs.declared.step.Step.{Step}
use Rattle.engine_model.specs.declared.step.Step.TheVariants.{Chunk, Take, Settle, Cancel, CancelAmong, Deploy, Prune}
use Rattle.engine_model.specs.Run.{Connection, Run}
use Rattle.event_log.specs.Event.{cancel, deploy, settle, take}
use Rattle.engine_model.specs.Turn.{Turn, chunk, event, prune}
use Rattle.engine_model.specs.Promise.{RunInvariant}

abbrev pub connection_of : Connected → Connection
connection_of c = said c.channel c.stream.items c.ended c.words

-- between two pieces an open connection has handled all events of its stream, and sent all replies
pub record IsOpen (c : Connected) : Type 0 where
  pub stays : c.ended ≡ false
  pub none_left : c.framer.to_come ≡ []
  pub left_open : c.framer.open_end ≡ open_end c.stream.items
  pub counted : IsCounted c.words
  pub events : c.events ≡ length (blocks c.stream.items)
  pub few : c.events < 1_000_000_000
  pub made : c.words.replies.made ≤ 2 * c.events

-- a connection is on one of that many channels, and has ended or is open
pub record IsFit (channels : ℕ) (c : Connected) : Type 0 where
  pub known : c.channel < channels
  pub stands : c.ended ≡ false → IsOpen c

-- the turn of a run that a step is
abbrev pub turn_by : Step → Turn
turn_by (Chunk conn bytes now) = chunk conn bytes.items now
turn_by (Take d now) = event (take d now)
turn_by (Settle ticket outcome now) = event (settle ticket outcome now)
turn_by (Cancel number) = event (cancel number 4294967295)
turn_by (CancelAmong number among) = event (cancel number among)
turn_by (Deploy plan) = event (deploy (arc_value plan))
turn_by (Prune before) = prune before

-- the run of a world with this history and these connections
abbrev pub run_of : History → List Connected → Run
run_of h connections = record { history = h; connections = map connection_of connections; folded = map (λ (c : Connected). c.folded) connections }

-- a connection whose answers so far were given before the history was folded
abbrev pub with_folded : Connected → Connected
with_folded c = record c { folded = length c.words.answers.items }

-- A world: each connection is fit, and the run keeps its word.
pub record IsWorld (h : History) (connections : List Connected) : Type 0 where
  pub fit : AllByRecursion (IsFit (length (plan_in_force h).channels)) connections
  pub word : RunInvariant (run_of h connections)
