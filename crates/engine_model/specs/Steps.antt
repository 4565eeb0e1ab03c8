-- Which run follows from which by a step.
use Rattle.std.specs.Prelude.{◌≡◌, ◌<◌, ◌≤◌, ◌⊎◌, ◌+◌, ℕ, Bool, true, false, List, [], ◌∷◌, ◌++◌, length, map, set, slice_get, Option, None, Some, Result, Ok, Err, ⊤}
use Rattle.conn_core.specs.declared.booking.Unbooked.{Unbooked}
use Rattle.conn_core.specs.declared.booking.Unbooked.TheVariants.{Refused, Repeat}
use Rattle.book_core.specs.declared.receipt.NotBooked.TheVariants.{NoMemory, Full, PlanChanged}
use Rattle.event_log.specs.declared.entry.Entry.TheVariants.{Arrival}
use Rattle.event_log.specs.declared.entry.Told.{Told}
use Rattle.event_log.specs.Event.{IsPossible, Event, arrive, cancel, deploy, next, settle, take}
use Rattle.event_log.specs.Folding.{prune_answer, pruned}
use Rattle.event_log.specs.History.{History, followed_by}
use Rattle.event_log.specs.Legal.{MayFollow}
use Rattle.event_log.specs.Room.{is_full}
use Rattle.mllp_frame.specs.Framing.{blocks}
use Rattle.conn_core.specs.Messages.{messages}
use Rattle.conn_core.specs.Replies.{Answer, Due, dues, numbered}
use Rattle.engine_model.specs.Run.{Connection, Run}
use Rattle.engine_model.specs.Turn.{Turn, chunk, event, prune}

-- the most frame events of a connection: having had that many it ends
unfoldable pub frame_events_max : ℕ
frame_events_max = 1_000_000_000

-- What may become of a message that arrives over a connection on a channel: it is booked with the sequential engine's
-- reply; it is refused where there is no room, also one that repeats a message; or, only where there is room, it is refused
-- for lack of memory. It was judged by the plan in force.
abbrev pub IsAnswered : ℕ → ℕ → History → List ℕ → Result Told Unbooked → Type 0
IsAnswered conn channel h raw (Ok told) = MayFollow h (Arrival conn channel raw told)
IsAnswered conn channel h raw (Err (Refused Full)) = is_full h channel raw ≡ true
IsAnswered conn channel h raw (Err (Refused NoMemory)) = is_full h channel raw ≡ false
IsAnswered conn channel h raw (Err (Refused PlanChanged)) = ⊥
IsAnswered conn channel h raw (Err (Repeat place)) = ⊥

-- the history after a message with this outcome: with its arrival, if it was booked
abbrev pub history_with : ℕ → ℕ → History → List ℕ → Result Told Unbooked → History
history_with conn channel h raw (Ok told) = followed_by h (Arrival conn channel raw told)
history_with conn channel h raw (Err unbooked) = h

abbrev pub after_answer : ℕ → ℕ → History → Answer → History
after_answer conn channel h a = history_with conn channel h a.raw a.outcome

-- the history after these answers, one after the other
abbrev pub after_answers : ℕ → ℕ → History → List Answer → History
after_answers conn channel h [] = h
after_answers conn channel h (a ∷ answers) = after_answers conn channel (after_answer conn channel h a) answers

-- messages that come one after the other on a connection at a moment, each with what may become of it there
abbrev pub AreAnswered : ℕ → ℕ → ℕ → History → List Answer → Type 0
AreAnswered conn channel now h [] = ⊤
AreAnswered conn channel now h (a ∷ answers) =
    IsAnswered conn channel h a.raw a.outcome × (a.moment ≡ now) × AreAnswered conn channel now (after_answer conn channel h a) answers

-- A prefix of the replies to these answers, numbered from here on: whole acknowledgments, and all but some of the last
-- message's.
pub record RepliesFront (conn first : ℕ) (answers : List Answer) (text : List ℕ) : Type 0 where
  pub replied : List Answer
  pub last : List Answer
  pub all : answers ≡ replied ++ last
  pub one : length last ≤ 1
  pub sent : List Due
  pub unsent : List Due
  pub due : dues last ≡ sent ++ unsent
  pub text_is : text ≡ numbered conn first (dues replied ++ sent)

-- A connection reads a piece to its end: each message that the longer stream has more is answered, in order, and sent
-- its acknowledgments.
pub record ReadsOn (conn : ℕ) (bytes : List ℕ) (now : ℕ) (h h' : History) (c c' : Connection) : Type 0 where
  pub new : List Answer
  pub answered : AreAnswered conn c.channel now h new
  pub booked : h' ≡ after_answers conn c.channel h new
  pub channel : c'.channel ≡ c.channel
  pub stream : c'.stream ≡ c.stream ++ bytes
  pub answers : c'.answers ≡ c.answers ++ new
  pub each_once : messages c'.stream ≡ messages c.stream ++ map (λ a. a.raw) new
  pub output : c'.output ≡ c.output ++ numbered conn (1 + length (dues c.answers)) (dues new)
  pub stays : c'.ended ≡ false
  pub within : length (blocks c'.stream) < frame_events_max

-- A connection ends within a piece: the first of those messages are answered, and all of their acknowledgments are sent
-- but some of the last message's. Where the stream itself couldn't grow, the piece isn't kept.
pub record EndsWithin (conn : ℕ) (bytes : List ℕ) (now : ℕ) (h h' : History) (c c' : Connection) : Type 0 where
  pub new : List Answer
  pub answered : AreAnswered conn c.channel now h new
  pub booked : h' ≡ after_answers conn c.channel h new
  pub channel : c'.channel ≡ c.channel
  pub kept : List ℕ
  pub lost : List ℕ
  pub piece : bytes ≡ kept ++ lost
  pub stream : c'.stream ≡ c.stream ++ kept
  pub answers : c'.answers ≡ c.answers ++ new
  pub unanswered : List (List ℕ)
  pub in_order : messages c'.stream ≡ messages c.stream ++ (map (λ a. a.raw) new ++ unanswered)
  pub added : List ℕ
  pub output : c'.output ≡ c.output ++ added
  pub replies : RepliesFront conn (1 + length (dues c.answers)) new added
  pub stops : c'.ended ≡ true

-- A piece that is received on an open connection changes that connection and what is booked, and nothing else.
pub record Hears (conn : ℕ) (bytes : List ℕ) (now : ℕ) (r r' : Run) (c : Connection) : Type 0 where
  pub to : Connection
  pub only : r'.connections ≡ set r.connections conn to
  pub stays : r'.folded ≡ r.folded
  pub does : ReadsOn conn bytes now r.history r'.history c to ⊎ EndsWithin conn bytes now r.history r'.history c to

-- a connection that has ended hears nothing
abbrev pub HearsIf : Bool → ℕ → List ℕ → ℕ → Run → Run → Connection → Type 0
HearsIf true conn bytes now r r' c = r' ≡ r
HearsIf false conn bytes now r r' c = Hears conn bytes now r r' c

-- nor does a number that no connection has
abbrev pub HearsAt : Option Connection → ℕ → List ℕ → ℕ → Run → Run → Type 0
HearsAt None conn bytes now r r' = r' ≡ r
HearsAt (Some c) conn bytes now r r' = HearsIf c.ended conn bytes now r r' c

-- the run with this history
abbrev pub with_history : Run → History → Run
with_history r h = record r { history = h }

-- the run once its history is folded: all answers so far were given before
abbrev pub folded_run : ℕ → Run → Run
folded_run bound r = record {
  history = pruned bound r.history;
  connections = r.connections;
  folded = map (λ (c : Connection). length c.answers) r.connections;
}

-- whether an event is a step by itself: all are but arrivals, which are events of pieces
abbrev pub IsNoArrival : Event → Type 0
IsNoArrival (arrive conn channel raw) = ⊥
IsNoArrival (take d now) = ⊤
IsNoArrival (settle ticket outcome now) = ⊤
IsNoArrival (cancel number among) = ⊤
IsNoArrival (deploy plan) = ⊤

-- whether an event may be refused for lack of memory: a settlement needs none
abbrev pub NeedsMemory : Event → Type 0
NeedsMemory (arrive conn channel raw) = ⊤
NeedsMemory (take d now) = ⊤
NeedsMemory (settle ticket outcome now) = ⊥
NeedsMemory (cancel number among) = ⊤
NeedsMemory (deploy plan) = ⊤

-- An event changes what is booked as the sequential engine does, which books nothing where it refuses the event, or
-- changes nothing for lack of memory.
abbrev pub Happens : Event → Run → Run → Type 0
Happens e r r' = (IsPossible e × (r' ≡ with_history r (next r.history e))) ⊎ (NeedsMemory e × (r' ≡ r))

-- One step; a pruning too may be refused for lack of memory.
abbrev pub Steps : Turn → Run → Run → Type 0
Steps (chunk conn bytes now) r r' = HearsAt (slice_get r.connections conn) conn bytes now r r'
Steps (event e) r r' = IsNoArrival e × Happens e r r'
Steps (prune bound) r r' = ((prune_answer r.history bound ≡ None) × (r' ≡ folded_run bound r)) ⊎ (r' ≡ r)

-- step after step
abbrev pub Runs : List Turn → Run → Run → Type 0
Runs [] r r' = r' ≡ r
Runs (step ∷ steps) r r' = (between : Run) × Steps step r between × Runs steps between r'
