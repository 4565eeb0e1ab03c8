-- What handling the events of a piece does.
use Rattle.std.specs.Prelude.{◌≡◌, ◌⊎◌, ℕ, Bool, true, false, List, [], ◌∷◌, ◌++◌, length, map, Result}
use Rattle.conn_core.specs.declared.booking.Unbooked.{Unbooked}
use Rattle.event_log.specs.History.{History}
use Rattle.event_log.specs.declared.entry.Told.{Told}
use Rattle.mllp_frame.specs.Event.{FramingEvent}
use Rattle.mllp_frame.specs.Framing.{blocks}
use Rattle.conn_core.specs.Replies.{Answer, dues}
use Rattle.engine_model.specs.declared.connection.Answered.{Answered}
use Rattle.engine_model.specs.declared.connection.Transcript.{Transcript}
use Rattle.engine_model.specs.Run.{Connection}
use Rattle.engine_model.specs.Steps.{EndsWithin, IsAnswered, ReadsOn, history_with}
use Rattle.engine_model.specs.inner.Amid.{Amid}

abbrev pub answer_of : Answered → Answer
answer_of a = record { raw = a.raw; outcome = a.outcome; moment = a.moment }

abbrev pub answer_with : List ℕ → Result Told Unbooked → ℕ → Answer
answer_with raw outcome now = record { raw = raw; outcome = outcome; moment = now }

-- a message has this outcome, is booked so, and its answer is kept
pub record IsBooked (conn channel now : ℕ) (raw : List ℕ) (outcome : Result Told Unbooked) (h h' : History)
    (old new : List Answered) : Type 0 where
  pub may : IsAnswered conn channel h raw outcome
  pub booked : h' ≡ history_with conn channel h raw outcome
  pub kept : map answer_of new ≡ map answer_of old ++ answer_with raw outcome now ∷ []

-- the acknowledgments made are those that the answers are due
pub record IsCounted (w : Transcript) : Type 0 where
  pub made : w.replies.made ≡ length (dues (map answer_of w.answers.items))

-- a connection that has said this
abbrev pub said : ℕ → List ℕ → Bool → Transcript → Connection
said channel stream ended w = record {
  channel = channel;
  stream = stream;
  answers = map answer_of w.answers.items;
  output = w.replies.bytes;
  ended = ended;
}

-- These events were handled.
abbrev pub Handles : ℕ → ℕ → ℕ → List FramingEvent → History → History → Transcript → Transcript → Type 0
Handles conn channel now events h h' w w' =
    (handled : List FramingEvent) (from : History) (c : Connection) (stream : List ℕ) → c.channel ≡ channel
    → Amid conn now handled from h c (said channel stream false w) → Amid conn now (handled ++ events) from h' c (said channel stream false w')

-- Some of them were, and the connection has to end.
abbrev pub HandlesFront : ℕ → ℕ → ℕ → List FramingEvent → History → History → Transcript → Transcript → Type 0
HandlesFront conn channel now events h h' w w' =
    (handled later : List FramingEvent) (from : History) (c : Connection) (bytes : List ℕ) → c.channel ≡ channel
    → Amid conn now handled from h c (said channel (c.stream ++ bytes) false w)
    → blocks (c.stream ++ bytes) ≡ blocks c.stream ++ ((handled ++ events) ++ later)
    → EndsWithin conn bytes now from h' c (said channel (c.stream ++ bytes) true w')

-- What a connection makes of a piece; one that has ended hears nothing.
abbrev pub HearsOn : Bool → ℕ → List ℕ → ℕ → History → History → Connection → Connection → Type 0
HearsOn true conn bytes now h h' c c' = (h' ≡ h) × (c' ≡ c)
HearsOn false conn bytes now h h' c c' = ReadsOn conn bytes now h h' c c' ⊎ EndsWithin conn bytes now h h' c c'
