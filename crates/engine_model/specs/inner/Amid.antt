-- A connection in the middle of a piece.
use Rattle.std.specs.Prelude.{◌≡◌, ◌+◌, ℕ, false, List, ◌++◌, length, map}
use Rattle.event_log.specs.History.{History}
use Rattle.mllp_frame.specs.Event.{FramingEvent}
use Rattle.conn_core.specs.Messages.{messages_of}
use Rattle.conn_core.specs.Replies.{Answer, dues, numbered}
use Rattle.engine_model.specs.Run.{Connection}
use Rattle.engine_model.specs.Steps.{AreAnswered, after_answers}

-- These events of a piece were handled: since its start the messages among them were answered, and their replies sent.
pub record Amid (conn now : ℕ) (handled : List FramingEvent) (h h' : History) (c c' : Connection) : Type 0 where
  pub new : List Answer
  pub answered : AreAnswered conn c.channel now h new
  pub booked : h' ≡ after_answers conn c.channel h new
  pub channel : c'.channel ≡ c.channel
  pub answers : c'.answers ≡ c.answers ++ new
  pub each_once : messages_of handled ≡ map (λ a. a.raw) new
  pub output : c'.output ≡ c.output ++ numbered conn (1 + length (dues c.answers)) (dues new)
  pub stays : c'.ended ≡ false
