-- The messages of a connection, and those of them that are booked.
use Rattle.std.specs.Prelude.{ℕ, Bool, true, false, if◌then◌else◌, List, Option, None, Some, Result, Ok, Err}
use Rattle.std.specs.List.{filter_map}
use Rattle.conn_core.specs.declared.booking.Unbooked.{Unbooked}
use Rattle.book_core.specs.declared.receipt.Receipt.{Receipt}
use Rattle.event_log.specs.declared.entry.Told.{Told}
use Rattle.judge_core.specs.Judging.{is_bookable, is_unreadable as is_unreadable_text, is_stray as is_stray_text}
use Rattle.mllp_frame.specs.Event.{FramingEvent, block, broken}
use Rattle.mllp_frame.specs.Framing.{blocks}
use Rattle.conn_core.specs.Replies.{Answer}

-- the message that an event brings: a block that can be read and is no acknowledgment
abbrev pub message_of : FramingEvent → Option (List ℕ)
message_of (block raw) = if is_bookable raw then Some raw else None
message_of (broken cause) = None

-- the messages that events bring, in order
abbrev pub messages_of : List FramingEvent → List (List ℕ)
messages_of events = filter_map message_of events

-- the messages of a stream: its blocks that can be read and are no acknowledgments, in order
abbrev pub messages : List ℕ → List (List ℕ)
messages stream = messages_of (blocks stream)

-- a block that is no message
abbrev pub is_unreadable_block : FramingEvent → Bool
is_unreadable_block (block raw) = is_unreadable_text raw
is_unreadable_block (broken cause) = false

-- a block that is an acknowledgment, which requests no answer
abbrev pub is_stray_block : FramingEvent → Bool
is_stray_block (block raw) = is_stray_text raw
is_stray_block (broken cause) = false

-- a block that was broken
abbrev pub is_break : FramingEvent → Bool
is_break (block raw) = false
is_break (broken cause) = true

-- a message that was booked, wherever: connection, channel, text and answer
pub record BookedMessage : Type 0 where
  pub conn : ℕ
  pub channel : ℕ
  pub raw : List ℕ
  pub told : Told

-- what a receipt says was booked
abbrev pub message_by : Receipt → BookedMessage
message_by r = record { conn = r.conn; channel = r.channel; raw = r.raw; told = r.told }

-- what an outcome books, if it books anything
abbrev pub booked_with : ℕ → ℕ → List ℕ → Result Told Unbooked → Option BookedMessage
booked_with conn channel raw (Ok told) = Some (record { conn = conn; channel = channel; raw = raw; told = told })
booked_with conn channel raw (Err unbooked) = None

-- the booked ones among the messages that were answered
abbrev pub booked : ℕ → ℕ → List Answer → List BookedMessage
booked conn channel answers = filter_map (λ a. booked_with conn channel a.raw a.outcome) answers
