-- What an arrival is answered by a book.
use Rattle.std.specs.Prelude.{◌≡◌, ℕ, List, Option, None, Some, Result, option_and_then}
use Rattle.std.specs.Result.{result_map_both}
use Rattle.event_log.specs.declared.entry.Told.{Told}
use Rattle.event_log.specs.declared.entry.Told.TheVariants as told
use Rattle.event_log.specs.Answers.{arrival_answer}
use Rattle.event_log.specs.Event.{ArriveRefusal}
use Rattle.event_log.specs.History.{History}
use Rattle.book_core.specs.declared.receipt.NotBooked.{NotBooked}
use Rattle.book_core.specs.declared.receipt.Receipt.{Receipt}
use Rattle.book_core.specs.Refusing.{arrive_refusal}

-- a receipt has the index of its entry, the connection and the channel on which the message arrived, and its bytes
pub record IsReceipt (place number on : ℕ) (bytes : List ℕ) (receipt : Receipt) : Type 0 where
  pub entry : receipt.entry ≡ place
  pub conn : receipt.conn ≡ number
  pub channel : receipt.channel ≡ on
  pub raw : receipt.raw ≡ bytes

-- the reply to an arrival, or why it is refused
abbrev pub arrival_reply : Result Receipt NotBooked → Result Told ArriveRefusal
arrival_reply result = result_map_both (λ receipt. receipt.told) arrive_refusal result

-- ---- repeats

-- the index of the first arrival, where an answer says that a message repeats it
abbrev pub first_told : Told → Option ℕ
first_told (told.Repeat place) = Some place
first_told (told.Accepted number) = None
first_told told.Filtered = None
first_told (told.Refused cause) = None

-- The index of the arrival that a text on a channel repeats: the history has its key (the channel and MSH-10) with these very
-- bytes, accepted or filtered. It is what an arrival is answered where there is room for it.
abbrev pub repeat_of : History → ℕ → List ℕ → Option ℕ
repeat_of h channel raw = option_and_then first_told (arrival_answer h channel raw)
