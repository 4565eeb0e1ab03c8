-- What a book promises of its history, of the rows beside it and of the statistics.
use Rattle.std.specs.Prelude.{◌≡◌, ◌≢◌, ◌<◌, ◌≤◌, ◌+◌, ◌⊎◌, ℕ, true, List, [], Some, All, AllPairs, is_some, length}
use Rattle.std.specs.List.Sorted.{IsStrictlyIncreasing}
use Rattle.judge_core.specs.Judging.{verdict as decided, deliveries_of}
use Rattle.row_store.specs.declared.Row.{Row}
use Rattle.row_store.specs.Rows.{row_numbers as numbers_of, queue_of}
use Rattle.dest_queue.specs.declared.slots.Queued.{Queued}
use Rattle.dest_queue.specs.Queues.{slot_of}
use Rattle.stat_count.specs.Statistics.{Statistics}
use Rattle.event_log.specs.declared.entry.Entry.TheVariants.{Arrival}
use Rattle.event_log.specs.declared.entry.Told.TheVariants as told
use Rattle.event_log.specs.History.{Accepted, History, accepted, accepted_under, before, deliveries, entry_at, message_at, names, plan_in_force, queue, remaining, slot}
use Rattle.event_log.specs.Answers.{is_first}
use Rattle.event_log.specs.Legal.{HasArrival, IsLegal, IsRemembered}
use Rattle.event_log.specs.Replay.{replay}
use Rattle.event_log.specs.Room.{owed}
use Rattle.book_core.specs.declared.letter.Outbound.{Outbound}
use Rattle.event_log.specs.Counting.{counted}

-- what a book promises whenever it is free: these are its history, the rows that it keeps, and its statistics
pub record KeepsItsPromise (h : History) (rows : List (Row (Queued Outbound))) (tally : Statistics) : Type 0 where
  -- the sequential engine, run over the same events, gives this very history: each acknowledgment, each message taken,
  -- each state settled and each cancellation as it was replied
  pub replayed : replay h ≡ h
  -- each of these events could come, had room, and was answered from the entries before it
  pub answered : IsLegal h
  -- an arrival acknowledged as message n is message n: its channel, its bytes, and where they go
  pub acknowledged : (place conn channel n : ℕ) (raw : List ℕ) → entry_at h place ≡ Some (Arrival conn channel raw (told.Accepted n))
      → message_at h n ≡ Some (accepted_under (plan_in_force (before h place)) channel raw)
  -- each message has its arrival, acknowledged with its number, or that arrival is remembered
  pub arrived : (n : ℕ) (m : Accepted) → message_at h n ≡ Some m → HasArrival h n m ⊎ IsRemembered h n m
  -- an arrival acknowledged as filtered goes nowhere, and is no message
  pub filtered : (place conn channel : ℕ) (raw : List ℕ) → entry_at h place ≡ Some (Arrival conn channel raw told.Filtered)
      → (deliveries_of (decided (plan_in_force (before h place)) channel raw) ≡ [])
      × (accepted (before h (place + 1)) ≡ accepted (before h place))
  -- an arrival acknowledged as a repeat repeats an arrival before it, or one that is remembered: of the same message,
  -- answered Accepted or Filtered, and byte for byte the same
  pub repeated : (place conn channel first : ℕ) (raw : List ℕ) → entry_at h place ≡ Some (Arrival conn channel raw (told.Repeat first))
      → (first < place) × (is_first h channel raw first ≡ true)
  -- each message that is not forgotten has one row, and the rows are in order of acceptance
  pub one_row : numbers_of rows ≡ remaining h
  -- the row has the state of the message at each destination, waiting, in flight, delivered or failed, as the history does
  pub standing : (n d : ℕ) → slot_of n d rows ≡ slot h n d
  -- it has at most one slot at each destination
  pub once : All (λ row. AllPairs (λ a b. a.destination ≢ b.destination) row.item.slots) rows
  -- it has a slot for each destination that its channel names, and for no other
  pub for_no_other : (n d : ℕ) → is_some (slot_of n d rows) ≡ names d (deliveries h n)
  -- each queue is linked as the history has it: the messages that wait or are in flight at its destination
  pub queued : (d : ℕ) → d < 32 → queue_of d rows ≡ queue h d
  -- first in, first out: each queue is in order of acceptance
  pub in_order : (d : ℕ) → d < 32 → IsStrictlyIncreasing (queue_of d rows)
  -- each statistic is counted as the history has it
  pub statistics : tally ≡ counted h
  -- on each channel every message received was filtered, accepted or refused
  pub received : All (λ c. c.received ≡ c.filtered + c.accepted + c.refused) tally.channels
  -- the entries, with those that the messages still owe, are within the book's bound
  pub room : length h.entries + owed h ≤ h.opening.events_max
