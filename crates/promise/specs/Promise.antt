-- The promise of the engine on one page: a message that is acknowledged with CA, or with AA in original mode, is kept exactly
-- once for each destination that its channel names, and for no other (HL7 v2.5.1, 2.9.2 and 2.9.3).
use Rattle.std.specs.Prelude.{◌≡◌, ◌⊎◌, ◌<◌, ℕ, Bool, true, false, List, [], Some, replicate, slice_get, is_some}
use Rattle.hl7_head.specs.declared.ack.AckCode.{AckCode}
use Rattle.hl7_head.specs.declared.ack.AckCode.TheVariants.{AA, CA}
use Rattle.plan_text.specs.Entries.{PlanEntry}
use Rattle.judge_core.specs.Judging.{verdict as decided, deliveries_of}
use Rattle.stat_count.specs.Statistics.{no_arrivals, no_slots}
use Rattle.event_log.specs.declared.entry.Entry.TheVariants as entry
use Rattle.event_log.specs.declared.entry.Told.{Told}
use Rattle.event_log.specs.declared.entry.Told.TheVariants as told
use Rattle.event_log.specs.Answers.{is_first}
use Rattle.event_log.specs.History.{Accepted, History, begun, is_queued, message_at, names, plan_in_force, slot}
use Rattle.book_core.specs.Receiving.{repeat_of}
use Rattle.book_lock.specs.declared.log_entry.LogEntry.TheVariants as log
use Rattle.book_lock.specs.Log.{Log}
use Rattle.delivery_worker.specs.Sent.{book_before}

-- ---- the book with which a run begins

-- the book of a plan and of a bound on its entries, of which nothing is booked yet
abbrev pub empty_book : PlanEntry → ℕ → History
empty_book plan events_max = begun (record {
  plan = plan;
  events_max = events_max;
  places = 0;
  messages = 0;
  deployments = 0;
  prunings = 0;
  forgotten = record { channels = replicate 64 no_arrivals; destinations = replicate 32 no_slots };
  remembered = [];
})

-- ---- a message that is kept

-- whether a message with these bytes that arrives on a channel goes to a destination, by a plan
abbrev pub goes_to : PlanEntry → ℕ → List ℕ → ℕ → Bool
goes_to plan channel raw d = names d (deliveries_of (decided plan channel raw))

-- Message n has one slot at each destination that it goes to, and at no other: a slot waits, is in flight, delivered or failed.
abbrev pub IsKeptFor : (ℕ → Bool) → ℕ → History → Type 0
IsKeptFor goes n book = (d : ℕ) → is_some (slot book n d) ≡ goes d

-- Message n was forgotten by a pruning of the log. Just before, it was kept for where it goes, and nothing of it was still to
-- be delivered: each of its slots was delivered or failed.
pub record WasForgotten (opening : History) (entries : Log) (goes : ℕ → Bool) (n : ℕ) : Type 0 where
  pub index : ℕ
  pub seat : ℕ
  pub bound : ℕ
  pub pruned : slice_get entries index ≡ Some (seat, log.Pruned bound)
  pub is_below : n < bound
  pub kept : IsKeptFor goes n (book_before opening entries index)
  pub settled : (d : ℕ) → is_queued (book_before opening entries index) d n ≡ false

-- message n is kept for where it goes, or was until each of its slots was delivered or failed
abbrev pub IsKept : History → Log → History → (ℕ → Bool) → ℕ → Type 0
IsKept opening entries book goes n = IsKeptFor goes n book ⊎ WasForgotten opening entries goes n

-- ---- a message that is acknowledged

-- the entry of a log that is the arrival of these bytes on a channel, with the engine's answer
pub record Arrival (entries : Log) (channel : ℕ) (raw : List ℕ) (told : Told) : Type 0 where
  pub index : ℕ
  pub seat : ℕ
  pub conn : ℕ
  pub is : slice_get entries index ≡ Some (seat, log.Booked (entry.Arrival conn channel raw told))

-- An arrival that was accepted, and is kept for the destinations to which the plan sent it that was in force then.
pub record IsAcceptedAs (opening : History) (entries : Log) (book : History) (channel : ℕ) (raw : List ℕ) (n : ℕ) : Type 0 where
  pub arrival : Arrival entries channel raw (told.Accepted n)
  pub kept : IsKept opening entries book (goes_to (plan_in_force (book_before opening entries arrival.index)) channel raw) n

-- An arrival that was filtered: by the plan that was in force then it goes nowhere.
pub record IsFilteredOut (opening : History) (entries : Log) (channel : ℕ) (raw : List ℕ) : Type 0 where
  pub arrival : Arrival entries channel raw told.Filtered
  pub nowhere : (d : ℕ) → goes_to (plan_in_force (book_before opening entries arrival.index)) channel raw d ≡ false

-- A message that the book had at some moment of a run: it was accepted in the log, and is kept; or the run began with it, and it is
-- kept for where it goes.
pub data IsHeld (opening : History) (entries : Log) (book : History) (n : ℕ) (m : Accepted) : Type 0 where
  in_log : IsAcceptedAs opening entries book m.channel m.raw n → IsHeld opening entries book n m
  from_start : message_at opening n ≡ Some m → IsKept opening entries book (λ d. names d m.deliveries) n → IsHeld opening entries book n m

-- An arrival that repeats one before it, of the same bytes on the same channel, which was accepted or filtered. Each message of
-- these bytes and this channel that the book had then is kept.
pub record IsRepeated (opening : History) (entries : Log) (book : History) (channel : ℕ) (raw : List ℕ) : Type 0 where
  pub place : ℕ
  pub arrival : Arrival entries channel raw (told.Repeat place)
  pub first : is_first (book_before opening entries arrival.index) channel raw place ≡ true
  pub kept : (n : ℕ) (m : Accepted) → message_at (book_before opening entries arrival.index) n ≡ Some m
      → m.channel ≡ channel → m.raw ≡ raw → IsHeld opening entries book n m

-- A message that is answered as a repeat without being booked, since there was no room for it: at some moment of the run the book
-- had an arrival with its key (the channel and MSH-10) and its very bytes, accepted or filtered. Each message of these bytes and
-- this channel that the book had then is kept.
pub record IsRepeatedUnbooked (opening : History) (entries : Log) (book : History) (channel : ℕ) (raw : List ℕ) : Type 0 where
  pub index : ℕ
  pub place : ℕ
  pub first : repeat_of (book_before opening entries index) channel raw ≡ Some place
  pub kept : (n : ℕ) (m : Accepted) → message_at (book_before opening entries index) n ≡ Some m
      → m.channel ≡ channel → m.raw ≡ raw → IsHeld opening entries book n m

-- What a sender may rely on who reads that a message was acknowledged with CA, or with AA in original mode.
pub data IsPromised (opening : History) (entries : Log) (book : History) (channel : ℕ) (raw : List ℕ) : Type 0 where
  accepted : (n : ℕ) → IsAcceptedAs opening entries book channel raw n → IsPromised opening entries book channel raw
  filtered : IsFilteredOut opening entries channel raw → IsPromised opening entries book channel raw
  repeated : IsRepeated opening entries book channel raw → IsPromised opening entries book channel raw
  repeated_unbooked : IsRepeatedUnbooked opening entries book channel raw → IsPromised opening entries book channel raw

-- a code that reports success: CA, or AA
abbrev pub IsPositive : AckCode → Type 0
IsPositive code = (code ≡ CA) ⊎ (code ≡ AA)

-- an answer that reports success: the message was accepted, filtered, or is a repeat of one that was
abbrev pub IsSuccess : Told → Type 0
IsSuccess (told.Accepted number) = Unit {0}
IsSuccess told.Filtered = Unit {0}
IsSuccess (told.Repeat place) = Unit {0}
IsSuccess (told.Refused cause) = ⊥
