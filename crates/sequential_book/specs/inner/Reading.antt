-- What the plain engine keeps true of its entries, and how it recognises the accepted arrivals among them.
use Rattle.std.specs.Prelude.{◌≡◌, ◌≤◌, ◌<◌, ℕ, Bool, true, false, length, All, Option, None, Some, Result, Ok, Err}
use Rattle.mllp_frame.specs.Framing.{IsBlockData}
use Rattle.event_log.specs.declared.entry.Told.{Told}
use Rattle.event_log.specs.declared.entry.Told.TheVariants as told
use Rattle.event_log.specs.declared.entry.Entry.{Entry}
use Rattle.event_log.specs.declared.entry.Entry.TheVariants.{Arrival, Take, Settle, Cancel, Deploy}
use Rattle.dest_queue.specs.declared.SettleRefusal.{SettleRefusal}
use Rattle.dest_queue.specs.declared.SlotState.{SlotState}
use Rattle.event_log.specs.Event.{ArriveRefusal, full, no_memory}
use Rattle.event_log.specs.History.{History}
use Rattle.event_log.specs.inner.Legal.{IsSound}
use Rattle.sequential_book.specs.declared.refusal.NotBooked.{NotBooked}
use Rattle.sequential_book.specs.declared.refusal.NotBooked.TheVariants as not_booked
use Rattle.sequential_book.specs.declared.refusal.NotSettled.{NotSettled}
use Rattle.sequential_book.specs.declared.refusal.NotSettled.TheVariants as not_settled

-- whether a message was accepted
abbrev pub is_accepted : Told → Bool
is_accepted (told.Accepted number) = true
is_accepted told.Filtered = false
is_accepted (told.Refused cause) = false
is_accepted (told.Repeat place) = false

-- whether an entry is the arrival of an accepted message
abbrev pub is_acceptance : Entry → Bool
is_acceptance (Arrival conn channel raw told) = is_accepted told
is_acceptance (Take ticket now) = false
is_acceptance (Settle outcome ticket now state) = false
is_acceptance (Cancel number among mask) = false
is_acceptance (Deploy plan) = false

-- whether an entry is a deployment
abbrev pub is_deployment : Entry → Bool
is_deployment (Arrival conn channel raw told) = false
is_deployment (Take ticket now) = false
is_deployment (Settle outcome ticket now state) = false
is_deployment (Cancel number among mask) = false
is_deployment (Deploy plan) = true

-- an arrival whose text can be judged again: it arrived on one of that many channels, and a block can hold it; a
-- deployed plan has as many
abbrev pub IsJudgeable : ℕ → Entry → Type 0
IsJudgeable channels (Arrival conn channel raw told) = (channel < channels) × IsBlockData raw
IsJudgeable channels (Take ticket now) = Unit {0}
IsJudgeable channels (Settle outcome ticket now state) = Unit {0}
IsJudgeable channels (Cancel number among mask) = Unit {0}
IsJudgeable channels (Deploy plan) = length plan.channels ≡ channels

-- what the plain engine keeps true of its history
pub record IsPlain (h : History) : Type 0 where
  pub sound : IsSound h
  pub judgeable : All (IsJudgeable (length h.opening.plan.channels)) h.entries
  pub bound : h.opening.events_max ≤ 1000000

-- why an arrival isn't booked
abbrev pub arrive_refusal : NotBooked → ArriveRefusal
arrive_refusal not_booked.Full = full
arrive_refusal not_booked.NoMemory = no_memory

-- what became of a settlement, unless memory was refused
abbrev pub settled : Result SlotState NotSettled → Option (Result SlotState SettleRefusal)
settled (Ok state) = Some (Ok state)
settled (Err (not_settled.Refused refusal)) = Some (Err refusal)
settled (Err not_settled.NoMemory) = None
