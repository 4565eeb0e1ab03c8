-- What can be told of an opening without reading the bytes of its messages.
use Rattle.std.specs.Prelude.{◌≡◌, ◌<◌, ◌≤◌, ◌+◌, ◌-◌, ◌*◌, ◌==◌, ◌&&◌, ℕ, Bool, true, false, nat_le, nat_lt, List, [], ◌∷◌, length, All}
use Rattle.std.specs.List.{filter_map, list_all, range_with_len}
use Rattle.plan_text.specs.Entries.{PlanEntry}
use Rattle.judge_core.specs.declared.delivery.Delivery.{Delivery}
use Rattle.dest_queue.specs.declared.SlotState.{SlotState}
use Rattle.dest_queue.specs.declared.SlotState.TheVariants.{Waiting, InFlight, Delivered, Failed}
use Rattle.dest_queue.specs.declared.slots.Slot.{Slot}
use Rattle.stat_count.specs.declared.ChannelCounts.{ChannelCounts}
use Rattle.stat_count.specs.declared.DestinationCounts.{DestinationCounts}
use Rattle.stat_count.specs.inner.Statistics.{is_sum}
use Rattle.event_log.specs.declared.entry.Told.{Told}
use Rattle.event_log.specs.declared.entry.Told.TheVariants as told
use Rattle.event_log.specs.Answers.{attempts_max}
use Rattle.event_log.specs.History.{Remembered, Snapshot}
use Rattle.event_log.specs.inner.History.{number_of}
use Rattle.event_log.specs.inner.Legal.{IsMemory}
use Rattle.event_log.specs.Room.{is_in_flight}
use Rattle.book_resume.specs.inner.Owing.{remembered_owed}

-- whether a slot is one that no attempt is under way at: one that waits has an attempt left
abbrev pub is_at_rest : ℕ → SlotState → Bool
is_at_rest max (Waiting attempts due) = nat_lt attempts max
is_at_rest max (InFlight attempt) = false
is_at_rest max Delivered = true
is_at_rest max (Failed cause) = true

-- the same of a slot of a plan's destination
abbrev pub slot_rests : PlanEntry → Slot → Bool
slot_rests plan s = is_at_rest (attempts_max plan s.destination) s.state

-- an arrival was answered so that it is remembered: accepted, or filtered and sent nowhere
abbrev pub IsAnswered : Told → List Delivery → Type 0
IsAnswered (told.Accepted number) deliveries = Unit {0}
IsAnswered told.Filtered deliveries = deliveries ≡ []
IsAnswered (told.Refused cause) deliveries = ⊥
IsAnswered (told.Repeat place) deliveries = ⊥

-- what is remembered of an arrival is in order
pub record IsInOrder (plan : PlanEntry) (places : ℕ) (r : Remembered) : Type 0 where
  pub memory : IsMemory plan r
  pub channel : r.channel < 64
  pub place : r.place < places
  pub settled : All (λ s. is_in_flight s.state ≡ false) r.slots

-- whether numbers follow one another from this one on
abbrev pub follow_from : ℕ → List ℕ → Bool
follow_from first [] = true
follow_from first (n ∷ ns) = (n == first) && follow_from (first + 1) ns

-- numbers are the last of those that so many messages have
pub record AreLast (messages : ℕ) (ns : List ℕ) : Type 0 where
  pub few : length ns ≤ messages
  pub last : ns ≡ range_with_len (messages - length ns) (length ns)

-- whether the messages of a channel are those filtered, accepted and refused, and at most so many with the repeats
abbrev pub channel_fits : ℕ → ChannelCounts → Bool
channel_fits places c = is_sum c && nat_le (c.received + c.repeats) places

-- whether a destination has no message that is still to be delivered, and at most so many others; each delivered one was taken,
-- and at most so many attempts were begun
abbrev pub destination_fits : ℕ → ℕ → DestinationCounts → Bool
destination_fits places gone d =
    (d.waiting == 0) && (d.inflight == 0) && nat_le (d.delivered + d.failed) gone && nat_le d.delivered d.attempts && nat_le d.attempts places

-- the numbers of an opening are within their bounds
pub record IsBounded (o : Snapshot) : Type 0 where
  pub events_few : o.events_max ≤ 1000000
  pub messages_few : o.messages ≤ o.places
  pub places_few : o.places ≤ o.prunings * 1000000
  pub prunings_few : o.prunings ≤ 1000

-- an opening is in order: its numbers and the counters of what was forgotten are within their bounds; each arrival is in order,
-- and the accepted ones have the last numbers; what they owe is within the bound of the entries
pub record IsOrdered (o : Snapshot) : Type 0 where
  pub bounds : IsBounded o
  pub arrivals : All (IsInOrder o.plan o.places) o.remembered
  pub numbers : AreLast o.messages (filter_map number_of o.remembered)
  pub channels : list_all (channel_fits o.places) o.forgotten.channels ≡ true
  pub destinations : list_all (destination_fits o.places (o.messages - length (filter_map number_of o.remembered))) o.forgotten.destinations ≡ true
  pub room : remembered_owed o.plan o.remembered ≤ o.events_max
