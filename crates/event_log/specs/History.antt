-- What was booked, and what it says: the messages, their slots and the queues.
use Rattle.std.specs.Prelude.{ℕ, ◌+◌, ◌-◌, Bool, false, ◌&&◌, ◌==◌, nat_lt, if◌then◌else◌, List, [], ◌∷◌, ◌++◌, length, take, filter, find, slice_get, Option, None, Some, is_some}
use Rattle.std.specs.List.{filter_map, cons_option, list_any, range_with_len}
use Rattle.std.specs.Option.{option_map, option_map_or}
use Rattle.std.specs.Int.{bit_at}
use Rattle.hl7_head.specs.Header.{header_of}
use Rattle.plan_text.specs.Entries.{PlanEntry}
use Rattle.judge_core.specs.declared.delivery.Delivery.{Delivery}
use Rattle.judge_core.specs.Judging.{verdict as decided, deliveries_of}
use Rattle.dest_queue.specs.declared.SlotState.{SlotState}
use Rattle.dest_queue.specs.declared.SlotState.TheVariants.{Waiting, InFlight, Failed}
use Rattle.dest_queue.specs.declared.FailCause.TheVariants.{Cancelled}
use Rattle.dest_queue.specs.declared.slots.Slot.{Slot}
use Rattle.dest_queue.specs.Slots.{state_at}
use Rattle.dest_queue.specs.States.{is_live}
use Rattle.stat_count.specs.Statistics.{Statistics}
use Rattle.event_log.specs.declared.entry.Ticket.{Ticket}
use Rattle.event_log.specs.declared.entry.Told.{Told}
use Rattle.event_log.specs.declared.entry.Told.TheVariants as told
use Rattle.event_log.specs.declared.entry.Entry.{Entry}
use Rattle.event_log.specs.declared.entry.Entry.TheVariants.{Arrival, Take, Settle, Cancel, Deploy}

-- an arrival that is remembered of entries that were folded: its index, its channel and bytes, its answer, Accepted
-- or Filtered, where it goes, and the states of its slots there
pub record Remembered : Type 0 where
  pub place : ℕ
  pub channel : ℕ
  pub raw : List ℕ
  pub told : Told
  pub deliveries : List Delivery
  pub slots : List Slot

-- what a book starts with, or goes on from: the plan in force there, and the most entries that the book may hold; how
-- many entries were folded, messages accepted, plans deployed and prunings made before it; what is counted of what was
-- folded and isn't remembered; and what is remembered, in its order
pub record Snapshot : Type 0 where
  pub plan : PlanEntry
  pub events_max : ℕ
  pub places : ℕ
  pub messages : ℕ
  pub deployments : ℕ
  pub prunings : ℕ
  pub forgotten : Statistics
  pub remembered : List Remembered

-- an opening, and all that was booked since, in its order
pub record History : Type 0 where
  pub opening : Snapshot
  pub entries : List Entry

-- an opening, and what was booked since
abbrev pub of_snapshot : Snapshot → List Entry → History
of_snapshot opening entries = record { opening = opening; entries = entries }

-- an opening, since which nothing was booked
abbrev pub begun : Snapshot → History
begun opening = of_snapshot opening []

-- the history with one more entry
abbrev pub followed_by : History → Entry → History
followed_by h e = record { opening = h.opening; entries = h.entries ++ e ∷ [] }

-- the history before the entry at this index
abbrev pub before : History → ℕ → History
before h place = record { opening = h.opening; entries = take (place - h.opening.places) h.entries }

-- the last of some values, or the one before them
abbrev pub last_from : {A : Type 0} → A → List A → A
last_from x [] = x
last_from x (y ∷ ys) = last_from y ys

-- the plan that an entry deploys
abbrev pub deployed_by : Entry → Option PlanEntry
deployed_by (Arrival conn channel raw told) = None
deployed_by (Take ticket now) = None
deployed_by (Settle outcome ticket now state) = None
deployed_by (Cancel number among mask) = None
deployed_by (Deploy plan) = Some plan

-- the plan in force after an entry
abbrev pub plan_after : PlanEntry → Entry → PlanEntry
plan_after plan e = option_map_or (λ p. p) (deployed_by e) plan

-- the plans that were deployed since the opening, in their order
abbrev pub deployed : History → List PlanEntry
deployed h = filter_map deployed_by h.entries

-- the plan by which the next event is answered: the last that was deployed, or that of the opening
abbrev pub plan_in_force : History → PlanEntry
plan_in_force h = last_from h.opening.plan (deployed h)

-- the index of the next entry; indices go on from the folded entries
abbrev pub next_place : History → ℕ
next_place h = h.opening.places + length h.entries

-- the entry at this index; a folded one is gone
abbrev pub entry_at : History → ℕ → Option Entry
entry_at h place = if nat_lt place h.opening.places then None else slice_get h.entries (place - h.opening.places)

-- an accepted message: the channel and the bytes received, and where it goes
pub record Accepted : Type 0 where
  pub channel : ℕ
  pub raw : List ℕ
  pub deliveries : List Delivery

-- a message that arrived under a plan
abbrev pub accepted_under : PlanEntry → ℕ → List ℕ → Accepted
accepted_under plan channel raw = record { channel = channel; raw = raw; deliveries = deliveries_of (decided plan channel raw) }

-- the message that an entry brings, if it is an arrival answered Accepted
abbrev pub accepted_by : PlanEntry → Entry → Option Accepted
accepted_by plan (Arrival conn channel raw (told.Accepted number)) = Some (accepted_under plan channel raw)
accepted_by plan (Arrival conn channel raw told.Filtered) = None
accepted_by plan (Arrival conn channel raw (told.Refused cause)) = None
accepted_by plan (Arrival conn channel raw (told.Repeat place)) = None
accepted_by plan (Take ticket now) = None
accepted_by plan (Settle outcome ticket now state) = None
accepted_by plan (Cancel number among mask) = None
accepted_by plan (Deploy next) = None

-- the messages that entries bring, each by the plan that is in force when it comes, where this plan is in force before them
abbrev pub accepted_from : PlanEntry → List Entry → List Accepted
accepted_from plan [] = []
accepted_from plan (e ∷ es) = cons_option (accepted_by plan e) (accepted_from (plan_after plan e) es)

-- the messages that were accepted since the opening, in order of acceptance
abbrev pub accepted : History → List Accepted
accepted h = accepted_from h.opening.plan h.entries

-- how many messages were accepted in all: the number of the next
abbrev pub message_count : History → ℕ
message_count h = h.opening.messages + length (accepted h)

-- the number that an answer gives
abbrev pub number_told : Told → Option ℕ
number_told (told.Accepted number) = Some number
number_told told.Filtered = None
number_told (told.Refused cause) = None
number_told (told.Repeat place) = None

-- whether an answer says that the message has this number
abbrev pub is_numbered : ℕ → Told → Bool
is_numbered n (told.Accepted number) = number == n
is_numbered n told.Filtered = false
is_numbered n (told.Refused cause) = false
is_numbered n (told.Repeat place) = false

-- the arrival of message n, where it is remembered
abbrev pub remembered_as : Snapshot → ℕ → Option Remembered
remembered_as opening n = find (λ r. is_numbered n r.told) opening.remembered

-- a message that is remembered
abbrev pub accepted_of : Remembered → Accepted
accepted_of r = record { channel = r.channel; raw = r.raw; deliveries = r.deliveries }

-- message n: one that is remembered, or one accepted since the opening; a forgotten one is gone
abbrev pub message_at : History → ℕ → Option Accepted
message_at h n =
    if nat_lt n h.opening.messages then option_map accepted_of (remembered_as h.opening n)
    else slice_get (accepted h) (n - h.opening.messages)

-- the numbers of all messages that were accepted, in order
abbrev pub numbers : History → List ℕ
numbers h = range_with_len 0 (message_count h)

-- the numbers of the messages that are not forgotten, in order
abbrev pub remaining : History → List ℕ
remaining h = filter (λ n. is_some (message_at h n)) (numbers h)

-- where message n goes; nowhere where there is no such message
abbrev pub deliveries : History → ℕ → List Delivery
deliveries h n = option_map_or (λ m. m.deliveries) (message_at h n) []

-- the control id (MSH-10, raw) of a text; empty where it is no message
abbrev pub control_id_of : List ℕ → List ℕ
control_id_of raw = option_map_or (λ header. header.control_id) (header_of raw) []

-- the control id of message n
abbrev pub control_id : History → ℕ → List ℕ
control_id h n = option_map_or (λ m. control_id_of m.raw) (message_at h n) []

-- the text that message n has for d
abbrev pub payload : History → ℕ → ℕ → List ℕ
payload h n d = option_map_or (λ x. x.payload) (find (λ x. x.destination == d) (deliveries h n)) []

-- whether deliveries name d
abbrev pub names : ℕ → List Delivery → Bool
names d deliveries = list_any (λ x. x.destination == d) deliveries

-- whether a ticket is for message n at d
abbrev pub is_for : ℕ → ℕ → Ticket → Bool
is_for n d ticket = (ticket.number == n) && (ticket.destination == d)

-- the state in which an entry leaves the slot of message n at d, if it touches that slot
abbrev pub state_by : ℕ → ℕ → Entry → Option SlotState
state_by n d (Arrival conn channel raw told) = None
state_by n d (Take ticket now) = if is_for n d ticket then Some (InFlight ticket.attempt) else None
state_by n d (Settle outcome ticket now state) = if is_for n d ticket then Some state else None
state_by n d (Cancel number among mask) = if (number == n) && (bit_at mask d == 1) then Some (Failed Cancelled) else None
state_by n d (Deploy plan) = None

-- the state of message n at d at the opening: as it is remembered, and else it waits for its first attempt
abbrev pub first_state : Snapshot → ℕ → ℕ → SlotState
first_state opening n d = option_map_or (λ r. option_map_or (λ s. s) (state_at d r.slots) (Waiting 0 0)) (remembered_as opening n) (Waiting 0 0)

-- the state of message n at d as the last entry that touches it leaves it; before, as it is at the opening
abbrev pub state : History → ℕ → ℕ → SlotState
state h n d = last_from (first_state h.opening n d) (filter_map (state_by n d) h.entries)

-- the slot of message n at d: its state there, if it names d
abbrev pub slot : History → ℕ → ℕ → Option SlotState
slot h n d = if names d (deliveries h n) then Some (state h n d) else None

-- whether message n is still to be delivered to d
abbrev pub is_queued : History → ℕ → ℕ → Bool
is_queued h d n = option_map_or is_live (slot h n d) false

-- the messages still to be delivered to d, in order of acceptance
abbrev pub queue : History → ℕ → List ℕ
queue h d = filter (is_queued h d) (numbers h)
