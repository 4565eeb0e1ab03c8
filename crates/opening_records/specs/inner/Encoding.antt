-- The encoding of an opening. Numbers are big-endian.
use Rattle.std.specs.Prelude.{ℕ, List, [], ◌∷◌, ◌++◌, length, if◌then◌else◌}
use Rattle.std.specs.Str.{bytes_eq}
use Rattle.std.specs.List.{flat_map}
use Rattle.std.specs.Int.{w32, w64, to_be_bytes}
use Rattle.judge_core.specs.declared.delivery.Delivery.{Delivery}
use Rattle.dest_queue.specs.declared.SlotState.{SlotState}
use Rattle.dest_queue.specs.declared.SlotState.TheVariants.{Waiting, InFlight, Delivered, Failed}
use Rattle.dest_queue.specs.declared.FailCause.{FailCause}
use Rattle.dest_queue.specs.declared.FailCause.TheVariants.{Rejected, Exhausted, Cancelled}
use Rattle.dest_queue.specs.declared.slots.Slot.{Slot}
use Rattle.stat_count.specs.declared.ChannelCounts.{ChannelCounts}
use Rattle.stat_count.specs.declared.DestinationCounts.{DestinationCounts}
use Rattle.event_log.specs.History.{Remembered}
use Rattle.opening_records.specs.declared.head.Head.{Head}
use Rattle.event_records.specs.inner.Fields.{told_kind, told_number}
use Rattle.event_records.specs.inner.Encoding.{text_bytes}

-- how many there are, in four bytes, and each
abbrev pub several : {A : Type 0} → (A → List ℕ) → List A → List ℕ
several encode xs = to_be_bytes w32 (length xs) ++ flat_map encode xs

-- numbers of eight bytes
abbrev pub numbers_bytes : List ℕ → List ℕ
numbers_bytes numbers = flat_map (to_be_bytes w64) numbers

-- ---- counters

abbrev pub channel_numbers : ChannelCounts → List ℕ
channel_numbers c = c.received ∷ c.filtered ∷ c.accepted ∷ c.refused ∷ c.repeats ∷ []

abbrev pub destination_numbers : DestinationCounts → List ℕ
destination_numbers c = c.waiting ∷ c.inflight ∷ c.delivered ∷ c.failed ∷ c.attempts ∷ []

-- the counters of a channel, and of a destination, in 40 bytes
unfoldable pub channel_bytes : ChannelCounts → List ℕ
channel_bytes c = numbers_bytes (channel_numbers c)

unfoldable pub destination_bytes : DestinationCounts → List ℕ
destination_bytes c = numbers_bytes (destination_numbers c)

-- ---- a slot

-- the cause of a failure as a number
abbrev pub cause_number : FailCause → ℕ
cause_number Rejected = 0
cause_number Exhausted = 1
cause_number Cancelled = 2

-- the state of a slot as a kind, its attempts or its cause, and a moment
abbrev pub state_kind : SlotState → ℕ
state_kind (Waiting attempts due) = 0
state_kind (InFlight attempt) = 1
state_kind Delivered = 2
state_kind (Failed cause) = 3

abbrev pub state_number : SlotState → ℕ
state_number (Waiting attempts due) = attempts
state_number (InFlight attempt) = attempt
state_number Delivered = 0
state_number (Failed cause) = cause_number cause

abbrev pub state_due : SlotState → ℕ
state_due (Waiting attempts due) = due
state_due (InFlight attempt) = 0
state_due Delivered = 0
state_due (Failed cause) = 0

-- a slot in 17 bytes
unfoldable pub slot_bytes : Slot → List ℕ
slot_bytes s =
    state_kind s.state ∷ to_be_bytes w32 s.destination ++ to_be_bytes w32 (state_number s.state) ++ to_be_bytes w64 (state_due s.state)

-- ---- a delivery

-- 1 where the text is the one that was received
abbrev pub flag_of : List ℕ → List ℕ → ℕ
flag_of raw payload = if bytes_eq payload raw then 1 else 0

-- the text that is written: none where it is the one that was received
abbrev pub own_text : List ℕ → List ℕ → List ℕ
own_text raw payload = if bytes_eq payload raw then [] else payload

-- a delivery of a message of these bytes
unfoldable pub delivery_bytes : List ℕ → Delivery → List ℕ
delivery_bytes raw x = flag_of raw x.payload ∷ to_be_bytes w32 x.destination ++ text_bytes (own_text raw x.payload)

-- ---- a remembered arrival

-- its answer, its index and its channel in 17 bytes
unfoldable pub arrival_bytes : Remembered → List ℕ
arrival_bytes r = told_kind r.told ∷ to_be_bytes w32 (told_number r.told) ++ to_be_bytes w64 r.place ++ to_be_bytes w32 r.channel

-- that, the bytes received, where it goes, and its slots there
unfoldable pub remembered_bytes : Remembered → List ℕ
remembered_bytes r =
    arrival_bytes r ++ text_bytes r.raw ++ several (delivery_bytes r.raw) r.deliveries ++ several slot_bytes r.slots

-- ---- an opening

-- an opening as it is written: its plan is the document that the plan was read from
pub record Written : Type 0 where
  pub head : Head
  pub document : List ℕ
  pub channels : List ChannelCounts
  pub destinations : List DestinationCounts
  pub remembered : List Remembered

-- the number of this format
abbrev pub format : ℕ
format = 1

-- the format and the numbers, in 25 bytes
unfoldable pub head_bytes : Head → List ℕ
head_bytes h =
    format ∷ to_be_bytes w32 h.events_max ++ to_be_bytes w64 h.places ++ to_be_bytes w32 h.messages
    ++ to_be_bytes w32 h.deployments ++ to_be_bytes w32 h.prunings

-- these, the document, the counters of what was forgotten, and what is remembered
unfoldable pub opening_bytes : Written → List ℕ
opening_bytes w =
    head_bytes w.head ++ text_bytes w.document ++ several channel_bytes w.channels
    ++ several destination_bytes w.destinations ++ several remembered_bytes w.remembered
