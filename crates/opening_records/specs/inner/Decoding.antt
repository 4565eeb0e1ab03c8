-- Decoding from left to right, with the first fault. Numbers, texts and answers are decoded as those of a record.
use Rattle.std.specs.Prelude.{◌≡◌, ℕ, zero, suc, List, [], ◌∷◌, length, Bool, true, false, not, ◌&&◌, ◌==◌, ◌+◌, nat_le, nat_lt, Result, Ok, Err, if◌then◌else◌}
use Rattle.std.specs.Str.{bytes_eq}
use Rattle.std.specs.List.{list_all}
use Rattle.std.specs.Result.{is_ok}
use Rattle.std.specs.Int.{w32, w64}
use Rattle.mllp_frame.specs.Framing.{is_framing}
use Rattle.judge_core.specs.declared.delivery.Delivery.{Delivery}
use Rattle.dest_queue.specs.declared.SlotState.{SlotState}
use Rattle.dest_queue.specs.declared.SlotState.TheVariants.{Waiting, InFlight, Delivered, Failed}
use Rattle.dest_queue.specs.declared.FailCause.{FailCause}
use Rattle.dest_queue.specs.declared.FailCause.TheVariants.{Rejected, Exhausted, Cancelled}
use Rattle.dest_queue.specs.declared.slots.Slot.{Slot}
use Rattle.stat_count.specs.declared.ChannelCounts.{ChannelCounts}
use Rattle.stat_count.specs.declared.DestinationCounts.{DestinationCounts}
use Rattle.event_log.specs.declared.entry.Told.{Told}
use Rattle.event_log.specs.History.{Remembered, names}
use Rattle.event_records.specs.declared.fault.RecordFault.{RecordFault}
use Rattle.event_records.specs.declared.fault.RecordFault.TheVariants.{Truncated, Unknown}
use Rattle.event_records.specs.inner.Decoding.{◌>>=◌, number_at, text_at, told_of}
use Rattle.event_records.specs.inner.Fields.{told_kind, told_number}
use Rattle.opening_records.specs.declared.fault.OpeningFault.{OpeningFault}
use Rattle.opening_records.specs.declared.fault.OpeningFault.TheVariants.{NoMemory, TooLong, NotAnOpening}
use Rattle.opening_records.specs.declared.head.Head.{Head}
use Rattle.opening_records.specs.inner.Encoding.{Written, format, state_kind, state_number, state_due}

-- what a function returned, seen by view, is what decoding gives, unless memory was refused
abbrev pub Refuses : {Y : Type 0} → OpeningFault → Result Y RecordFault → Type 0
Refuses NoMemory read = Unit {0}
Refuses TooLong read = ⊥
Refuses (NotAnOpening at reason) read = is_ok read ≡ false

abbrev pub Reads : {X Y : Type 0} → (X → Y) → Result X OpeningFault → Result Y RecordFault → Type 0
Reads view (Ok x) read = read ≡ Ok (view x)
Reads view (Err e) read = Refuses e read

-- a value that passes a test
abbrev pub tested : {A : Type 0} → Bool → A → Result A RecordFault
tested holds x = if holds then Ok x else Err Unknown

-- a byte, and the bytes behind it
unfoldable pub byte_at : List ℕ → Result (ℕ × List ℕ) RecordFault
byte_at [] = Err Truncated
byte_at (b ∷ bytes) = Ok (b, bytes)

-- this number of values, and the bytes behind them
unfoldable pub many_at : {A : Type 0} → (List ℕ → Result (A × List ℕ) RecordFault) → ℕ → List ℕ → Result (List A × List ℕ) RecordFault
many_at {A} read zero bytes = Ok ([], bytes)
many_at {A} read (suc n) bytes = read bytes >>= λ first. many_at read n first.1 >>= λ others. Ok (first.0 ∷ others.0, others.1)

-- as many as a count says, and the bytes behind them
abbrev pub several_at : {A : Type 0} → (List ℕ → Result (A × List ℕ) RecordFault) → List ℕ → Result (List A × List ℕ) RecordFault
several_at {A} read bytes = number_at w32 bytes >>= λ n. many_at read n.0 n.1

-- ---- counters

unfoldable pub channel_at : List ℕ → Result (ChannelCounts × List ℕ) RecordFault
channel_at bytes = do
  a ← number_at w64 bytes
  b ← number_at w64 a.1
  c ← number_at w64 b.1
  d ← number_at w64 c.1
  e ← number_at w64 d.1
  Ok (record { received = a.0; filtered = b.0; accepted = c.0; refused = d.0; repeats = e.0 }, e.1)

unfoldable pub destination_at : List ℕ → Result (DestinationCounts × List ℕ) RecordFault
destination_at bytes = do
  a ← number_at w64 bytes
  b ← number_at w64 a.1
  c ← number_at w64 b.1
  d ← number_at w64 c.1
  e ← number_at w64 d.1
  Ok (record { waiting = a.0; inflight = b.0; delivered = c.0; failed = d.0; attempts = e.0 }, e.1)

-- ---- a slot

-- the cause of this number
unfoldable pub cause_at : ℕ → Result FailCause RecordFault
cause_at n =
    if n == 0 then Ok Rejected
    else if n == 1 then Ok Exhausted
    else if n == 2 then Ok Cancelled
    else Err Unknown

-- the state of this kind, number and moment
unfoldable pub state_of : ℕ → ℕ → ℕ → Result SlotState RecordFault
state_of kind number due =
    if kind == 0 then Ok (Waiting number due)
    else if kind == 1 then Ok (InFlight number)
    else if kind == 2 then Ok Delivered
    else if kind == 3 then (cause_at number >>= λ cause. Ok (Failed cause))
    else Err Unknown

-- whether a slot is one of 32 destinations, and its state has just these fields: what its kind doesn't use is 0
abbrev pub is_slot : ℕ → ℕ → ℕ → Slot → Bool
is_slot kind number due s =
    nat_lt s.destination 32 && (state_kind s.state == kind) && (state_number s.state == number) && (state_due s.state == due)

-- the slot of a destination with a state of this kind, number and moment
unfoldable pub slot_of : ℕ → ℕ → ℕ → ℕ → Result Slot RecordFault
slot_of destination kind number due =
    state_of kind number due >>= λ state. tested (is_slot kind number due (record { destination = destination; state = state })) (record { destination = destination; state = state })

unfoldable pub slot_at : List ℕ → Result (Slot × List ℕ) RecordFault
slot_at bytes = do
  kind ← byte_at bytes
  destination ← number_at w32 kind.1
  number ← number_at w32 destination.1
  due ← number_at w64 number.1
  slot ← slot_of destination.0 kind.0 number.0 due.0
  Ok (slot, due.1)

-- ---- deliveries

-- the text of a flag and a text: the one received where the flag is 1 and no text is there, or another one
unfoldable pub payload_of : List ℕ → ℕ → List ℕ → Result (List ℕ) RecordFault
payload_of raw flag text =
    if flag == 0 then tested (not (bytes_eq text raw)) text
    else if flag == 1 then tested (length text == 0) raw
    else Err Unknown

-- a delivery of a message of these bytes
unfoldable pub delivery_at : List ℕ → List ℕ → Result (Delivery × List ℕ) RecordFault
delivery_at raw bytes = do
  flag ← byte_at bytes
  destination ← number_at w32 flag.1
  text ← text_at destination.1
  payload ← payload_of raw flag.0 text.0
  Ok (record { destination = destination.0; payload = payload }, text.1)

-- whether a delivery is to one of 32 destinations, with a text that can be framed
abbrev pub is_plain : List ℕ → Bool
is_plain text = list_all (λ b. not (is_framing b)) text

abbrev pub is_delivery : Delivery → Bool
is_delivery x = nat_lt x.destination 32 && is_plain x.payload

-- whether no two deliveries are to the same destination
abbrev pub are_apart : List Delivery → Bool
are_apart [] = true
are_apart (x ∷ xs) = not (names x.destination xs) && are_apart xs

abbrev pub are_deliveries : List Delivery → Bool
are_deliveries xs = nat_lt (length xs) 33 && list_all is_delivery xs && are_apart xs

-- the deliveries of a message of these bytes
unfoldable pub deliveries_at : List ℕ → List ℕ → Result (List Delivery × List ℕ) RecordFault
deliveries_at raw bytes = several_at (λ rest. delivery_at raw rest) bytes >>= λ xs. tested (are_deliveries xs.0) xs

-- ---- a remembered arrival

-- the answer of just this kind and number
unfoldable pub answer_of : ℕ → ℕ → Result Told RecordFault
answer_of kind number = told_of kind number >>= λ told. tested ((told_kind told == kind) && (told_number told == number)) told

unfoldable pub remembered_at : List ℕ → Result (Remembered × List ℕ) RecordFault
remembered_at bytes = do
  kind ← byte_at bytes
  number ← number_at w32 kind.1
  told ← answer_of kind.0 number.0
  place ← number_at w64 number.1
  channel ← number_at w32 place.1
  raw ← text_at channel.1
  deliveries ← deliveries_at raw.0 raw.1
  slots ← several_at slot_at deliveries.1
  Ok (record { place = place.0; channel = channel.0; raw = raw.0; told = told; deliveries = deliveries.0; slots = slots.0 }, slots.1)

-- ---- an opening

-- whether numbers increase, the first of them from a bound on
abbrev pub climb_from : ℕ → List ℕ → Bool
climb_from low [] = true
climb_from low (n ∷ ns) = nat_le low n && climb_from (n + 1) ns

-- the numbers at the front, and the bytes behind them
unfoldable pub numbers_at : List ℕ → Result (Head × List ℕ) RecordFault
numbers_at bytes = do
  events_max ← number_at w32 bytes
  places ← number_at w64 events_max.1
  messages ← number_at w32 places.1
  deployments ← number_at w32 messages.1
  prunings ← number_at w32 deployments.1
  Ok (record { events_max = events_max.0; places = places.0; messages = messages.0; deployments = deployments.0; prunings = prunings.0 }, prunings.1)

-- the numbers behind the number of this format
unfoldable pub head_at : List ℕ → Result (Head × List ℕ) RecordFault
head_at bytes = byte_at bytes >>= λ first. if first.0 == format then numbers_at first.1 else Err Unknown

-- an opening at the front, and the bytes behind it
unfoldable pub opening_at : List ℕ → Result (Written × List ℕ) RecordFault
opening_at bytes = do
  head ← head_at bytes
  document ← text_at head.1
  channels ← several_at channel_at document.1
  destinations ← several_at destination_at channels.1
  remembered ← several_at remembered_at destinations.1
  Ok (record { head = head.0; document = document.0; channels = channels.0; destinations = destinations.0; remembered = remembered.0 }, remembered.1)

-- an opening that takes all the bytes
unfoldable pub opening_in : List ℕ → Result Written RecordFault
opening_in bytes = opening_at bytes >>= λ found. tested (length found.1 == 0) found.0
