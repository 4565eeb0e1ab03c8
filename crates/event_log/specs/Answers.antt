-- The sequential engine: its answer to each event, from what was booked before.
use Rattle.std.specs.Prelude.{ℕ, ◌+◌, ◌^◌, Bool, true, false, ◌&&◌, ◌||◌, ◌==◌, nat_lt, if◌then◌else◌, List, find, sum_by, slice_get, Option, None, Some, is_some, Result, Ok, Err}
use Rattle.std.specs.List.{list_any, position, range_with_len}
use Rattle.std.specs.Option.{option_map, option_map_or}
use Rattle.std.specs.Int.{bit_at}
use Rattle.std.specs.Str.{bytes_eq}
use Rattle.hl7_head.specs.declared.ack.Cause.TheVariants.{IdReused}
use Rattle.plan_text.specs.Entries.{PlanEntry}
use Rattle.judge_core.specs.declared.judged.Verdict.{Verdict}
use Rattle.judge_core.specs.declared.judged.Verdict.TheVariants as verdict
use Rattle.judge_core.specs.Judging.{verdict as decided, is_bookable, key_of}
use Rattle.dest_queue.specs.declared.SlotState.{SlotState}
use Rattle.dest_queue.specs.declared.SlotState.TheVariants.{Waiting, InFlight, Delivered, Failed}
use Rattle.dest_queue.specs.declared.Outcome.{Outcome}
use Rattle.dest_queue.specs.declared.SettleRefusal.{SettleRefusal}
use Rattle.dest_queue.specs.States.{is_waiting, slot_answer}
use Rattle.event_log.specs.declared.entry.Ticket.{Ticket}
use Rattle.event_log.specs.declared.entry.Told.{Told}
use Rattle.event_log.specs.declared.entry.Told.TheVariants as told
use Rattle.event_log.specs.declared.entry.Entry.{Entry}
use Rattle.event_log.specs.declared.entry.Entry.TheVariants.{Arrival, Take, Settle, Cancel, Deploy}
use Rattle.event_log.specs.declared.refusal.TakeRefusal.{TakeRefusal}
use Rattle.event_log.specs.declared.refusal.TakeRefusal.TheVariants.{Idle, InFlightNow, NotDue}
use Rattle.event_log.specs.declared.refusal.CancelRefusal.{CancelRefusal}
use Rattle.event_log.specs.declared.refusal.CancelRefusal.TheVariants.{NoSuchMessage, NothingWaiting}
use Rattle.event_log.specs.History.{History, Snapshot, Remembered, entry_at, message_at, message_count, plan_in_force, queue, slot}

-- whether a message is kept by its key: it was accepted or filtered
abbrev pub is_kept : Told → Bool
is_kept (told.Accepted number) = true
is_kept told.Filtered = true
is_kept (told.Refused cause) = false
is_kept (told.Repeat place) = false

-- whether an entry is the arrival of a message with this key, answered Accepted or Filtered
abbrev pub keeps : List ℕ → Entry → Bool
keeps key (Arrival conn channel raw told) = is_kept told && bytes_eq key (key_of channel raw)
keeps key (Take ticket now) = false
keeps key (Settle outcome ticket now state) = false
keeps key (Cancel number among mask) = false
keeps key (Deploy plan) = false

-- whether a remembered arrival has this key
abbrev pub has_key : List ℕ → Remembered → Bool
has_key key r = bytes_eq key (key_of r.channel r.raw)

-- the index of the remembered arrival with this key
abbrev pub known_before : Snapshot → List ℕ → Option ℕ
known_before opening key = option_map (λ r. r.place) (find (has_key key) opening.remembered)

-- the index of the arrival with this key, if one was accepted or filtered and isn't forgotten
abbrev pub known : History → List ℕ → Option ℕ
known h key =
    option_map_or (λ place. Some place) (known_before h.opening key)
    (option_map (λ k. h.opening.places + k) (position (keeps key) h.entries))

-- whether an entry is the arrival of these bytes
abbrev pub brings : List ℕ → Entry → Bool
brings raw (Arrival conn channel came told) = bytes_eq raw came
brings raw (Take ticket now) = false
brings raw (Settle outcome ticket now state) = false
brings raw (Cancel number among mask) = false
brings raw (Deploy plan) = false

-- whether a remembered arrival had this index and these bytes
abbrev pub brought_before : ℕ → List ℕ → Remembered → Bool
brought_before place raw r = (r.place == place) && bytes_eq raw r.raw

-- whether the arrival at this index has these bytes, as a remembered arrival or as an entry says
abbrev pub brings_at : History → List ℕ → ℕ → Bool
brings_at h raw place = list_any (brought_before place raw) h.opening.remembered || option_map_or (brings raw) (entry_at h place) false

-- whether the arrival at this index has this channel and these bytes and was accepted or filtered, as a remembered
-- arrival or as an entry says
abbrev pub is_first : History → ℕ → List ℕ → ℕ → Bool
is_first h channel raw place =
    list_any (λ r. has_key (key_of channel raw) r && brought_before place raw r) h.opening.remembered
    || option_map_or (λ e. keeps (key_of channel raw) e && brings raw e) (entry_at h place) false

-- the answer to a message whose key is known: the same bytes are a repeat, others a control id used again
abbrev pub told_again : History → List ℕ → ℕ → Told
told_again h raw place = if brings_at h raw place then told.Repeat place else told.Refused IdReused

-- the answer to a text with this verdict, where the next message gets this number;
-- none to a text that is no message, or an acknowledgment
abbrev pub told_by : ℕ → Verdict → Option Told
told_by number verdict.Unreadable = None
told_by number verdict.Stray = None
told_by number (verdict.Refuse cause) = Some (told.Refused cause)
told_by number verdict.Filtered = Some told.Filtered
told_by number (verdict.Accept deliveries) = Some (told.Accepted number)

-- the answer to a text that arrives on a channel; its key is looked up before it is judged
unfoldable pub arrival_answer : History → ℕ → List ℕ → Option Told
arrival_answer h channel raw =
    if is_bookable raw then
    option_map_or (λ place. Some (told_again h raw place)) (known h (key_of channel raw))
    (told_by (message_count h) (decided (plan_in_force h) channel raw))
    else None

-- the answer to a take at d, by the front's slot; a settled slot has left the queue
abbrev pub front_answer : ℕ → ℕ → ℕ → Option SlotState → Result Ticket TakeRefusal
front_answer d now n (Some (Waiting attempts due)) =
    if nat_lt now due then Err (NotDue due) else Ok (record { number = n; destination = d; attempt = attempts + 1 })
front_answer d now n (Some (InFlight attempt)) = Err (InFlightNow n)
front_answer d now n (Some Delivered) = Err Idle
front_answer d now n (Some (Failed cause)) = Err Idle
front_answer d now n None = Err Idle

-- the answer to a take at d
abbrev pub take_answer : History → ℕ → ℕ → Result Ticket TakeRefusal
take_answer h d now = option_map_or (λ n. front_answer d now n (slot h n d)) (slice_get (queue h d) 0) (Err Idle)

-- how often a message is sent to d at most; a message goes to destinations of the plan alone
abbrev pub attempts_max : PlanEntry → ℕ → ℕ
attempts_max plan d = option_map_or (λ x. x.attempts) (slice_get plan.destinations d) 0

-- how long a retry at d waits
abbrev pub interval : PlanEntry → ℕ → ℕ
interval plan d = option_map_or (λ x. x.interval) (slice_get plan.destinations d) 0

-- the answer to a settlement
abbrev pub settle_answer : History → Ticket → Outcome → ℕ → Result SlotState SettleRefusal
settle_answer h ticket outcome now =
    slot_answer (slot h ticket.number ticket.destination) outcome ticket.attempt now
    (attempts_max (plan_in_force h) ticket.destination) (interval (plan_in_force h) ticket.destination)

-- whether message n waits at d
abbrev pub waits : History → ℕ → ℕ → Bool
waits h n d = option_map_or is_waiting (slot h n d) false

-- the destinations that a test names, as a mask: bit d is set where it names d
unfoldable pub mask_where : (ℕ → Bool) → ℕ
mask_where test = sum_by (λ d. if test d then 2 ^ d else 0) (range_with_len 0 32)

-- whether message n waits at d, and a mask names d
abbrev pub waits_among : History → ℕ → ℕ → ℕ → Bool
waits_among h n among d = (bit_at among d == 1) && waits h n d

-- the answer to a cancellation among the destinations of a mask: the mask of those at which the message waits
abbrev pub cancel_answer : History → ℕ → ℕ → Result ℕ CancelRefusal
cancel_answer h n among =
    if is_some (message_at h n) then (if mask_where (waits_among h n among) == 0 then Err NothingWaiting else Ok (mask_where (waits_among h n among)))
    else Err NoSuchMessage
