-- Questions about a history, which don't change it.
use Rattle.std.specs.Prelude.{◌≡◌, ◌+◌, ◌-◌, ◌*◌, ℕ, Bool, false, ◌&&◌, not, nat_lt, if◌then◌else◌, List, length, find, slice_get, Option, None, Some, option_and_then}
use Rattle.std.specs.List.{range_with_len}
use Rattle.std.specs.Option.{option_map, option_map_or}
use Rattle.std.specs.Str.{bytes_eq}
use Rattle.dest_queue.specs.declared.SlotState.{SlotState}
use Rattle.dest_queue.specs.declared.SlotState.TheVariants.{Failed}
use Rattle.dest_queue.specs.States.{is_live}
use Rattle.event_log.specs.declared.entry.Told.TheVariants.{Accepted as AcceptedAs}
use Rattle.event_log.specs.declared.entry.Entry.TheVariants.{Arrival}
use Rattle.event_log.specs.Folding.{is_live_message}
use Rattle.event_log.specs.History.{Accepted, History, control_id_of, entry_at, is_queued, message_at, message_count, numbers, queue, slot}
use Rattle.event_log.specs.Room.{owed}
use Rattle.book_core.specs.declared.letter.Outbound.{Outbound}
use Rattle.book_core.specs.declared.questions.Failure.{Failure}
use Rattle.book_core.specs.declared.questions.Front.{Front}

-- ---- what is still to be delivered

-- the first message that waits or is in flight at one of the 32 destinations
abbrev pub first_live : History → Option ℕ
first_live h = find (is_live_message h) (numbers h)

-- the first destination at which message n waits or is in flight
abbrev pub live_at : History → ℕ → Option ℕ
live_at h n = find (λ d. is_queued h d n) (range_with_len 0 32)

-- message n with its state at a destination
abbrev pub standing : ℕ → SlotState → Front
standing n state = record { number = n; state = state }

-- message n with its state at d, where it waits or is in flight there
abbrev pub queued_as : History → ℕ → ℕ → Option Front
queued_as h d n = option_and_then (λ state. if is_live state then Some (standing n state) else None) (slot h n d)

-- the front of queue d with its state there
abbrev pub front_at : History → ℕ → Option Front
front_at h d = option_and_then (λ n. option_map (standing n) (slot h n d)) (slice_get (queue h d) 0)

-- ---- what failed

-- message n with why it failed, where its state says that it did
abbrev pub failure : ℕ → SlotState → Option Failure
failure n (Failed cause) = Some (record { number = n; cause = cause })
failure n _ = None

-- message n with why it failed at destination d, where it did
abbrev pub failed_as : History → ℕ → ℕ → Option Failure
failed_as h d n = option_and_then (failure n) (slot h n d)

-- ---- what can be forgotten

-- the number before which all is settled but for the last messages
abbrev pub settled_before : ℕ → History → ℕ
settled_before keep h =
    if nat_lt (message_count h - keep) (option_map_or (λ n. n) (first_live h) (message_count h)) then message_count h - keep
    else option_map_or (λ n. n) (first_live h) (message_count h)

-- whether more than three quarters of the bound are held or owed, and an eighth at least is held, so that folding makes room
abbrev pub is_tight : History → Bool
is_tight h = nat_lt (3 * h.opening.events_max) (4 * (length h.entries + owed h)) && not (nat_lt (8 * length h.entries) h.opening.events_max)

-- ---- what is remembered

-- what was received as a message, by what is kept of it
abbrev pub came_as : Outbound → Accepted
came_as letter = record { channel = letter.channel; raw = letter.raw; deliveries = letter.deliveries }

-- message n arrived over a connection, as the entry of its arrival says
pub record CameBy (h : History) (n conn : ℕ) : Type 0 where
  pub place : ℕ
  pub channel : ℕ
  pub raw : List ℕ
  pub entry : entry_at h place ≡ Some (Arrival conn channel raw (AcceptedAs n))

-- whether message n is remembered and its control id (MSH-10, raw) is this one
abbrev pub has_control_id : History → List ℕ → ℕ → Bool
has_control_id h id n = option_map_or (λ m. bytes_eq (control_id_of m.raw) id) (message_at h n) false
