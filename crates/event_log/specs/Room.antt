-- The room that a history keeps for the deliveries of its messages.
use Rattle.std.specs.Prelude.{ℕ, ◌+◌, ◌-◌, ◌*◌, Bool, true, false, nat_lt, List, [], length, sum_by, Option}
use Rattle.std.specs.List.{range_with_len}
use Rattle.std.specs.Option.{option_map_or}
use Rattle.plan_text.specs.Entries.{PlanEntry}
use Rattle.judge_core.specs.Judging.{named as named_by}
use Rattle.dest_queue.specs.declared.SlotState.{SlotState}
use Rattle.dest_queue.specs.declared.SlotState.TheVariants.{Waiting, InFlight, Delivered, Failed}
use Rattle.event_log.specs.declared.entry.Told.{Told}
use Rattle.event_log.specs.declared.entry.Told.TheVariants as told
use Rattle.event_log.specs.History.{History, numbers, plan_in_force, slot}
use Rattle.event_log.specs.Answers.{arrival_answer, attempts_max}

-- the sum of a weight over the slots of one message
abbrev pub message_total : (ℕ → SlotState → ℕ) → (ℕ → Option SlotState) → ℕ
message_total weight slots = sum_by (λ d. option_map_or (weight d) (slots d) 0) (range_with_len 0 32)

-- the sum of a weight over the slots of all messages; a forgotten one has none
unfoldable pub total : (ℕ → SlotState → ℕ) → History → ℕ
total weight h = sum_by (λ n. message_total weight (slot h n)) (numbers h)

-- the entries that may still follow from a slot, if it may have `max` attempts: a take and a settlement for each attempt
-- to come, a cancellation, and the settlement of the attempt under way
abbrev pub slot_owed : ℕ → SlotState → ℕ
slot_owed max (Waiting attempts due) = 2 * (max - attempts) + 1
slot_owed max (InFlight attempt) = 2 * (max - attempt) + 2
slot_owed max Delivered = 0
slot_owed max (Failed cause) = 0

-- the entries that may still follow from all slots
abbrev pub owed : History → ℕ
owed h = total (λ d. slot_owed (attempts_max (plan_in_force h) d)) h

-- whether an attempt is under way
abbrev pub is_in_flight : SlotState → Bool
is_in_flight (Waiting attempts due) = false
is_in_flight (InFlight attempt) = true
is_in_flight Delivered = false
is_in_flight (Failed cause) = false

-- what a new message owes
abbrev pub committed_by_new : PlanEntry → List ℕ → ℕ
committed_by_new plan named = sum_by (λ d. 2 * attempts_max plan d + 1) named

-- the destinations that an arrival adds slots at: those that it names, if it is accepted
abbrev pub slots_added : PlanEntry → ℕ → List ℕ → Told → List ℕ
slots_added plan channel raw (told.Accepted number) = named_by plan channel raw
slots_added plan channel raw told.Filtered = []
slots_added plan channel raw (told.Refused cause) = []
slots_added plan channel raw (told.Repeat place) = []

-- what the slots of an arrival would owe
abbrev pub own : History → ℕ → List ℕ → ℕ
own h channel raw =
    option_map_or (λ told. committed_by_new (plan_in_force h) (slots_added (plan_in_force h) channel raw told))
    (arrival_answer h channel raw) 0

-- one more entry, whose own slots owe `own`, exceeds what the history may hold; folded entries take no room
abbrev pub is_over_limit : History → ℕ → Bool
is_over_limit h own = nat_lt h.opening.events_max (length h.entries + owed h + 1 + own)

-- there is no room for an arrival
unfoldable pub is_full : History → ℕ → List ℕ → Bool
is_full h channel raw = is_over_limit h (own h channel raw)
