-- Pruning: what is forgotten of a history, and the opening that remains of it.
use Rattle.std.specs.Prelude.{ℕ, ◌+◌, Bool, true, false, not, nat_lt, if◌then◌else◌, List, [], ◌++◌, length, map, filter, find, count_by, Option, None, Some, option_and_then}
use Rattle.std.specs.List.{filter_map, list_any, range_with_len}
use Rattle.std.specs.Option.{option_map_or}
use Rattle.judge_core.specs.declared.delivery.Delivery.{Delivery}
use Rattle.dest_queue.specs.declared.SlotState.{SlotState}
use Rattle.dest_queue.specs.declared.slots.Slot.{Slot}
use Rattle.stat_count.specs.declared.DestinationCounts.{DestinationCounts}
use Rattle.stat_count.specs.Statistics.{Statistics}
use Rattle.event_log.specs.declared.entry.Told.{Told}
use Rattle.event_log.specs.declared.entry.Told.TheVariants as told
use Rattle.event_log.specs.declared.entry.Entry.{Entry}
use Rattle.event_log.specs.declared.entry.Entry.TheVariants.{Arrival, Take, Settle, Cancel, Deploy}
use Rattle.event_log.specs.declared.refusal.PruneRefusal.{PruneRefusal}
use Rattle.event_log.specs.declared.refusal.PruneRefusal.TheVariants.{NoSuchMessage, StillLive, TooMany}
use Rattle.event_log.specs.History.{History, Snapshot, Remembered, begun, deliveries, entry_at, is_numbered, is_queued, message_count, next_place, number_told, plan_in_force, slot, state}
use Rattle.event_log.specs.Answers.{is_kept}
use Rattle.event_log.specs.Deployment.{deployments}
use Rattle.event_log.specs.Counting.{channel_counts, destination_before, destination_counts, is_delivered, is_failed}

-- whether message n is still to be delivered to one of the 32 destinations
abbrev pub is_live_message : History → ℕ → Bool
is_live_message h n = list_any (λ d. is_queued h d n) (range_with_len 0 32)

-- why the messages below this number aren't forgotten, if there is memory for it: nothing where they are
unfoldable pub prune_answer : History → ℕ → Option PruneRefusal
prune_answer h bound =
    if nat_lt (message_count h) bound then Some NoSuchMessage
    else option_map_or (λ n. Some (StillLive n)) (find (is_live_message h) (range_with_len 0 bound))
    (if nat_lt h.opening.prunings 1000 then None else Some TooMany)

-- ---- the arrivals that a history keeps

-- where the message of an arrival goes; nowhere where it was filtered
abbrev pub told_deliveries : History → Told → List Delivery
told_deliveries h told = option_map_or (deliveries h) (number_told told) []

-- the slots of the message of an arrival, one for each delivery, in their states now
abbrev pub told_slots : History → Told → List Slot
told_slots h told =
    option_map_or (λ n. map (λ x. record { destination = x.destination; state = state h n x.destination }) (deliveries h n)) (number_told told) []

-- an arrival as it is remembered from now on
abbrev pub recalled : History → ℕ → ℕ → List ℕ → Told → Remembered
recalled h place channel raw told =
    record { place = place; channel = channel; raw = raw; told = told; deliveries = told_deliveries h told; slots = told_slots h told }

-- what is remembered of the entry at an index: an arrival answered Accepted or Filtered
abbrev pub recalled_from : History → ℕ → Entry → Option Remembered
recalled_from h place (Arrival conn channel raw told) = if is_kept told then Some (recalled h place channel raw told) else None
recalled_from h place (Take ticket now) = None
recalled_from h place (Settle outcome ticket now state) = None
recalled_from h place (Cancel number among mask) = None
recalled_from h place (Deploy plan) = None

-- all arrivals answered Accepted or Filtered that are not forgotten yet, in order of index: those remembered at the
-- opening, and those booked since
abbrev pub known_arrivals : History → List Remembered
known_arrivals h =
    map (λ r. recalled h r.place r.channel r.raw r.told) h.opening.remembered
    ++ filter_map (λ place. option_and_then (recalled_from h place) (entry_at h place)) (range_with_len h.opening.places (length h.entries))

-- ---- what is forgotten

-- the index of the arrival of message n, or of the next entry where it is still to come; 0 where it is forgotten, since
-- all that arrived before it is forgotten too
abbrev pub arrival_place : History → ℕ → ℕ
arrival_place h n =
    option_map_or (λ r. r.place) (find (λ r. is_numbered n r.told) (known_arrivals h)) (if nat_lt n (message_count h) then 0 else next_place h)

-- whether an arrival with this answer is forgotten, where the messages below a bound are: an accepted one by its
-- number, and a filtered one that arrived before the message of that number did
abbrev pub goes_with : History → ℕ → ℕ → Told → Bool
goes_with h bound place (told.Accepted number) = nat_lt number bound
goes_with h bound place told.Filtered = nat_lt place (arrival_place h bound)
goes_with h bound place (told.Refused cause) = true
goes_with h bound place (told.Repeat first) = true

abbrev pub is_forgotten : History → ℕ → Remembered → Bool
is_forgotten h bound r = goes_with h bound r.place r.told

-- how many forgotten messages have a slot at the destination that is so
abbrev pub forgotten_count : History → ℕ → ℕ → (SlotState → Bool) → ℕ
forgotten_count h bound d so = count_by (λ n. option_map_or so (slot h n d) false) (range_with_len 0 bound)

-- what is counted of a destination and not remembered: the forgotten messages that it has and that failed there, and all attempts
abbrev pub forgotten_at : History → ℕ → ℕ → DestinationCounts
forgotten_at h bound d = record {
  waiting = 0;
  inflight = 0;
  delivered = (destination_before h d).delivered + forgotten_count h bound d is_delivered;
  failed = (destination_before h d).failed + forgotten_count h bound d is_failed;
  attempts = (destination_counts h d).attempts;
}

-- what is counted of all entries that are folded, and isn't remembered
abbrev pub forgotten : History → ℕ → Statistics
forgotten h bound =
    record { channels = map (channel_counts h) (range_with_len 0 64); destinations = map (forgotten_at h bound) (range_with_len 0 32) }

-- ---- what remains

-- the opening that a history leaves where all its entries are folded, by what is counted of them and not remembered, and what is remembered
abbrev pub closing : History → Statistics → List Remembered → Snapshot
closing h forgotten remembered = record {
  plan = plan_in_force h;
  events_max = h.opening.events_max;
  places = next_place h;
  messages = message_count h;
  deployments = deployments h;
  prunings = h.opening.prunings + 1;
  forgotten = forgotten;
  remembered = remembered;
}

-- the opening that remains where the messages below a bound are forgotten
abbrev pub folded : ℕ → History → Snapshot
folded bound h = closing h (forgotten h bound) (filter (λ r. not (is_forgotten h bound r)) (known_arrivals h))

-- the history that goes on from it
abbrev pub pruned : ℕ → History → History
pruned bound h = begun (folded bound h)
