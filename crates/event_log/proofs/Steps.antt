-- What each event changes.
use Rattle.std.proofs.Common.{◌≡◌, ℕ, ◌+◌, ◌<◌, ◌≤◌, false, cond, ◌==◌, ◌&&◌, List, ◌++◌, None, Some}
use Rattle.std.specs.Prelude.{slice_get, option_to_list}
use Rattle.std.specs.Int.{bit_at}
use Rattle.std.specs.Option.{option_map_or}
use Rattle.plan_text.specs.Entries.{PlanEntry}
use Rattle.dest_queue.specs.declared.SlotState.{SlotState}
use Rattle.dest_queue.specs.declared.SlotState.TheVariants.{Waiting, InFlight, Failed}
use Rattle.dest_queue.specs.declared.FailCause.TheVariants.{Cancelled}
use Rattle.dest_queue.specs.declared.Outcome.{Outcome}
use Rattle.dest_queue.specs.States.{is_waiting, state_after}
use Rattle.event_log.specs.declared.entry.Ticket.{Ticket}
use Rattle.event_log.specs.declared.entry.Told.{Told}
use Rattle.event_log.specs.declared.entry.Told.TheVariants as told
use Rattle.event_log.specs.declared.entry.Entry.{Entry}
use Rattle.event_log.specs.declared.entry.Entry.TheVariants.{Arrival, Take, Settle, Cancel, Deploy}
use Rattle.event_log.specs.History.{History, accepted, accepted_by, followed_by, is_for, message_count, next_place, plan_in_force, queue, slot, state}
use Rattle.event_log.specs.Answers.{attempts_max, interval, keeps, known, mask_where, waits_among}
use Rattle.event_log.specs.Room.{is_in_flight, message_total, owed, own, slot_owed}
use Rattle.event_log.specs.inner.Room.{in_flight}
use Rattle.event_log.specs.inner.Legal.{IsSound}

-- an entry that is no arrival brings no message, and no key
pub record BringsNothing (h : History) (e : Entry) : Type 0 where
  pub accepted : accepted (followed_by h e) ≡ accepted h
  pub known : (key : List ℕ) → known (followed_by h e) key ≡ known h key

-- a take: the front, which waits, is in flight; one entry less is owed
pub record TakeStep (h : History) (now : ℕ) (ticket : Ticket) : Type 0 where
  pub attempts : ℕ
  pub due : ℕ
  pub waited : slot h ticket.number ticket.destination ≡ Some (Waiting attempts due)
  pub attempt : ticket.attempt ≡ attempts + 1
  pub allowed : attempts < attempts_max (plan_in_force h) ticket.destination
  pub exists : ticket.number < message_count h
  pub front : slice_get (queue h ticket.destination) 0 ≡ Some ticket.number
  pub sound : IsSound (followed_by h (Take ticket now))
  pub nothing : BringsNothing h (Take ticket now)
  pub state : (n d : ℕ) → state (followed_by h (Take ticket now)) n d ≡ cond (is_for n d ticket) (InFlight ticket.attempt) (state h n d)
  pub owed : owed (followed_by h (Take ticket now)) + 1 ≡ owed h
  pub in_flight : in_flight (followed_by h (Take ticket now)) ≡ in_flight h + 1

-- a settlement: the slot was in flight with that attempt, and is as the outcome leaves it
pub record SettleStep (h : History) (ticket : Ticket) (outcome : Outcome) (now : ℕ) (after : SlotState) : Type 0 where
  pub flew : slot h ticket.number ticket.destination ≡ Some (InFlight ticket.attempt)
  pub after_is : after ≡ state_after outcome ticket.attempt now (attempts_max (plan_in_force h) ticket.destination) (interval (plan_in_force h) ticket.destination)
  pub landed : is_in_flight after ≡ false
  pub allowed : ticket.attempt ≤ attempts_max (plan_in_force h) ticket.destination
  pub exists : ticket.number < message_count h
  pub sound : IsSound (followed_by h (Settle outcome ticket now after))
  pub nothing : BringsNothing h (Settle outcome ticket now after)
  pub state : (n d : ℕ) → state (followed_by h (Settle outcome ticket now after)) n d ≡ cond (is_for n d ticket) after (state h n d)
  pub owed : owed (followed_by h (Settle outcome ticket now after)) + slot_owed (attempts_max (plan_in_force h) ticket.destination) (InFlight ticket.attempt)
      ≡ owed h + slot_owed (attempts_max (plan_in_force h) ticket.destination) after
  pub in_flight : in_flight (followed_by h (Settle outcome ticket now after)) + 1 ≡ in_flight h

-- what the slots of a message that wait at the destinations of a mask owe
abbrev pub waiting_owed : History → ℕ → ℕ → ℕ
waiting_owed h n among = message_total (λ d state. cond ((bit_at among d == 1) && is_waiting state) (slot_owed (attempts_max (plan_in_force h) d) state) 0) (slot h n)

-- a cancellation: each slot of the message that waits at one of these destinations has failed, and owes nothing any more
pub record CancelStep (h : History) (number among mask : ℕ) : Type 0 where
  pub exists : number < message_count h
  pub mask_is : mask ≡ mask_where (waits_among h number among)
  pub bits : (d : ℕ) → (bit_at mask d == 1) ≡ waits_among h number among d
  pub sound : IsSound (followed_by h (Cancel number among mask))
  pub nothing : BringsNothing h (Cancel number among mask)
  pub state : (n d : ℕ) → state (followed_by h (Cancel number among mask)) n d ≡ cond ((number == n) && (bit_at mask d == 1)) (Failed Cancelled) (state h n d)
  pub owed : owed (followed_by h (Cancel number among mask)) + waiting_owed h number among ≡ owed h
  pub in_flight : in_flight (followed_by h (Cancel number among mask)) ≡ in_flight h

-- a deployment: another plan is in force, and no slot and nothing owed changes
pub record DeployStep (h : History) (plan : PlanEntry) : Type 0 where
  pub sound : IsSound (followed_by h (Deploy plan))
  pub nothing : BringsNothing h (Deploy plan)
  pub in_force : plan_in_force (followed_by h (Deploy plan)) ≡ plan
  pub state : (n d : ℕ) → state (followed_by h (Deploy plan)) n d ≡ state h n d
  pub owed : owed (followed_by h (Deploy plan)) ≡ owed h
  pub in_flight : in_flight (followed_by h (Deploy plan)) ≡ in_flight h

-- an accepted message has the next number
abbrev pub IsNumbered : ℕ → Told → Type 0
IsNumbered next (told.Accepted number) = number ≡ next
IsNumbered next told.Filtered = Unit {0}
IsNumbered next (told.Refused cause) = Unit {0}
IsNumbered next (told.Repeat place) = Unit {0}

-- an arrival: no slot of a message before it changes, and those that it adds wait for their first attempt
pub record ArrivalStep (h : History) (conn channel : ℕ) (raw : List ℕ) (reply : Told) : Type 0 where
  pub numbered : IsNumbered (message_count h) reply
  pub sound : IsSound (followed_by h (Arrival conn channel raw reply))
  pub accepted : accepted (followed_by h (Arrival conn channel raw reply)) ≡ accepted h ++ option_to_list (accepted_by (plan_in_force h) (Arrival conn channel raw reply))
  pub known : (key : List ℕ) → known (followed_by h (Arrival conn channel raw reply)) key
      ≡ option_map_or (λ place. Some place) (known h key) (cond (keeps key (Arrival conn channel raw reply)) (Some (next_place h)) None)
  pub state : (n d : ℕ) → state (followed_by h (Arrival conn channel raw reply)) n d ≡ state h n d
  pub owed : owed (followed_by h (Arrival conn channel raw reply)) ≡ owed h + own h channel raw
  pub in_flight : in_flight (followed_by h (Arrival conn channel raw reply)) ≡ in_flight h
