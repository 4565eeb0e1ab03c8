-- Histories that are alike outside what one of them has forgotten.
use Rattle.std.specs.Prelude.{◌≡◌, ◌<◌, ℕ, Bool, true, false, ◌&&◌, nat_lt, slice_get, IfOk, List, [], ◌∷◌, None, Some}
use Rattle.std.specs.List.{list_any}
use Rattle.judge_core.specs.Judging.{key_of}
use Rattle.event_log.specs.declared.entry.Ticket.{Ticket}
use Rattle.event_log.specs.History.{History, control_id, entry_at, is_queued, message_at, message_count, next_place, payload, plan_in_force, queue, slot}
use Rattle.event_log.specs.Answers.{brings_at, has_key, known, take_answer}
use Rattle.event_log.specs.Counting.{channel_counts, destination_counts}
use Rattle.event_log.specs.Deployment.{deploy_answer, deployments}
use Rattle.event_log.specs.Folding.{known_arrivals, is_forgotten}
use Rattle.event_log.specs.Event.{Event, answer, arrive, cancel, deploy, next, settle, take}
use Rattle.event_log.specs.Room.{is_over_limit, is_full}

-- messages, keys and indices that are left aside
pub record Aside : Type 0 where
  pub messages : ℕ → Bool
  pub keys : List ℕ → Bool
  pub places : ℕ → Bool

-- what a history has no more, once the messages below a bound are forgotten and its entries are folded
abbrev pub forgotten_by : ℕ → History → Aside
forgotten_by bound h = record {
  messages = λ n. nat_lt n bound;
  keys = λ key. list_any (λ r. has_key key r && is_forgotten h bound r) (known_arrivals h);
  places = λ place. nat_lt place (next_place h);
}

-- two histories are alike, but for earlier messages, keys and indices that are left aside, and no such message is in
-- a queue
pub record IsAlike (aside : Aside) (h k : History) : Type 0 where
  pub plan : plan_in_force k ≡ plan_in_force h
  pub places : next_place k ≡ next_place h
  pub messages : message_count k ≡ message_count h
  pub deployments : deployments k ≡ deployments h
  pub channels : (c : ℕ) → c < 64 → channel_counts k c ≡ channel_counts h c
  pub destinations : (d : ℕ) → d < 32 → destination_counts k d ≡ destination_counts h d
  pub queues : (d : ℕ) → queue k d ≡ queue h d
  -- the set is of the past, and nothing in it is still to be delivered
  pub earlier : (n : ℕ) → aside.messages n ≡ true → n < message_count h
  pub folded : (place : ℕ) → aside.places place ≡ true → place < next_place h
  pub settled : (n d : ℕ) → aside.messages n ≡ true → is_queued h d n ≡ false
  -- what is outside it
  pub entries : (place : ℕ) → aside.places place ≡ false → entry_at k place ≡ entry_at h place
  pub message : (n : ℕ) → aside.messages n ≡ false → message_at k n ≡ message_at h n
  pub slots : (n d : ℕ) → aside.messages n ≡ false → slot k n d ≡ slot h n d
  pub keys : (key : List ℕ) → aside.keys key ≡ false → known k key ≡ known h key
  pub bytes : (key raw : List ℕ) (place : ℕ) → aside.keys key ≡ false → known h key ≡ Some place →
      brings_at k raw place ≡ brings_at h raw place

-- an event names nothing that is left aside: not the key of the text that arrived, and not the message of a
-- settlement or a cancellation
abbrev pub IsApart : Aside → Event → Type 0
IsApart aside (arrive conn channel raw) = aside.keys (key_of channel raw) ≡ false
IsApart aside (take d now) = Unit {0}
IsApart aside (settle ticket outcome now) = aside.messages ticket.number ≡ false
IsApart aside (cancel number among) = aside.messages number ≡ false
IsApart aside (deploy plan) = Unit {0}

-- There is room for an event: for an arrival, and for a deployment that nothing else refuses. A take, a settlement and a
-- cancellation need none.
abbrev pub Fits : History → Event → Type 0
Fits h (arrive conn channel raw) = is_full h channel raw ≡ false
Fits h (take d now) = Unit {0}
Fits h (settle ticket outcome now) = Unit {0}
Fits h (cancel number among) = Unit {0}
Fits h (deploy plan) = deploy_answer h plan ≡ None → is_over_limit h 0 ≡ false

-- an event that names nothing aside and for which both histories have room
pub record IsMet (aside : Aside) (h k : History) (e : Event) : Type 0 where
  pub apart : IsApart aside e
  pub room : Fits h e
  pub its_room : Fits k e

-- a ticket has the same control id and the same payload, and the plan in force has its destination with the same entry, so that
-- an acknowledgment is expected by both or by neither
pub record SendsAlike (h k : History) (ticket : Ticket) : Type 0 where
  pub id : control_id k ticket.number ≡ control_id h ticket.number
  pub text : payload k ticket.number ticket.destination ≡ payload h ticket.number ticket.destination
  pub destination : slice_get (plan_in_force k).destinations ticket.destination ≡ slice_get (plan_in_force h).destinations ticket.destination

-- a take sends the same
abbrev pub TakesAlike : History → History → Event → Type 0
TakesAlike h k (arrive conn channel raw) = Unit {0}
TakesAlike h k (take d now) = IfOk (take_answer h d now) (SendsAlike h k)
TakesAlike h k (settle ticket outcome now) = Unit {0}
TakesAlike h k (cancel number among) = Unit {0}
TakesAlike h k (deploy plan) = Unit {0}

-- both histories give the same reply to an event, or refuse it for the same reason, and a take sends the same
pub record RepliesAlike (h k : History) (e : Event) : Type 0 where
  pub replied : answer k e ≡ answer h e
  pub sends : TakesAlike h k e

-- each of these events, in this order, is met so by the histories that those before it have left
abbrev pub AreMet : Aside → History → History → List Event → Type 0
AreMet aside h k [] = Unit {0}
AreMet aside h k (e ∷ es) = IsMet aside h k e × AreMet aside (next h e) (next k e) es

-- and gets the same answer
abbrev pub AllReplyAlike : History → History → List Event → Type 0
AllReplyAlike h k [] = Unit {0}
AllReplyAlike h k (e ∷ es) = RepliesAlike h k e × AllReplyAlike (next h e) (next k e) es
