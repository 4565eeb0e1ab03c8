-- What is read of a shared book by a call that no seat makes, and that adds nothing to the log.
use Rattle.std.specs.Prelude.{◌≡◌, ◌<◌, ◌+◌, ◌-◌, ℕ, List, Option, None, Some, IfSome, filter, find, ◌==◌, if◌then◌else◌, min, nat_lt, option_and_then, slice_get}
use Rattle.std.specs.List.{filter_map, range_with_len}
use Rattle.std.specs.Option.{option_map}
use Rattle.event_log.specs.History.{History, deliveries, message_at, message_count, plan_in_force, slot}
use Rattle.plan_text.specs.Entries.{PlanEntry}
use Rattle.book_core.specs.declared.questions.Failure.{Failure}
use Rattle.book_core.specs.declared.questions.Front.{Front}
use Rattle.book_core.specs.inner.Questions.{CameBy, failed_as, first_live, has_control_id, live_at, queued_as}
use Rattle.book_lock.specs.declared.message.Found.{Found}
use Rattle.book_lock.specs.declared.message.Found.TheVariants.{ToCome, Forgotten, Kept}
use Rattle.book_lock.specs.declared.message.Message.{Message}
use Rattle.book_lock.specs.declared.status.Gauge.{Gauge}
use Rattle.book_lock.specs.declared.status.Status.{Status}
use Rattle.book_lock.specs.Rises.{SharedBook}
use Rattle.book_lock.specs.inner.Showing.{IsGauge, IsStatus}

-- how full the book is, with how many connections were admitted
pub record IsGaugeOf (h : History) (g : Gauge) : Type 0 where
  pub shared : SharedBook
  pub book : shared.book ≡ h
  pub gauge : IsGauge shared g

-- that, the statistics, the front of each queue, the first message that is still to be delivered, and the plan in force
pub record IsStatusOf (h : History) (s : Status) (plan : PlanEntry) : Type 0 where
  pub shared : SharedBook
  pub book : shared.book ≡ h
  pub status : IsStatus shared s
  pub in_force : plan ≡ plan_in_force h

-- the first message that is still to be delivered to a destination, with the first such destination
abbrev pub first_live_at : History → Option (ℕ × ℕ)
first_live_at h = option_and_then (λ n. option_map (λ d. (n, d)) (live_at h n)) (first_live h)

-- as many message numbers as may be looked at, from one on, up to the last message that was accepted
abbrev pub window : History → ℕ → ℕ → List ℕ
window h from most = range_with_len from (min (message_count h) (from + most) - from)

-- the messages among these that are still to be delivered to destination d, with their states there
abbrev pub waiting_among : History → ℕ → ℕ → ℕ → List Front
waiting_among h d from most = filter_map (queued_as h d) (window h from most)

-- the messages among these that failed at destination d, with why
abbrev pub failed_among : History → ℕ → ℕ → ℕ → List Failure
failed_among h d from most = filter_map (failed_as h d) (window h from most)

-- the remembered messages among these whose control id (MSH-10, raw) is this one
abbrev pub found_among : History → List ℕ → ℕ → ℕ → List ℕ
found_among h id from most = filter (has_control_id h id) (window h from most)

-- the text of message n for destination d, if it is remembered and goes there
abbrev pub text_for : History → ℕ → ℕ → Option (List ℕ)
text_for h n d = option_map (λ x. x.payload) (find (λ x. x.destination == d) (deliveries h n))

-- what is said of a remembered message: as it arrived, and its state at each destination
pub record IsMessage (h : History) (n : ℕ) (m : Message) : Type 0 where
  pub channel : option_map (λ a. a.channel) (message_at h n) ≡ Some m.channel
  pub raw : option_map (λ a. a.raw) (message_at h n) ≡ Some m.raw
  pub conn : IfSome m.conn (CameBy h n)
  pub states : (d : ℕ) → d < 32 → slice_get m.states d ≡ Some (slot h n d)

-- a message that isn't remembered: it is forgotten where as many messages were accepted, and is to come where not
pub record IsNotKept (h : History) (n : ℕ) (found : Found) : Type 0 where
  pub not_kept : message_at h n ≡ None
  pub which : found ≡ (if nat_lt n (message_count h) then Forgotten else ToCome)

-- what is said of message n
abbrev pub IsFound : History → ℕ → Found → Type 0
IsFound h n (Kept m) = IsMessage h n m
IsFound h n ToCome = IsNotKept h n ToCome
IsFound h n Forgotten = IsNotKept h n Forgotten
