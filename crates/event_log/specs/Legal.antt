-- Histories that a sequential engine gives.
use Rattle.std.specs.Prelude.{◌≡◌, ℕ, Some, Ok}
use Rattle.event_log.specs.declared.entry.Told.TheVariants as told
use Rattle.event_log.specs.declared.entry.Entry.{Entry}
use Rattle.event_log.specs.declared.entry.Entry.TheVariants.{Arrival}
use Rattle.event_log.specs.History.{Accepted, History, Remembered, before, entry_at, accepted_of, remembered_as}
use Rattle.event_log.specs.Event.{IsPossible, answer, event_of, reply_of}

-- an entry may be booked next: its event is possible, and its reply is the sequential engine's
pub record MayFollow (h : History) (x : Entry) : Type 0 where
  pub possible : IsPossible (event_of x)
  pub replied : answer h (event_of x) ≡ Ok (reply_of x)

-- each entry might be booked after those before it
pub record IsLegal (h : History) : Type 0 where
  pub follows : (place : ℕ) (e : Entry) → entry_at h place ≡ Some e → MayFollow (before h place) e

-- the arrival of message n, which was answered with this number
pub record HasArrival (h : History) (n : ℕ) (m : Accepted) : Type 0 where
  pub place : ℕ
  pub conn : ℕ
  pub entry : entry_at h place ≡ Some (Arrival conn m.channel m.raw (told.Accepted n))

-- message n is remembered of entries that were folded
pub record IsRemembered (h : History) (n : ℕ) (m : Accepted) : Type 0 where
  pub arrival : Remembered
  pub found : remembered_as h.opening n ≡ Some arrival
  pub is : m ≡ accepted_of arrival
