-- When what waits for a destination takes so much of a book that further arrivals for it have to wait.
use Rattle.std.specs.Prelude.{ℕ, Bool, ◌+◌, ◌*◌, ◌&&◌, ◌||◌, nat_le, nat_lt, max, length, find, slice_get, Option, option_and_then, option_map}
use Rattle.plan_text.specs.Entries.{ChannelEntry}
use Rattle.event_log.specs.Answers.{attempts_max}
use Rattle.event_log.specs.History.{History, plan_in_force, queue}
use Rattle.event_log.specs.Room.{owed}
use Rattle.book_lock.specs.declared.crowding.Load.{Load}

-- ---- by numbers

-- what so many messages owe at a destination that sends each so often at most: a take and a settlement for each attempt,
-- and a cancellation, as if none was tried yet
abbrev pub owed_by_queue : ℕ → ℕ → ℕ
owed_by_queue messages attempts = messages * (2 * attempts + 1)

-- more than three quarters of the bound are entries or owed, and a pruning would free little: less than an eighth of the
-- bound are entries
abbrev pub is_pressed : Load → Bool
is_pressed l = nat_lt (3 * l.events_max) (4 * (l.held + l.owed)) && nat_lt (8 * l.held) l.events_max

-- a destination that owes so much owes at least an equal share of all that is owed: that of one among the destinations of
-- the plan, or of one among three where the plan has fewer
abbrev pub has_equal_share : Load → ℕ → Bool
has_equal_share l here = nat_le l.owed (max 3 l.destinations * here)

-- a destination that owes so much is crowded: this is more than half of the bound, or an equal share of a book that is pressed
abbrev pub crowds : Load → ℕ → Bool
crowds l here = nat_lt l.events_max (2 * here) || is_pressed l && has_equal_share l here

-- ---- of a book

abbrev pub load_of : History → Load
load_of h = record {
  held = length h.entries;
  owed = owed h;
  events_max = h.opening.events_max;
  destinations = length (plan_in_force h).destinations;
}

-- what a destination owes: what follows from the messages that wait for it or are in flight there
abbrev pub owed_at : History → ℕ → ℕ
owed_at h d = owed_by_queue (length (queue h d)) (attempts_max (plan_in_force h) d)

abbrev pub is_crowded : History → ℕ → Bool
is_crowded h d = crowds (load_of h) (owed_at h d)

-- the first destination that a channel has a route to and that is crowded
abbrev pub crowded_among : History → ChannelEntry → Option ℕ
crowded_among h c = option_map (λ r. r.to) (find (λ r. is_crowded h r.to) c.routes)

-- that of the channel at an index of the plan in force
abbrev pub crowded_route : History → ℕ → Option ℕ
crowded_route h channel = option_and_then (crowded_among h) (slice_get (plan_in_force h).channels channel)
