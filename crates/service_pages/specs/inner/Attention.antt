-- What needs a person's attention in a service, as it is seen at one moment: what the alert rules fire on.
use Rattle.std.specs.Prelude.{ℕ, Bool, false, ◌≡◌, ◌<◌, ◌+◌, ◌-◌, ◌*◌, ◌&&◌, ◌||◌, ◌==◌, nat_lt, nat_le, length, is_some, slice_get}
use Rattle.std.specs.Int.{bit_at}
use Rattle.std.specs.Option.{option_map_or}
use Rattle.book_lock.specs.declared.status.Gauge.{Gauge}
use Rattle.service_pages.specs.declared.view.View.{View}
use Rattle.service_pages.specs.declared.watch.Rising.{Rising}
use Rattle.service_pages.specs.declared.watch.Watch.{Watch}

-- ---- over time

-- the moment, in seconds since 1970, at which the failed messages of a destination were last seen to become more; 0: never
abbrev pub failed_at : Watch → ℕ → ℕ
failed_at w d = option_map_or (λ seen. seen.failed.at) (slice_get w.noticed d) 0

-- a count rose within the last 15 minutes before a moment in seconds
abbrev pub is_recent : Rising → ℕ → Bool
is_recent count now = nat_lt 0 count.at && nat_lt (now - count.at) 900

-- ---- of a channel

abbrev pub is_paused : View → ℕ → Bool
is_paused v c = bit_at v.figures.now.paused c == 1

-- as many connections of a channel are open as can be served at once
abbrev pub is_taken : View → ℕ → Bool
is_taken v c = option_map_or (λ places. nat_lt 0 places && option_map_or (nat_le places) (slice_get v.figures.now.open_by_channel c) false)
    (slice_get v.figures.now.places c) false

-- one of its messages was refused by its content within the last 15 minutes
abbrev pub is_refusing : View → ℕ → Bool
is_refusing v c = option_map_or (λ count. is_recent count v.figures.now.now) (slice_get v.watch.now.refused c) false

abbrev pub is_channel_troubled : View → ℕ → Bool
is_channel_troubled v c = is_paused v c || is_taken v c || is_refusing v c

-- ---- of a destination

-- a message is first in its queue
abbrev pub is_queued : View → ℕ → Bool
is_queued v d = option_map_or is_some (slice_get v.status.now.fronts d) false

-- messages wait for it, and there is no connection to it since one failed or could not be opened
abbrev pub is_cut_off : View → ℕ → Bool
is_cut_off v d = is_queued v d && (bit_at v.figures.now.unconnected d == 1)

abbrev pub is_held : View → ℕ → Bool
is_held v d = bit_at v.figures.now.held d == 1

-- a message failed there within the last hour
abbrev pub has_failed : View → ℕ → Bool
has_failed v d = nat_lt 0 (failed_at v.watch.now d) && nat_lt (v.figures.now.now - failed_at v.watch.now d) 3600

abbrev pub is_destination_troubled : View → ℕ → Bool
is_destination_troubled v d = is_cut_off v d || is_held v d || has_failed v d

-- ---- of the service

-- the entries of the book and those that it owes are more than nine tenths of its bound
abbrev pub is_filling : View → Bool
is_filling v = nat_lt (9 * v.status.now.gauge.events_max) (10 * (v.status.now.gauge.held + v.status.now.gauge.owed))

-- more than half as many messages are remembered as may be, by the book and how many a pruning keeps
abbrev pub is_half : Gauge → ℕ → Bool
is_half g keep = nat_lt (keep + g.events_max) (2 * (g.messages - g.first))

abbrev pub is_remembering : View → Bool
is_remembering v = is_half v.status.now.gauge v.figures.now.keep

-- a message was not booked, or a block that is no acknowledgment dropped, within the last 15 minutes
abbrev pub has_lost_some : View → Bool
has_lost_some v = is_recent v.watch.now.unbooked v.figures.now.now || is_recent v.watch.now.dropped v.figures.now.now

-- one of these is so, or the plan in force is neither that of the command line nor one that was deployed since
abbrev pub is_service_troubled : View → Bool
is_service_troubled v = is_filling v || is_remembering v || has_lost_some v || v.figures.now.plan_differs

-- nothing of this is so of the service, a channel or a destination of the plan
pub record IsUndisturbed (v : View) : Type 0 where
  pub service : is_service_troubled v ≡ false
  pub channels : (c : ℕ) → c < length v.plan.now.channels → is_channel_troubled v c ≡ false
  pub destinations : (d : ℕ) → d < length v.plan.now.destinations → is_destination_troubled v d ≡ false
