-- Which channels' reading pauses.
use Rattle.std.specs.Prelude.{ℕ, Bool, Option, Some, None, false, find, is_some, length, option_map, ◌+◌, ◌-◌, ◌*◌, ◌/◌, ◌||◌, ◌&&◌, ◌==◌, if◌then◌else◌, nat_lt, nat_le, min, slice_get, unwrap_or}
use Rattle.std.specs.Int.{bit_at}
use Rattle.std.specs.List.{list_any}
use Rattle.std.specs.Option.{option_map_or}
use Rattle.book_core.specs.declared.questions.Front.{Front}
use Rattle.book_lock.specs.Crowding.{crowds as crowds_load, owed_by_queue}
use Rattle.book_lock.specs.declared.crowding.Load.{Load}
use Rattle.book_lock.specs.declared.status.Gauge.{Gauge}
use Rattle.book_lock.specs.declared.status.Status.{Status}
use Rattle.plan_text.specs.Entries.{ChannelEntry, DestinationEntry, PlanEntry}
use Rattle.service_workers.specs.declared.pauses.PauseCause.{PauseCause}
use Rattle.service_workers.specs.declared.pauses.PauseCause.TheVariants as cause
use Rattle.stat_count.specs.Statistics.{destination_at}

-- as many messages are remembered as a pruning keeps, and one more for each entry of the bound
abbrev pub is_overfull : ℕ → Gauge → Bool
is_overfull keep g = nat_le (keep + g.events_max) (g.messages - g.first)

-- a pruning would forget more messages than an eighth of the bound: those before the first that is still to be delivered, but
-- for the last that are kept
abbrev pub frees_enough : ℕ → Status → Bool
frees_enough keep s =
    nat_lt (s.gauge.events_max / 8) (min (unwrap_or s.first_live s.gauge.messages) (s.gauge.messages - keep) - s.gauge.first)

-- the messages that wait for a destination or are in flight there
abbrev pub queued_at : Status → ℕ → ℕ
queued_at s d = (destination_at d s.counts).waiting + (destination_at d s.counts).inflight

-- the entries that may still follow from the messages that wait for a destination or are in flight there, if none was
-- tried: a take and a settlement for each attempt, and a cancellation
abbrev pub may_owe : Status → ℕ → DestinationEntry → ℕ
may_owe s d e = queued_at s d * (2 * e.attempts + 1)

-- this is more than half of the bound; where reading pauses, more than a quarter
abbrev pub crowds : Status → Bool → ℕ → DestinationEntry → Bool
crowds s paused d e = nat_lt s.gauge.events_max ((if paused then 4 else 2) * may_owe s d e)

-- this is so at the destination at an index of the plan
abbrev pub is_crowded : PlanEntry → Status → Bool → ℕ → Bool
is_crowded p s paused d = option_map_or (crowds s paused d) (slice_get p.destinations d) false

-- this is so at a destination to which the channel has a route
abbrev pub leads_to_crowd : PlanEntry → Status → Bool → ChannelEntry → Bool
leads_to_crowd p s paused c = list_any (λ r. is_crowded p s paused r.to) c.routes

-- ---- the message that keeps those behind it from being forgotten

-- four fifths as many messages are remembered as may be
abbrev pub is_filling : ℕ → Gauge → Bool
is_filling keep g = nat_le (4 * (keep + g.events_max)) (5 * (g.messages - g.first))

-- the message at the front of a destination's queue
abbrev pub front_at : Status → ℕ → Option Front
front_at s d = option_map_or (λ front. front) (slice_get s.fronts d) None

-- the first message that is still to be delivered is at the front of a destination's queue
abbrev pub holds_up : Status → ℕ → Bool
holds_up s d = option_map_or (λ n. option_map_or (λ front. front.number == n) (front_at s d) false) s.first_live false

-- a channel has a route to such a destination
abbrev pub leads_to_holder : Status → ChannelEntry → Bool
leads_to_holder s c = list_any (λ r. holds_up s r.to) c.routes

-- ---- what pauses

-- a channel waits for all, or for a destination that it has a route to
abbrev pub pauses : PlanEntry → Status → ℕ → Bool → ChannelEntry → Bool
pauses p s keep paused c =
    is_overfull keep s.gauge || (is_filling keep s.gauge && leads_to_holder s c || leads_to_crowd p s paused c)

-- the first destination to which a channel has a route and at which this is so
abbrev pub crowded_route : PlanEntry → Status → ChannelEntry → Option ℕ
crowded_route p s c = option_map (λ r. r.to) (find (λ r. is_crowded p s false r.to) c.routes)

-- ---- whose arrivals are held back

-- how full the book is, and among how many destinations what it owes is shared
abbrev pub load : PlanEntry → Status → Load
load p s = record { held = s.gauge.held; owed = s.gauge.owed; events_max = s.gauge.events_max; destinations = length p.destinations }

-- the destination at an index of the plan is crowded
abbrev pub is_held_back : PlanEntry → Status → ℕ → Bool
is_held_back p s d = option_map_or (λ e. crowds_load (load p s) (owed_by_queue (queued_at s d) e.attempts)) (slice_get p.destinations d) false

-- the first such destination that a channel has a route to
abbrev pub held_back_route : PlanEntry → Status → ChannelEntry → Option ℕ
held_back_route p s c = option_map (λ r. r.to) (find (λ r. is_held_back p s r.to) c.routes)

-- the channel at an index of the plan has a route to one
abbrev pub held_back_at : PlanEntry → Status → ℕ → Bool
held_back_at p s index = option_map_or (λ c. is_some (held_back_route p s c)) (slice_get p.channels index) false

-- ---- why

-- why a channel that reads has to pause, if it has to
abbrev pub pause_cause : PlanEntry → Status → ℕ → ChannelEntry → Option PauseCause
pause_cause p s keep c =
    if is_overfull keep s.gauge then Some cause.Remembered
    else (if is_filling keep s.gauge && leads_to_holder s c then Some cause.Filling
    else option_map_or (λ d. Some (cause.Queue d)) (crowded_route p s c) (option_map (λ d. cause.Share d) (held_back_route p s c)))

-- the channel at an index of the plan does, where those of a mask did before
abbrev pub pauses_at : PlanEntry → Status → ℕ → ℕ → ℕ → Bool
pauses_at p s keep before index = option_map_or (pauses p s keep (bit_at before index == 1)) (slice_get p.channels index) false
