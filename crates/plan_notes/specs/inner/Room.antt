-- How many messages a book takes.
use Rattle.std.specs.Prelude.{◌≡◌, ℕ, Bool, true, false, ◌↔◌, ◌+◌, ◌-◌, ◌*◌, ◌<◌, ◌≤◌, ◌&&◌, ◌||◌, ◌==◌, not, nat_lt, max, length, fold, sum_by, slice_get}
use Rattle.std.specs.Option.{option_map_or}
use Rattle.plan_text.specs.Entries.{PlanEntry, ChannelEntry, RouteEntry}

-- the most attempts of the destination with this index
abbrev pub attempts_of : PlanEntry → ℕ → ℕ
attempts_of plan destination = option_map_or (λ d. d.attempts) (slice_get plan.destinations destination) 0

-- the channel's messages go somewhere
abbrev pub has_route : ChannelEntry → Bool
has_route channel = not (length channel.routes == 0)

-- what a message owes where it waits at the destination of a route: a take and a settlement for each attempt, and a
-- cancellation
abbrev pub owed_at : PlanEntry → RouteEntry → ℕ
owed_at plan route = 2 * attempts_of plan route.to + 1

-- what a message that takes each route takes and owes when it comes
abbrev pub reserved : PlanEntry → ChannelEntry → ℕ
reserved plan channel = 1 + sum_by (owed_at plan) channel.routes

-- what such a message owes at the destination where it owes most; 0 where the channel has no route
abbrev pub most_owed : PlanEntry → ChannelEntry → ℕ
most_owed plan channel = fold (λ most route. max most (owed_at plan route)) 0 channel.routes

-- the most messages that find room, one after the other, where each of the earlier ones takes `each` entries: the last finds
-- the room that it needs, and one more doesn't
pub record IsMost (events each needed most : ℕ) : Type 0 where
  pub fits : 1 ≤ most → (most - 1) * each + needed ≤ events
  pub full : events < most * each + needed

-- the least number of messages that take more than `bound` entries, `each` by a message
abbrev pub IsLeastAbove : ℕ → ℕ → ℕ → Type 0
IsLeastAbove bound each least = (n : ℕ) → (bound < n * each) ↔ (least ≤ n)

-- a book of `events` entries holds arrivals of a channel back where so many of its messages wait, each of which takes one entry
-- and owes the rest of `each`, `owed` of them at the destination where it owes most: more than half of the book is owed there; or
-- more than three quarters of it are taken or owed, and less than an eighth is taken. That destination owes an equal share of it
abbrev pub holds_back : ℕ → ℕ → ℕ → ℕ → Bool
holds_back events owed each messages = nat_lt events (2 * (messages * owed))
    || nat_lt (3 * events) (4 * (messages * each)) && nat_lt (8 * messages) events

-- the least number of messages that have a book hold arrivals back
pub record IsLeastHeldBack (events owed each messages : ℕ) : Type 0 where
  pub held_back : holds_back events owed each messages ≡ true
  pub least : (n : ℕ) → n < messages → holds_back events owed each n ≡ false
