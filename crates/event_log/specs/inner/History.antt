-- What proofs use beside the page History.
use Rattle.std.specs.Prelude.{ℕ, Bool, false, List, [], count_by, Option}
use Rattle.std.specs.Option.{is_none}
use Rattle.plan_text.specs.Entries.{PlanEntry}
use Rattle.judge_core.specs.Delivering.{destinations_of}
use Rattle.stat_count.specs.inner.Statistics.{empty}
use Rattle.event_log.specs.declared.entry.Entry.{Entry}
use Rattle.event_log.specs.declared.entry.Entry.TheVariants.{Arrival, Take, Settle, Cancel, Deploy}
use Rattle.event_log.specs.History.{Remembered, Snapshot, History, number_told, is_numbered, message_at, numbers, deliveries, state}

-- the opening of a book with this plan and bound, before which nothing was booked
abbrev pub blank : PlanEntry → ℕ → Snapshot
blank plan events_max = record {
  plan = plan;
  events_max = events_max;
  places = 0;
  messages = 0;
  deployments = 0;
  prunings = 0;
  forgotten = empty;
  remembered = [];
}

-- the history of a book with this plan and bound
abbrev pub history_of : PlanEntry → ℕ → List Entry → History
history_of plan events_max entries = record { opening = blank plan events_max; entries = entries }

-- a history of which nothing is booked yet
abbrev pub snapshot_after : PlanEntry → ℕ → History
snapshot_after plan events_max = history_of plan events_max []

-- whether an entry is the arrival of message n
abbrev pub is_arrival_of : ℕ → Entry → Bool
is_arrival_of n (Arrival conn channel raw told) = is_numbered n told
is_arrival_of n (Take ticket now) = false
is_arrival_of n (Settle outcome ticket now state) = false
is_arrival_of n (Cancel number among mask) = false
is_arrival_of n (Deploy plan) = false

-- the number of an arrival, if it was accepted
abbrev pub number_of : Remembered → Option ℕ
number_of r = number_told r.told

-- how many messages are forgotten
abbrev pub forgotten_messages : History → ℕ
forgotten_messages h = count_by (λ n. is_none (message_at h n)) (numbers h)

-- the destinations that message n names
abbrev pub named : History → ℕ → List ℕ
named h n = destinations_of (deliveries h n)
