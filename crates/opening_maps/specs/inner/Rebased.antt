-- An opening with numbers as low as they may be.
use Rattle.std.specs.Prelude.{ℕ, ◌+◌, ◌-◌, ◌≤◌, max, min, List, [], ◌∷◌, map}
use Rattle.std.specs.List.{filter_map, fold}
use Rattle.std.specs.Int.{div_ceil}
use Rattle.stat_count.specs.Statistics.{Statistics}
use Rattle.event_log.specs.declared.entry.Told.{Told}
use Rattle.event_log.specs.declared.entry.Told.TheVariants as told
use Rattle.event_log.specs.History.{Remembered, Snapshot}
use Rattle.event_log.specs.inner.History.{number_of}
use Rattle.opening_maps.specs.declared.rebasing.Lowered.{Lowered}

-- ---- how low they may be

-- the first of some numbers, and this one where there is none
abbrev pub first_or : ℕ → List ℕ → ℕ
first_or n [] = n
first_or n (m ∷ ms) = m

-- the index of the first arrival that is remembered, and the number of the first message; the next one where there is none
abbrev pub first_place : Snapshot → ℕ
first_place o = first_or o.places (map (λ r. r.place) o.remembered)

abbrev pub first_number : Snapshot → ℕ
first_number o = first_or o.messages (filter_map number_of o.remembered)

-- the most messages that a destination counts as delivered or failed: at least as many are forgotten
abbrev pub most_settled : Statistics → ℕ
most_settled counts = fold (λ most d. max most (d.delivered + d.failed)) 0 counts.destinations

-- the most messages that a channel counts, repeats among them, and the most attempts of a destination: at least as many
-- entries were folded
abbrev pub most_received : Statistics → ℕ
most_received counts = fold (λ most c. max most (c.received + c.repeats)) 0 counts.channels

abbrev pub most_attempts : Statistics → ℕ
most_attempts counts = fold (λ most d. max most d.attempts) 0 counts.destinations

-- by how much the numbers of messages may be lowered: of those forgotten no fewer may be left than are counted
abbrev pub lower_messages : Snapshot → ℕ
lower_messages o = first_number o - most_settled o.forgotten

-- the least number of folded entries that an opening may have, if that many messages were accepted before it
abbrev pub least_places : ℕ → Statistics → ℕ
least_places messages counts = max messages (max (most_received counts) (most_attempts counts))

-- by how much indices may be lowered
abbrev pub lower_places : Snapshot → ℕ
lower_places o = min (first_place o) (o.places - least_places (o.messages - lower_messages o) o.forgotten)

-- how many prunings that many folded entries take at least: each folds at most 1,000,000
abbrev pub least_prunings : ℕ → ℕ
least_prunings places = div_ceil places 1000000

-- by how much all numbers may be lowered; none is needed of the deployments
abbrev pub lowering : Snapshot → Lowered
lowering o = record {
  places = lower_places o;
  messages = lower_messages o;
  deployments = o.deployments;
  prunings = o.prunings - least_prunings (o.places - lower_places o);
}

-- ---- lowered by that

-- an answer with a lower number
abbrev pub told_lower : ℕ → Told → Told
told_lower by (told.Accepted number) = told.Accepted (number - by)
told_lower by told.Filtered = told.Filtered
told_lower by (told.Refused cause) = told.Refused cause
told_lower by (told.Repeat place) = told.Repeat place

-- an arrival with a lower index and number, and an opening with lower numbers
abbrev pub arrival_lower : Lowered → Remembered → Remembered
arrival_lower by r = record r { place = r.place - by.places; told = told_lower by.messages r.told }

abbrev pub opening_lower : Lowered → Snapshot → Snapshot
opening_lower by o = record o {
  places = o.places - by.places;
  messages = o.messages - by.messages;
  deployments = o.deployments - by.deployments;
  prunings = o.prunings - by.prunings;
  remembered = map (arrival_lower by) o.remembered;
}

-- an opening with its numbers as low as they may be
abbrev pub rebased : Snapshot → Snapshot
rebased o = opening_lower (lowering o) o

-- ---- and no lower

-- numbers may be lowered by so much, as far as what is remembered goes: none of it would be below 0
pub record MayBeLowered (o : Snapshot) (by : Lowered) : Type 0 where
  pub places : by.places ≤ first_place o
  pub messages : by.messages ≤ first_number o
  pub prunings : by.prunings ≤ o.prunings

-- each by no more than another
pub record IsNoMore (by other : Lowered) : Type 0 where
  pub places : by.places ≤ other.places
  pub messages : by.messages ≤ other.messages
  pub prunings : by.prunings ≤ other.prunings
