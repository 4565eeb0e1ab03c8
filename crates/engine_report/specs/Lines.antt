-- The lines that show the statistics of a book.
use Rattle.std.specs.Prelude.{ℕ, ◌+◌, List, [], ◌∷◌, ◌++◌, Option, None, Some, codes}
use Rattle.std.specs.Fmt.{decimal}
use Rattle.plan_text.specs.Entries.{PlanEntry}
use Rattle.stat_count.specs.Statistics.{Statistics, channel_at, destination_at}
use Rattle.event_log.specs.Counting.{counted}
use Rattle.book_lock.specs.Rises.{SharedBook}
use Rattle.stat_count.specs.declared.ChannelCounts.{ChannelCounts}
use Rattle.stat_count.specs.declared.DestinationCounts.{DestinationCounts}

-- a word and its number, after a space each
abbrev pub word_and_number : List ℕ → ℕ → List ℕ
word_and_number word number = codes " " ++ word ++ codes " " ++ decimal number

-- a channel and its counters
unfoldable pub channel_line : List ℕ → ChannelCounts → List ℕ
channel_line name c =
    codes "channel " ++ name ++ word_and_number (codes "received") c.received ++ word_and_number (codes "filtered") c.filtered
    ++ word_and_number (codes "accepted") c.accepted ++ word_and_number (codes "refused") c.refused
    ++ word_and_number (codes "repeats") c.repeats ++ codes "\n"

-- a destination and its counters
unfoldable pub destination_line : List ℕ → DestinationCounts → List ℕ
destination_line name d =
    codes "destination " ++ name ++ word_and_number (codes "waiting") d.waiting ++ word_and_number (codes "inflight") d.inflight
    ++ word_and_number (codes "delivered") d.delivered ++ word_and_number (codes "failed") d.failed
    ++ word_and_number (codes "attempts") d.attempts ++ codes "\n"

-- a line for each item, by its index and what it is
abbrev pub lines_from : {X : Type 0} → (ℕ → X → List ℕ) → ℕ → List X → List ℕ
lines_from line place [] = []
lines_from line place (x ∷ xs) = line place x ++ lines_from line (place + 1) xs

-- a line for each channel
abbrev pub channel_lines : PlanEntry → Statistics → List ℕ
channel_lines plan counts = lines_from (λ place c. channel_line c.name (channel_at place counts)) 0 plan.channels

-- a line for each destination
abbrev pub destination_lines : PlanEntry → Statistics → List ℕ
destination_lines plan counts = lines_from (λ place d. destination_line d.name (destination_at place counts)) 0 plan.destinations

-- first the channels, then the destinations, in the order of the plan
abbrev pub statistics_lines : PlanEntry → Statistics → List ℕ
statistics_lines plan counts = channel_lines plan counts ++ destination_lines plan counts

-- those of a closed book, and none where there is none
abbrev pub lines_of_closed : PlanEntry → Option SharedBook → List ℕ
lines_of_closed plan None = []
lines_of_closed plan (Some closed) = statistics_lines plan (counted closed.book)
