-- How a tally agrees with the statistics of a history, and what an event adds to it.
use Rattle.std.specs.Prelude.{◌≡◌, ◌+◌, ◌<◌, ℕ, ◌==◌, ◌≢◌, if◌then◌else◌, List, length}
use Rattle.std.specs.List.{list_any}
use Rattle.std.specs.Int.{bit_at}
use Rattle.dest_queue.specs.declared.SlotState.{SlotState}
use Rattle.dest_queue.specs.declared.SlotState.TheVariants.{Waiting, InFlight, Delivered, Failed}
use Rattle.stat_count.specs.declared.ChannelCounts.{ChannelCounts}
use Rattle.stat_count.specs.declared.DestinationCounts.{DestinationCounts}
use Rattle.stat_count.specs.Statistics.{Statistics, channel_at, destination_at}
use Rattle.stat_count.specs.inner.Statistics.{accepted_one, filtered_one, refused_one, repeated_one, waits_one, delivered_one, failed_one, again_one, cancelled_one}
use Rattle.stat_count.specs.Sums.{arrivals, settlements, takes}
use Rattle.event_log.specs.declared.entry.Told.{Told}
use Rattle.event_log.specs.declared.entry.Told.TheVariants as told
use Rattle.event_log.specs.History.{History}
use Rattle.event_log.specs.Counting.{channel_counts, destination_counts}

-- the three sums of the statistics rise by that many arrivals, attempts begun and attempts settled
pub record SumsRise (came begun ended : ℕ) (old new : Statistics) : Type 0 where
  pub arrivals : arrivals new ≡ arrivals old + came
  pub takes : takes new ≡ takes old + begun
  pub settlements : settlements new ≡ settlements old + ended

-- the same, counter by counter
pub record AreCounted (h : History) (tally : Statistics) : Type 0 where
  pub all_channels : length tally.channels ≡ 64
  pub all_destinations : length tally.destinations ≡ 32
  pub channel : (c : ℕ) → c < 64 → channel_at c tally ≡ channel_counts h c
  pub destination : (d : ℕ) → d < 32 → destination_at d tally ≡ destination_counts h d

-- the counters of a channel on which one more arrival has this answer
abbrev pub told_one : Told → ChannelCounts → ChannelCounts
told_one (told.Accepted number) counts = accepted_one counts
told_one told.Filtered counts = filtered_one counts
told_one (told.Refused cause) counts = refused_one counts
told_one (told.Repeat place) counts = repeated_one counts

-- the counters of a destination at which one in flight is settled with that state
abbrev pub settled_one : SlotState → DestinationCounts → DestinationCounts
settled_one (Waiting attempts due) counts = again_one counts
settled_one (InFlight attempt) counts = counts
settled_one Delivered counts = delivered_one counts
settled_one (Failed cause) counts = failed_one counts

-- one arrival was counted: its channel, and the destinations at which it begins to wait
pub record CountsArrival (channel : ℕ) (told : Told) (named : List ℕ) (old new : Statistics) : Type 0 where
  pub channels : length new.channels ≡ length old.channels
  pub destinations : length new.destinations ≡ length old.destinations
  pub its_channel : channel_at channel new ≡ told_one told (channel_at channel old)
  pub other_channels : (c : ℕ) → c ≢ channel → channel_at c new ≡ channel_at c old
  pub each_destination : (d : ℕ) → d < 32 →
      destination_at d new ≡ (if list_any (λ e. e == d) named then waits_one (destination_at d old) else destination_at d old)

-- one cancellation was counted, at the destinations of the mask
pub record CountsCancel (mask : ℕ) (old new : Statistics) : Type 0 where
  pub channels : new.channels ≡ old.channels
  pub destinations : length new.destinations ≡ length old.destinations
  pub each_destination : (d : ℕ) → d < 32 →
      destination_at d new ≡ (if bit_at mask d == 1 then cancelled_one (destination_at d old) else destination_at d old)
