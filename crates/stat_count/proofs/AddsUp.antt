-- Counters that were tested are those of statistics.
use Rattle.std.proofs.Common.{◌≡◌, ◌+◌, ◌<◌, ◌≤◌, ◌^◌, Bool, true, List, length}
use native.Mathlib.Omega.{arith}
use Rattle.std.specs.List.{All, list_all}
use Rattle.std.specs.Prelude.{slice_index_or}
use Rattle.std.proofs.lemmas.List.Sums.{AllPass-from_list_all}
use Rattle.stat_count.specs.Statistics.{Statistics}
use Rattle.stat_count.specs.inner.Statistics.{IsStatistics, can_be, is_sum, slots_of}

all_of : {X : Type 0} (p : X → Bool) (P : X → Type 0) → ((x : X) → p x ≡ true → P x) → (xs : List X) → list_all p xs ≡ true → All P xs
all_of p P each xs all k d inside = each (slice_index_or xs k d) (AllPass-from_list_all p xs all k d inside)

pub statistics_of : (s : Statistics) → length s.channels ≡ 64 → length s.destinations ≡ 32
    → list_all is_sum s.channels ≡ true → list_all can_be s.destinations ≡ true → IsStatistics s
statistics_of s channels destinations sums can = record {
  all_channels = channels;
  all_destinations = destinations;
  received_is_sum = all_of is_sum (λ counts. counts.received ≡ counts.filtered + counts.accepted + counts.refused) (λ counts e. grind arith) s.channels sums;
  were_taken = all_of can_be (λ counts. counts.inflight + counts.delivered ≤ counts.attempts) (λ counts e. grind arith) s.destinations can;
  slots_fit = all_of can_be (λ counts. slots_of counts < 2 ^ 64) (λ counts e. grind arith) s.destinations can;
}
