use Rattle.std.proofs.Common.{◌≡◌, ◌<◌, ◌≤◌, ◌==◌, ℕ, length}
use Rattle.std.specs.Prelude.{if◌then◌else◌}
use Rattle.std.specs.Int.{bit_at}
use Rattle.stat_count.specs.Statistics.{destination_at}
use Rattle.stat_count.specs.inner.Statistics.{cancelled_one}
use Rattle.book_core.proofs.event_counts.count_cancelled.Given as goal

abbrev pub invariant-loop-d : goal.invariant-loop-d
invariant-loop-d l = record {
  channels : l.counts.channels ≡ l.initial.counts.channels;
  destinations : length l.counts.destinations ≡ length l.initial.counts.destinations;
  below : (e : ℕ) → e < l.d → destination_at e l.counts ≡ (if bit_at l.mask e == 1 then cancelled_one (destination_at e l.initial.counts) else destination_at e l.initial.counts);
  above : (e : ℕ) → l.d ≤ e → destination_at e l.counts ≡ destination_at e l.initial.counts;
}
