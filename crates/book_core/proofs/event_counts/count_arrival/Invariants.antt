use Rattle.std.proofs.Common.{◌≡◌, ◌==◌, ℕ, length, take}
use Rattle.std.specs.Prelude.{if◌then◌else◌}
use Rattle.std.specs.List.{list_any}
use Rattle.stat_count.specs.Statistics.{destination_at}
use Rattle.stat_count.specs.inner.Statistics.{waits_one}
use Rattle.book_core.proofs.event_counts.count_arrival.Given as goal

abbrev pub invariant-loop-delivery : goal.invariant-loop-delivery
invariant-loop-delivery l = record {
  channels : l.counts.channels ≡ l.initial.counts.channels;
  destinations : length l.counts.destinations ≡ 32;
  so_far : (d : ℕ) → destination_at d l.counts ≡ (if list_any (λ x. x.destination == d) (take l.delivery-index l.deliveries) then waits_one (destination_at d l.initial.counts) else destination_at d l.initial.counts);
}
