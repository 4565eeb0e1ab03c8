use Rattle.std.proofs.Common.{refl, ◌≡◌, ◌+◌, ◌<◌, ◌≤◌, ◌^◌, lit<, lit≤}
use Rattle.std.proofs.lemmas.List.Elements.{All-replicate}
use Rattle.stat_count.specs.Statistics.{no_arrivals, no_slots}
use Rattle.stat_count.specs.inner.Statistics.{slots_of}
use Rattle.stat_count.proofs.Counts.new.Goals as goal

pub invariant_of-result : goal.invariant_of-result
invariant_of-result c = record {
  all_channels = refl;
  all_destinations = refl;
  received_is_sum = All-replicate (λ counts. counts.received ≡ counts.filtered + counts.accepted + counts.refused) 64 no_arrivals refl;
  were_taken = All-replicate (λ counts. counts.inflight + counts.delivered ≤ counts.attempts) 32 no_slots (lit≤ tt);
  slots_fit = All-replicate (λ counts. slots_of counts < 2 ^ 64) 32 no_slots (lit< tt);
}
