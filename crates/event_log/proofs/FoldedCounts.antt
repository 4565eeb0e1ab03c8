-- What is counted of folded entries is as it has to be.
use Rattle.std.proofs.Common.{◌≡◌, ℕ, ◌+◌, ◌^◌, ◌<◌, ◌≤◌, Bool, true, false, cond, not, ◌==◌, ◌&&◌, List, [], ◌∷◌, length, map, None, refl, sym, subst, arith, lit<}
use Rattle.std.specs.Prelude.{All, count_by}
use Rattle.std.specs.List.{range_with_len}
use Rattle.std.proofs.lemmas.List.FromFn.{get_or-map-range_with_len, length-map-range_with_len}
use Rattle.std.proofs.lemmas.List.Sums.{count_by-le-length, sum_by-cons}
use Rattle.stat_count.specs.Statistics.{no_arrivals, no_slots}
use Rattle.stat_count.specs.inner.Statistics.{slots_of}
use Rattle.event_log.specs.declared.entry.Entry.{Entry}
use Rattle.event_log.specs.declared.entry.Entry.TheVariants.{Arrival, Take, Settle, Cancel, Deploy}
use Rattle.event_log.specs.declared.entry.Told.{Told}
use Rattle.event_log.specs.declared.entry.Told.TheVariants as told
use Rattle.event_log.specs.Counting.{channel_counts, destination_counts, is_accepted, is_delivered, is_filtered, is_refused, is_repeat, is_take_at, is_told}
use Rattle.event_log.specs.Folding.{forgotten, forgotten_at, prune_answer, pruned}
use Rattle.event_log.specs.History.{History, next_place}
use Rattle.event_log.specs.inner.History.{forgotten_messages}
use Rattle.event_log.specs.inner.Legal.{AreForgotten, IsSound}
use Rattle.event_log.proofs.FoldedAlike.{slots-split}
use Rattle.event_log.proofs.FoldedGood.{accepted-few, prunings-left}
use Rattle.event_log.proofs.Forgetting.{gone-after, gone-few}

-- what holds of each holds of all that are listed
all-listed : {X : Type 0} (P : X → Type 0) (f : ℕ → X) (k : ℕ) → ((n : ℕ) → n < k → P (f n)) → All P (map f (range_with_len 0 k))
all-listed P f k each n d inside =
    let many = length-map-range_with_len f 0 k in
    let low : n < k = omega arith in
    subst P (sym (get_or-map-range_with_len f 0 k n n d low (omega arith))) (each n low)

-- an entry is counted as received or as a repeat, and once
told-once : (c : ℕ) (e : Entry) → cond (is_told c (λ told. not (is_repeat told)) e) 1 0 + cond (is_told c is_repeat e) 1 0 ≤ 1
told-once c (Arrival conn channel raw reply) = by (channel == c) (is_repeat reply)
  where
    by : (b r : Bool) → cond (b && not r) 1 0 + cond (b && r) 1 0 ≤ 1
    by true true = omega arith
    by true false = omega arith
    by false r = omega arith
told-once c (Take ticket now) = omega arith
told-once c (Settle outcome ticket now state) = omega arith
told-once c (Cancel number among mask) = omega arith
told-once c (Deploy plan) = omega arith

-- and as received where it is counted as filtered, accepted or refused
told-sum : (c : ℕ) (e : Entry) → cond (is_told c (λ told. not (is_repeat told)) e) 1 0 ≡ cond (is_told c is_filtered e) 1 0 + cond (is_told c is_accepted e) 1 0 + cond (is_told c is_refused e) 1 0
told-sum c (Arrival conn channel raw reply) = by (channel == c) reply
  where
    by : (b : Bool) (t : Told) → cond (b && not (is_repeat t)) 1 0 ≡ cond (b && is_filtered t) 1 0 + cond (b && is_accepted t) 1 0 + cond (b && is_refused t) 1 0
    by true (told.Accepted n) = omega arith
    by true told.Filtered = omega arith
    by true (told.Refused cause) = omega arith
    by true (told.Repeat place) = omega arith
    by false t = omega arith
told-sum c (Take ticket now) = omega arith
told-sum c (Settle outcome ticket now state) = omega arith
told-sum c (Cancel number among mask) = omega arith
told-sum c (Deploy plan) = omega arith

arrivals-few : (c : ℕ) (es : List Entry) → count_by (is_told c (λ told. not (is_repeat told))) es + count_by (is_told c is_repeat) es ≤ length es
arrivals-few c [] = omega arith
arrivals-few c (e ∷ es) =
    let rest = arrivals-few c es in
    let here = told-once c e in
    omega (arith, sum_by-cons (λ x. cond (is_told c (λ told. not (is_repeat told)) x) 1 0) e es, sum_by-cons (λ x. cond (is_told c is_repeat x) 1 0) e es)

arrivals-sum : (c : ℕ) (es : List Entry)
    → count_by (is_told c (λ told. not (is_repeat told))) es ≡ count_by (is_told c is_filtered) es + count_by (is_told c is_accepted) es + count_by (is_told c is_refused) es
arrivals-sum c [] = omega arith
arrivals-sum c (e ∷ es) =
    let rest = arrivals-sum c es in
    let here = told-sum c e in
    omega (
      arith,
      sum_by-cons (λ x. cond (is_told c (λ told. not (is_repeat told)) x) 1 0) e es,
      sum_by-cons (λ x. cond (is_told c is_filtered x) 1 0) e es,
      sum_by-cons (λ x. cond (is_told c is_accepted x) 1 0) e es,
      sum_by-cons (λ x. cond (is_told c is_refused x) 1 0) e es,
    )

module _ (h : History) (sound : IsSound h) (bound : ℕ) (may : prune_answer h bound ≡ None) where
  channel-few : (c : ℕ) → c < 64 → (channel_counts h c).received + (channel_counts h c).repeats ≤ next_place h
  channel-few c below =
      let many = sound.opening.forgotten.statistics.all_channels in
      let before = sound.opening.forgotten.received c no_arrivals (omega arith) in
      let since = arrivals-few c h.entries in omega arith

  channel-sum : (c : ℕ) → c < 64 → (channel_counts h c).received ≡ (channel_counts h c).filtered + (channel_counts h c).accepted + (channel_counts h c).refused
  channel-sum c below =
      let many = sound.opening.forgotten.statistics.all_channels in
      let before = sound.opening.forgotten.statistics.received_is_sum c no_arrivals (omega arith) in
      let since = arrivals-sum c h.entries in omega arith

  attempts-few : (d : ℕ) → d < 32 → (destination_counts h d).attempts ≤ next_place h
  attempts-few d below =
      let many = sound.opening.forgotten.statistics.all_destinations in
      let before = sound.opening.forgotten.taken d no_slots (omega arith) in
      let since = count_by-le-length (is_take_at d) h.entries in omega arith

  named-few : (d : ℕ) → d < 32 → (forgotten_at h bound d).delivered + (forgotten_at h bound d).failed ≤ forgotten_messages (pruned bound h)
  named-few d below =
      let many = sound.opening.forgotten.statistics.all_destinations in
      let before = sound.opening.forgotten.named d no_slots (omega arith) in
      let since = gone-after h sound bound may d in omega arith

  pub folded-counts : h.opening.events_max ≤ 1000000
      → ((d : ℕ) → d < 32 → (destination_counts h d).inflight + (destination_counts h d).delivered ≤ (destination_counts h d).attempts)
      → AreForgotten (next_place h) (forgotten_messages (pruned bound h)) (forgotten h bound)
  folded-counts small taken = record {
    statistics = record {
      all_channels = length-map-range_with_len (channel_counts h) 0 64;
      all_destinations = length-map-range_with_len (forgotten_at h bound) 0 32;
      received_is_sum = all-listed (λ counts. counts.received ≡ counts.filtered + counts.accepted + counts.refused) (channel_counts h) 64 channel-sum;
      were_taken = all-listed (λ counts. counts.inflight + counts.delivered ≤ counts.attempts) (forgotten_at h bound) 32
          (λ d below. let whole = taken d below in let split = slots-split h sound bound may d is_delivered in omega arith);
      slots_fit = all-listed (λ counts. slots_of counts < 2 ^ 64) (forgotten_at h bound) 32 fits;
    };
    received = all-listed (λ c. c.received + c.repeats ≤ next_place h) (channel_counts h) 64 channel-few;
    settled = all-listed (λ d. (d.waiting ≡ 0) × (d.inflight ≡ 0)) (forgotten_at h bound) 32 (λ d below. (refl, refl));
    named = all-listed (λ d. d.delivered + d.failed ≤ forgotten_messages (pruned bound h)) (forgotten_at h bound) 32 named-few;
    taken = all-listed (λ d. d.attempts ≤ next_place h) (forgotten_at h bound) 32 attempts-few;
  }
    where
      fits : (d : ℕ) → d < 32 → slots_of (forgotten_at h bound d) < 2 ^ 64
      fits d below =
          let here = named-few d below in
          let gone = gone-few (pruned bound h) in
          let came = accepted-few h.opening.plan h.entries in
          let earlier = sound.opening.messages_few in
          let held = sound.room in
          let places = sound.opening.places_few in
          let left = prunings-left h bound may in
          let most : 1001000000 < 2 ^ 64 = lit< tt in
          omega arith
