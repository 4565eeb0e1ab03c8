-- A tally is the statistics of a history if each of its counters is.
use Rattle.std.proofs.Common.{◌≡◌, ◌≢◌, ℕ, ◌+◌, ◌*◌, ◌<◌, ◌≤◌, ◌==◌, ◌&&◌, inl, inr, Bool, true, false, cond, not, List, [], ◌∷◌, length, map, get_or, refl, sym, ◌∙◌, ap, subst, arith, length-set, get_or-set_same, get_or-set_other, ext_get_or}
use Rattle.std.specs.Prelude.{sum_by}
use Rattle.std.specs.List.{range_with_len}
use Rattle.std.proofs.lemmas.Bool.Decides.{eqb_tells}
use Rattle.std.proofs.lemmas.List.FromFn.{length-map-range_with_len, get_or-map-range_with_len}
use Rattle.std.proofs.lemmas.List.{get_or-replicate}
use Rattle.std.proofs.lemmas.List.Sums.{count_by-le-length, sum_by-cons}
use Rattle.plan_text.specs.Entries.{PlanEntry}
use Rattle.stat_count.specs.declared.ChannelCounts.{ChannelCounts}
use Rattle.stat_count.specs.declared.DestinationCounts.{DestinationCounts}
use Rattle.stat_count.specs.Statistics.{Statistics, channel_at, destination_at, no_arrivals, no_slots}
use Rattle.stat_count.specs.inner.Statistics.{empty, on_destination, slots_of}
use Rattle.event_log.specs.declared.entry.Told.{Told}
use Rattle.event_log.specs.declared.entry.Told.TheVariants as told
use Rattle.event_log.specs.declared.entry.Entry.{Entry}
use Rattle.event_log.specs.declared.entry.Entry.TheVariants.{Arrival, Take, Settle, Cancel, Deploy}
use Rattle.event_log.specs.History.{History, next_place}
use Rattle.event_log.specs.inner.History.{snapshot_after}
use Rattle.event_log.specs.inner.Legal.{IsGoodOpening}
use Rattle.event_log.specs.Counting.{channel_before, channel_counts, counted, destination_counts, is_accepted, is_filtered, is_refused, is_repeat, is_take_at, is_told, told_count}
use Rattle.book_core.specs.inner.Counting.{AreCounted}
use Rattle.book_core.proofs.Slots.{all-at, slots-places}

-- a list of which each place holds what a function gives there
pub listed : {X : Type 0} (f : ℕ → X) (k : ℕ) (xs : List X) (d : X) → length xs ≡ k → ((n : ℕ) → n < k → get_or xs n d ≡ f n) → xs ≡ map f (range_with_len 0 k)
listed f k xs d size each =
    ext_get_or d xs (map f (range_with_len 0 k)) (size ∙ sym (length-map-range_with_len f 0 k))
    (λ n inside. let below : n < k = omega arith in each n below ∙ sym (get_or-map-range_with_len f 0 k n n d below (omega arith)))

-- tallies are equal if their counters are
pub tally-equal : (s t : Statistics) → s.channels ≡ t.channels → s.destinations ≡ t.destinations → s ≡ t
tally-equal s t channels destinations = λ i. record { channels = channels i; destinations = destinations i }

-- a tally with the counters of a history is its statistics
pub counted-is : (h : History) (tally : Statistics) → AreCounted h tally → tally ≡ counted h
counted-is h tally counts =
    tally-equal tally (counted h) (listed (channel_counts h) 64 tally.channels no_arrivals counts.all_channels counts.channel) (listed (destination_counts h) 32 tally.destinations no_slots counts.all_destinations counts.destination)

-- the statistics of a history have its counters
pub counted-are : (h : History) → AreCounted h (counted h)
counted-are h = record {
  all_channels = length-map-range_with_len (channel_counts h) 0 64;
  all_destinations = length-map-range_with_len (destination_counts h) 0 32;
  channel = λ c below. get_or-map-range_with_len (channel_counts h) 0 64 c c no_arrivals below (omega arith);
  destination = λ d below. get_or-map-range_with_len (destination_counts h) 0 32 d d no_slots below (omega arith);
}

-- a channel's counters are equal if each is
pub channels-equal : (a b : ChannelCounts) → a.received ≡ b.received → a.filtered ≡ b.filtered → a.accepted ≡ b.accepted → a.refused ≡ b.refused → a.repeats ≡ b.repeats → a ≡ b
channels-equal a b received filtered accepted refused repeats = λ i. record { received = received i; filtered = filtered i; accepted = accepted i; refused = refused i; repeats = repeats i }

-- a destination's counters are equal if each is
pub counts-equal : (a b : DestinationCounts) → a.waiting ≡ b.waiting → a.inflight ≡ b.inflight → a.delivered ≡ b.delivered → a.failed ≡ b.failed → a.attempts ≡ b.attempts → a ≡ b
counts-equal a b waiting inflight delivered failed attempts = λ i. record { waiting = waiting i; inflight = inflight i; delivered = delivered i; failed = failed i; attempts = attempts i }

-- nothing is counted at first
pub counted-opened : (plan : PlanEntry) (events_max : ℕ) → AreCounted (snapshot_after plan events_max) empty
counted-opened plan events_max = record {
  all_channels = refl;
  all_destinations = refl;
  channel = λ c below. channels-equal (channel_at c empty) (channel_counts (snapshot_after plan events_max) c) (omega arith) (omega arith) (omega arith) (omega arith) (omega arith);
  destination = λ d below.
      let none : destination_at d empty ≡ no_slots = get_or-replicate 32 d no_slots no_slots below in
      counts-equal (destination_at d empty) (destination_counts (snapshot_after plan events_max) d) (ap (λ c. c.waiting) none) (ap (λ c. c.inflight) none) (omega arith) (omega arith) (omega arith);
}

-- the counters of one destination changed
pub counted-at : (h h' : History) (tally : Statistics) (d : ℕ) (change : DestinationCounts → DestinationCounts) → d < 32 → AreCounted h tally → ((c : ℕ) → channel_counts h' c ≡ channel_counts h c)
    → destination_counts h' d ≡ change (destination_counts h d) → ((e : ℕ) → e ≢ d → destination_counts h' e ≡ destination_counts h e) → AreCounted h' (on_destination d change tally)
counted-at h h' tally d change inside counts channels its others = record {
  all_channels = counts.all_channels;
  all_destinations = length-set tally.destinations d (change (destination_at d tally)) ∙ counts.all_destinations;
  channel = λ c below. counts.channel c below ∙ sym (channels c);
  destination = λ e below. elim (eqb_tells e d) [
    | inl w ↦
        let many = counts.all_destinations in
        subst (λ k. destination_at k (on_destination d change tally) ≡ destination_counts h' k) (sym w.1)
        (get_or-set_same tally.destinations d (change (destination_at d tally)) no_slots (omega arith) ∙ (ap change (counts.destination d inside) ∙ sym its))
    | inr w ↦ get_or-set_other tally.destinations d e (change (destination_at d tally)) no_slots w.1 ∙ (counts.destination e below ∙ sym (others e w.1))
  ];
}

-- no more were counted at the opening of a channel than entries were folded
channel-few : (h : History) → IsGoodOpening h.opening → (c : ℕ) → (channel_before h c).received + (channel_before h c).repeats ≤ h.opening.places
channel-few h good c = all-at (λ c. c.received + c.repeats ≤ h.opening.places) h.opening.forgotten.channels no_arrivals good.forgotten.received (omega arith) c

-- no more are received than there are places
pub received-places : (h : History) → IsGoodOpening h.opening → (tally : Statistics) (c : ℕ) → c < 64 → AreCounted h tally → (channel_at c tally).received ≤ next_place h
received-places h good tally c below counts =
    let is = ap (λ t. t.received) (counts.channel c below) in
    let few = count_by-le-length (is_told c (λ told. not (is_repeat told))) h.entries in
    let before = channel-few h good c in omega arith

-- no more are repeats
pub repeats-places : (h : History) → IsGoodOpening h.opening → (tally : Statistics) (c : ℕ) → c < 64 → AreCounted h tally → (channel_at c tally).repeats ≤ next_place h
repeats-places h good tally c below counts =
    let is = ap (λ t. t.repeats) (counts.channel c below) in
    let few = count_by-le-length (is_told c is_repeat) h.entries in
    let before = channel-few h good c in omega arith

-- both together are no more than two for each place
pub channel-places : (h : History) → IsGoodOpening h.opening → (c : ℕ) → (channel_counts h c).received + (channel_counts h c).repeats ≤ 2 * next_place h
channel-places h good c =
    let first = count_by-le-length (is_told c (λ told. not (is_repeat told))) h.entries in
    let again = count_by-le-length (is_told c is_repeat) h.entries in
    let before = channel-few h good c in omega arith

-- no more attempts were begun than there are places
pub attempts-places : (h : History) → IsGoodOpening h.opening → (d : ℕ) → (destination_counts h d).attempts ≤ next_place h
attempts-places h good d =
    let most = count_by-le-length (is_take_at d) h.entries in
    let before = all-at (λ c. c.attempts ≤ h.opening.places) h.opening.forgotten.destinations no_slots good.forgotten.taken (omega arith) d in omega arith

-- no destination has more slots than two for each place
pub slots_of-places : (h : History) → IsGoodOpening h.opening → (tally : Statistics) (d : ℕ) → d < 32 → AreCounted h tally → slots_of (destination_at d tally) ≤ 2 * next_place h
slots_of-places h good tally d below counts = let is = ap slots_of (counts.destination d below) in let few = slots-places h good d in omega arith

-- each entry is counted as received where it is counted as filtered, accepted or refused
told-sum : (c : ℕ) (e : Entry) → cond (is_told c (λ told. not (is_repeat told)) e) 1 0 ≡ cond (is_told c is_filtered e) 1 0 + cond (is_told c is_accepted e) 1 0 + cond (is_told c is_refused e) 1 0
told-sum c (Arrival conn channel raw reply) = by (channel == c) reply
  where
    by : (here : Bool) (reply : Told) → cond (here && not (is_repeat reply)) 1 0 ≡ cond (here && is_filtered reply) 1 0 + cond (here && is_accepted reply) 1 0 + cond (here && is_refused reply) 1 0
    by true (told.Accepted number) = refl
    by true told.Filtered = refl
    by true (told.Refused cause) = refl
    by true (told.Repeat place) = refl
    by false reply = refl
told-sum c (Take ticket now) = refl
told-sum c (Settle outcome ticket now state) = refl
told-sum c (Cancel number among mask) = refl
told-sum c (Deploy plan) = refl

-- a sum of three sums
sum-three : {X : Type 0} (a f g k : X → ℕ) → ((x : X) → a x ≡ f x + g x + k x) → (xs : List X) → sum_by a xs ≡ sum_by f xs + sum_by g xs + sum_by k xs
sum-three a f g k adds [] = refl
sum-three a f g k adds (x ∷ xs) =
    let here = adds x in let rest = sum-three a f g k adds xs in omega (arith, sum_by-cons a x xs, sum_by-cons f x xs, sum_by-cons g x xs, sum_by-cons k x xs)

-- what is received is filtered, accepted or refused
pub received-sum : (h : History) → IsGoodOpening h.opening → (c : ℕ) → (channel_counts h c).received ≡ (channel_counts h c).filtered + (channel_counts h c).accepted + (channel_counts h c).refused
received-sum h good c =
    let since = sum-three (λ e. cond (is_told c (λ told. not (is_repeat told)) e) 1 0) (λ e. cond (is_told c is_filtered e) 1 0) (λ e. cond (is_told c is_accepted e) 1 0) (λ e. cond (is_told c is_refused e) 1 0) (told-sum c) h.entries in
    let before = all-at (λ c. c.received ≡ c.filtered + c.accepted + c.refused) h.opening.forgotten.channels no_arrivals good.forgotten.statistics.received_is_sum refl c in
    sums (channel_before h c).received (channel_before h c).filtered (channel_before h c).accepted (channel_before h c).refused
    (told_count h c (λ told. not (is_repeat told))) (told_count h c is_filtered) (told_count h c is_accepted) (told_count h c is_refused) before since
  where
    sums : (r f a x r' f' a' x' : ℕ) → r ≡ f + a + x → r' ≡ f' + a' + x' → r + r' ≡ f + f' + (a + a') + (x + x')
    sums r f a x r' f' a' x' before since = omega arith
