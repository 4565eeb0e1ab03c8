-- What an entry adds to the sums of the statistics.
use Rattle.std.proofs.Common.{◌≡◌, ℕ, ◌+◌, ◌-◌, ◌*◌, ◌<◌, ◌≤◌, inl, inr, Bool, true, false, cond, ◌==◌, List, [], ◌∷◌, length, map, take, None, Some, Ok, refl, sym, ◌∙◌, ap, subst, arith, suc, zero, add-zero, get_or, set, length-set, get_or-set_same, get_or-set_other}
use Rattle.std.specs.Prelude.{slice_get, sum_by}
use Rattle.std.specs.List.{list_any, range_with_len}
use Rattle.std.specs.Int.{bit_at}
use Rattle.std.proofs.lemmas.Bool.Decides.{eqb_tells}
use Rattle.std.proofs.lemmas.List.Sums.{sum_by-cons}
use Rattle.plan_text.specs.Entries.{PlanEntry}
use Rattle.dest_queue.specs.declared.Outcome.{Outcome}
use Rattle.dest_queue.specs.declared.SlotState.{SlotState}
use Rattle.dest_queue.specs.declared.SlotState.TheVariants.{Waiting, InFlight, Delivered, Failed}
use Rattle.stat_count.specs.declared.ChannelCounts.{ChannelCounts}
use Rattle.stat_count.specs.declared.DestinationCounts.{DestinationCounts}
use Rattle.stat_count.specs.Statistics.{Statistics, channel_at, destination_at, no_arrivals, no_slots}
use Rattle.stat_count.specs.inner.Statistics.{cancelled_one, on_channel, on_destination, taken_one, waits_one}
use Rattle.stat_count.specs.Sums.{arrivals, settlements, takes}
use Rattle.stat_count.proofs.SumLaws.{arrivals-more, settlements-more, takes-more}
use Rattle.event_log.specs.declared.entry.Ticket.{Ticket}
use Rattle.event_log.specs.declared.entry.Told.{Told}
use Rattle.event_log.specs.declared.entry.Told.TheVariants as told
use Rattle.event_log.specs.declared.entry.Entry.{Entry}
use Rattle.event_log.specs.declared.entry.Entry.TheVariants.{Arrival, Take, Settle, Cancel, Deploy}
use Rattle.event_log.specs.History.{History, of_snapshot, followed_by, next_place, plan_in_force}
use Rattle.event_log.specs.Answers.{cancel_answer, settle_answer, take_answer}
use Rattle.event_log.specs.Legal.{MayFollow}
use Rattle.event_log.specs.inner.Legal.{IsSound}
use Rattle.event_log.specs.Room.{is_in_flight, slots_added}
use Rattle.event_log.proofs.Arriving.{arrival-step}
use Rattle.event_log.proofs.Cancelling.{cancel-step}
use Rattle.event_log.proofs.Deploying.{deploy-step}
use Rattle.event_log.proofs.Fitting.{sound-before, take-past}
use Rattle.event_log.proofs.Following.{follows-since, take-whole}
use Rattle.event_log.proofs.Reading.{slot-inside}
use Rattle.event_log.proofs.Events.{arrivable, deployable}
use Rattle.event_log.proofs.Replaying.{take-more}
use Rattle.event_log.proofs.Settling.{settle-step}
use Rattle.event_log.proofs.Taking.{take-step}
use Rattle.event_log.specs.Counting.{channel_counts, counted, destination_counts}
use Rattle.book_core.specs.inner.Counting.{SumsRise, settled_one, told_one}
use Rattle.book_core.proofs.Counted.{attempts-places, channel-places, counted-are, counted-is, listed}
use Rattle.book_core.proofs.CountedArrivals.{arrived-counts, channel-kept, channel-told}
use Rattle.book_core.proofs.CountedCancels.{cancelled-counts}
use Rattle.book_core.proofs.KeepingDeployments.{deployed-counts}
use Rattle.book_core.proofs.CountedSteps.{attempts-kept, channels-kept, counted-settle, counted-take, settle-flies, settle-inside}

-- ---- sums over lists

-- a sum stays where each item adds as much
sum-same : {X : Type 0} (f : X → ℕ) (g k : ℕ → X) → ((n : ℕ) → f (g n) ≡ f (k n)) → (ns : List ℕ) → sum_by f (map g ns) ≡ sum_by f (map k ns)
sum-same f g k same [] = refl
sum-same f g k same (n ∷ ns) = let here = same n in let rest = sum-same f g k same ns in omega (arith, sum_by-cons f (g n) (map g ns), sum_by-cons f (k n) (map k ns))

-- a sum is at most as many times the bound of what each adds
sum-within : {X : Type 0} (f : X → ℕ) (g : ℕ → X) (most : ℕ) → ((n : ℕ) → f (g n) ≤ most) → (ns : List ℕ) → sum_by f (map g ns) ≤ length ns * most
sum-within f g most within [] = omega arith
sum-within f g most within (n ∷ ns) = let here = within n in let rest = sum-within f g most within ns in grind (arith, sum_by-cons f (g n) (map g ns))

-- ---- takes and settlements

-- more attempts were begun than are under way or have delivered
abbrev AreTaken : DestinationCounts → Type 0
AreTaken counts = counts.inflight + counts.delivered ≤ counts.attempts

-- each destination has its counters in the statistics
destination-inside : (h : History) (d : ℕ) → d < 32 → d < length (counted h).destinations
destination-inside h d below = subst (λ n. d < n) (sym (counted-are h).all_destinations) below

-- what holds of each destination's counters still does where it does at the one that changes
changed-at : (P : DestinationCounts → Type 0) (change : DestinationCounts → DestinationCounts) (s : Statistics) (at d : ℕ) → at < length s.destinations
    → P (change (destination_at at s)) → P (destination_at d s) → P (destination_at d (on_destination at change s))
changed-at P change s at d inside changed kept = elim (eqb_tells d at) [
  | inl w ↦ subst (λ k. P (destination_at k (on_destination at change s))) (sym w.1) (subst P (sym (get_or-set_same s.destinations at (change (destination_at at s)) no_slots inside)) changed)
  | inr w ↦ subst P (sym (get_or-set_other s.destinations at d (change (destination_at at s)) no_slots w.1)) kept
]

-- a take adds one to both
take-taken : (counts : DestinationCounts) → AreTaken counts → AreTaken (taken_one counts)
take-taken counts are = omega arith

-- a settlement takes one from those under way
settle-taken : (after : SlotState) (counts : DestinationCounts) → 0 < counts.inflight → AreTaken counts → AreTaken (settled_one after counts)
settle-taken (Waiting attempts due) counts some are = omega arith
settle-taken (InFlight attempt) counts some are = are
settle-taken Delivered counts some are = omega arith
settle-taken (Failed cause) counts some are = omega arith

-- so it stays with each entry that may follow
taken-after : (h : History) (e : Entry) → IsSound h → MayFollow h e → ((d : ℕ) → d < 32 → AreTaken (destination_counts h d)) → (d : ℕ) → d < 32 → AreTaken (destination_counts (followed_by h e) d)
taken-after h (Arrival conn channel raw reply) sound may were d below =
    subst AreTaken (sym (arrived-counts h conn channel raw reply sound (arrival-step h sound conn channel raw reply (arrivable h conn channel raw reply may)) d)) (by (list_any (λ e. e == d) (slots_added (plan_in_force h) channel raw reply)))
  where
    by : (b : Bool) → AreTaken (cond b (waits_one (destination_counts h d)) (destination_counts h d))
    by true = were d below
    by false = were d below
taken-after h (Take ticket now) sound may were d below =
    let step = (take-step h sound ticket.destination now ticket may.replied).1 in
    let inside = slot-inside h sound ticket.number ticket.destination (Waiting step.attempts step.due) step.waited in
    let are = counted-are h in
    subst AreTaken ((counted-take h now ticket (counted h) step inside are).destination d below)
    (changed-at AreTaken taken_one (counted h) ticket.destination d (destination-inside h ticket.destination inside)
    (take-taken (destination_at ticket.destination (counted h)) (subst AreTaken (sym (are.destination ticket.destination inside)) (were ticket.destination inside)))
    (subst AreTaken (sym (are.destination d below)) (were d below)))
taken-after h (Settle outcome ticket now after) sound may were d below =
    let step = settle-step h sound ticket outcome now after may.replied in
    let inside = settle-inside h ticket outcome now after step in
    let are = counted-are h in
    subst AreTaken ((counted-settle h ticket outcome now after (counted h) step are).destination d below)
    (changed-at AreTaken (settled_one after) (counted h) ticket.destination d (destination-inside h ticket.destination inside)
    (settle-taken after (destination_at ticket.destination (counted h)) (settle-flies h ticket outcome now after (counted h) step are) (subst AreTaken (sym (are.destination ticket.destination inside)) (were ticket.destination inside)))
    (subst AreTaken (sym (are.destination d below)) (were d below)))
taken-after h (Cancel number among mask) sound may were d below = subst AreTaken (sym (cancelled-counts h number among mask (cancel-step h sound number among mask may.replied) d)) (by (bit_at mask d == 1))
  where
    by : (b : Bool) → AreTaken (cond b (cancelled_one (destination_counts h d)) (destination_counts h d))
    by true = were d below
    by false = were d below
taken-after h (Deploy plan) sound may were d below = subst AreTaken (sym (deployed-counts h plan (deploy-step h sound plan (deployable h plan may)) d)) (were d below)

-- and holds of each sound history, as far as it was booked
taken-before : (h : History) → IsSound h → (k d : ℕ) → d < 32 → AreTaken (destination_counts (of_snapshot h.opening (take k h.entries)) d)
taken-before h sound zero d below = sound.opening.were_taken d below
taken-before h sound (suc k) d below = elim (slice_get h.entries k) as (λ o. slice_get h.entries k ≡ o → AreTaken (destination_counts (of_snapshot h.opening (take (suc k) h.entries)) d)) [
  | None ↦ λ none. subst (λ es. AreTaken (destination_counts (of_snapshot h.opening es) d)) (sym (take-past h.entries k none)) (taken-before h sound k d below)
  | Some e ↦ λ got.
      subst (λ es. AreTaken (destination_counts (of_snapshot h.opening es) d)) (sym (take-more h.entries k e got))
      (taken-after (of_snapshot h.opening (take k h.entries)) e (sound-before h sound.opening sound.legal k) (follows-since h sound.legal k e got) (taken-before h sound k) d below)
] refl

-- to its end
pub were-taken : (h : History) → IsSound h → (d : ℕ) → d < 32 → AreTaken (destination_counts h d)
were-taken h sound d below =
    subst (λ es. AreTaken (destination_counts (of_snapshot h.opening es) d)) (take-whole h.entries) (taken-before h sound (length h.entries) d below)

-- ---- the sums

-- what a take adds at its destination
taken-more : (counts : DestinationCounts) → ((taken_one counts).attempts ≡ counts.attempts + 1) × ((taken_one counts).attempts - (taken_one counts).inflight ≡ counts.attempts - counts.inflight + 0)
taken-more counts = (refl, omega arith)

-- a take
pub take-sums : (h : History) (d now : ℕ) (ticket : Ticket) → IsSound h → take_answer h d now ≡ Ok ticket → SumsRise 0 1 0 (counted h) (counted (followed_by h (Take ticket now)))
take-sums h d now ticket sound is =
    let step = (take-step h sound d now ticket is).1 in
    let inside = slot-inside h sound ticket.number ticket.destination (Waiting step.attempts step.due) step.waited in
    let are = counted-are h in
    let changes = taken-more (destination_at ticket.destination (counted h)) in
    subst (SumsRise 0 1 0 (counted h))
    (counted-is (followed_by h (Take ticket now)) (on_destination ticket.destination taken_one (counted h)) (counted-take h now ticket (counted h) step inside are))
    (record {
      arrivals = sym (add-zero (arrivals (counted h)));
      takes = takes-more (counted h) ticket.destination 1 taken_one (destination-inside h ticket.destination inside) changes.0;
      settlements = settlements-more (counted h) ticket.destination 0 taken_one (destination-inside h ticket.destination inside) changes.1;
    })

-- what a settlement adds at its destination
settled-less : (after : SlotState) (counts : DestinationCounts) → is_in_flight after ≡ false → 0 < counts.inflight → AreTaken counts
    → ((settled_one after counts).attempts ≡ counts.attempts + 0) × ((settled_one after counts).attempts - (settled_one after counts).inflight ≡ counts.attempts - counts.inflight + 1)
settled-less (Waiting attempts due) counts landed some within = (omega arith, omega arith)
settled-less (InFlight attempt) counts landed some within = absurd cc
settled-less Delivered counts landed some within = (omega arith, omega arith)
settled-less (Failed cause) counts landed some within = (omega arith, omega arith)

-- a settlement
pub settle-sums : (h : History) (ticket : Ticket) (outcome : Outcome) (now : ℕ) (after : SlotState) → IsSound h → settle_answer h ticket outcome now ≡ Ok after → SumsRise 0 0 1 (counted h) (counted (followed_by h (Settle outcome ticket now after)))
settle-sums h ticket outcome now after sound is =
    let step = settle-step h sound ticket outcome now after is in
    let inside = settle-inside h ticket outcome now after step in
    let are = counted-are h in
    let were : AreTaken (destination_at ticket.destination (counted h)) = subst AreTaken (sym (are.destination ticket.destination inside)) (were-taken h sound ticket.destination inside) in
    let changes = settled-less after (destination_at ticket.destination (counted h)) step.landed (settle-flies h ticket outcome now after (counted h) step are) were in
    subst (SumsRise 0 0 1 (counted h))
    (counted-is (followed_by h (Settle outcome ticket now after)) (on_destination ticket.destination (settled_one after) (counted h)) (counted-settle h ticket outcome now after (counted h) step are))
    (record {
      arrivals = sym (add-zero (arrivals (counted h)));
      takes = takes-more (counted h) ticket.destination 0 (settled_one after) (destination-inside h ticket.destination inside) changes.0;
      settlements = settlements-more (counted h) ticket.destination 1 (settled_one after) (destination-inside h ticket.destination inside) changes.1;
    })

-- no more than before
and-none : (n m : ℕ) → n ≡ m → n ≡ m + 0
and-none n m same = omega arith

-- a cancellation
pub cancel-sums : (h : History) (number among mask : ℕ) → IsSound h → cancel_answer h number among ≡ Ok mask → SumsRise 0 0 0 (counted h) (counted (followed_by h (Cancel number among mask)))
cancel-sums h number among mask sound is = record {
  arrivals = and-none _ _ (sum-same (λ (c : ChannelCounts). c.received + c.repeats) (channel_counts (followed_by h (Cancel number among mask))) (channel_counts h)
      (λ c. ap (λ (k : ChannelCounts). k.received + k.repeats) (channels-kept h (Cancel number among mask) (λ c so. refl) c)) (range_with_len 0 64));
  takes = and-none _ _ (sum-same (λ (c : DestinationCounts). c.attempts) (destination_counts (followed_by h (Cancel number among mask))) (destination_counts h)
      (λ d. attempts-kept h (Cancel number among mask) d refl) (range_with_len 0 32));
  settlements = and-none _ _ (sum-same (λ (c : DestinationCounts). c.attempts - c.inflight) (destination_counts (followed_by h (Cancel number among mask))) (destination_counts h)
      (λ d. ap (λ (k : DestinationCounts). k.attempts - k.inflight) (cancelled-counts h number among mask (cancel-step h sound number among mask is) d) ∙ by d (bit_at mask d == 1)) (range_with_len 0 32));
}
  where
    by : (d : ℕ) (b : Bool) → (cond b (cancelled_one (destination_counts h d)) (destination_counts h d)).attempts - (cond b (cancelled_one (destination_counts h d)) (destination_counts h d)).inflight
        ≡ (destination_counts h d).attempts - (destination_counts h d).inflight
    by d true = refl
    by d false = refl

-- a deployment
pub deploy-sums : (h : History) (plan : PlanEntry) → IsSound h → MayFollow h (Deploy plan) → SumsRise 0 0 0 (counted h) (counted (followed_by h (Deploy plan)))
deploy-sums h plan sound may = record {
  arrivals = and-none _ _ (sum-same (λ (c : ChannelCounts). c.received + c.repeats) (channel_counts (followed_by h (Deploy plan))) (channel_counts h)
      (λ c. ap (λ (k : ChannelCounts). k.received + k.repeats) (channels-kept h (Deploy plan) (λ c so. refl) c)) (range_with_len 0 64));
  takes = and-none _ _ (sum-same (λ (c : DestinationCounts). c.attempts) (destination_counts (followed_by h (Deploy plan))) (destination_counts h)
      (λ d. attempts-kept h (Deploy plan) d refl) (range_with_len 0 32));
  settlements = and-none _ _ (sum-same (λ (c : DestinationCounts). c.attempts - c.inflight) (destination_counts (followed_by h (Deploy plan))) (destination_counts h)
      (λ d. ap (λ (k : DestinationCounts). k.attempts - k.inflight) (deployed-counts h plan (deploy-step h sound plan (deployable h plan may)) d)) (range_with_len 0 32));
}

-- an arrival adds one to its channel
told-more : (reply : Told) (counts : ChannelCounts) → (told_one reply counts).received + (told_one reply counts).repeats ≡ counts.received + counts.repeats + 1
told-more (told.Accepted number) counts = omega arith
told-more told.Filtered counts = omega arith
told-more (told.Refused cause) counts = omega arith
told-more (told.Repeat place) counts = omega arith

-- each channel has its counters in the statistics
channel-inside : (h : History) (c : ℕ) → c < 64 → c < length (counted h).channels
channel-inside h c below = subst (λ n. c < n) (sym (counted-are h).all_channels) below

-- the counters of the channels after an arrival
channels-after : (h : History) (conn channel : ℕ) (raw : List ℕ) (reply : Told) → channel < 64
    → (on_channel channel (told_one reply) (counted h)).channels ≡ (counted (followed_by h (Arrival conn channel raw reply))).channels
channels-after h conn channel raw reply below =
    let are = counted-are h in
    listed (channel_counts (followed_by h (Arrival conn channel raw reply))) 64 (set (counted h).channels channel (told_one reply (channel_at channel (counted h)))) no_arrivals
    (length-set (counted h).channels channel (told_one reply (channel_at channel (counted h))) ∙ are.all_channels)
    (λ c inside. elim (eqb_tells c channel) [
      | inl w ↦
          subst (λ k. get_or (set (counted h).channels channel (told_one reply (channel_at channel (counted h)))) k no_arrivals ≡ channel_counts (followed_by h (Arrival conn channel raw reply)) k) (sym w.1)
          (get_or-set_same (counted h).channels channel (told_one reply (channel_at channel (counted h))) no_arrivals (channel-inside h channel below) ∙ (ap (told_one reply) (are.channel channel below) ∙ sym (channel-told h conn channel raw reply)))
      | inr w ↦
          get_or-set_other (counted h).channels channel c (told_one reply (channel_at channel (counted h))) no_arrivals w.1 ∙ (are.channel c inside ∙ sym (channel-kept h conn channel raw reply c w.1))
    ])

-- an arrival
pub arrival-sums : (h : History) (conn channel : ℕ) (raw : List ℕ) (reply : Told) → IsSound h → MayFollow h (Arrival conn channel raw reply) → channel < length (plan_in_force h).channels
    → SumsRise 1 0 0 (counted h) (counted (followed_by h (Arrival conn channel raw reply)))
arrival-sums h conn channel raw reply sound may known =
    let below : channel < 64 = omega (arith, sound.plan.few_channels) in
    record {
      arrivals =
          ap (λ cs. sum_by (λ (c : ChannelCounts). c.received + c.repeats) cs) (sym (channels-after h conn channel raw reply below))
          ∙ arrivals-more (counted h) channel 1 (told_one reply) (channel-inside h channel below) (told-more reply (channel_at channel (counted h)));
      takes = and-none _ _ (sum-same (λ (c : DestinationCounts). c.attempts) (destination_counts (followed_by h (Arrival conn channel raw reply))) (destination_counts h)
          (λ d. attempts-kept h (Arrival conn channel raw reply) d refl) (range_with_len 0 32));
      settlements = and-none _ _ (sum-same (λ (c : DestinationCounts). c.attempts - c.inflight) (destination_counts (followed_by h (Arrival conn channel raw reply))) (destination_counts h)
          (λ d. ap (λ (k : DestinationCounts). k.attempts - k.inflight) (arrived-counts h conn channel raw reply sound (arrival-step h sound conn channel raw reply (arrivable h conn channel raw reply may)) d)
          ∙ by d (list_any (λ e. e == d) (slots_added (plan_in_force h) channel raw reply))) (range_with_len 0 32));
    }
  where
    by : (d : ℕ) (b : Bool) → (cond b (waits_one (destination_counts h d)) (destination_counts h d)).attempts - (cond b (waits_one (destination_counts h d)) (destination_counts h d)).inflight
        ≡ (destination_counts h d).attempts - (destination_counts h d).inflight
    by d true = refl
    by d false = refl

-- ---- their bound

-- a channel counts at most two for each place, and a destination one
twice-few : (places most : ℕ) → places ≤ 1001000000 → most ≤ 2 * places → most ≤ 2002000000
twice-few places most few within = omega arith

once-few : (places attempts inflight : ℕ) → places ≤ 1001000000 → attempts ≤ places → (attempts ≤ 1001000000) × (attempts - inflight ≤ 1001000000)
once-few places attempts inflight few within = (omega arith, omega arith)

-- the places are few, and so are the sums
pub sums-few : (h : History) → IsSound h → length h.entries ≤ 1000000 → (arrivals (counted h) ≤ 128128000000) × (takes (counted h) ≤ 32032000000) × (settlements (counted h) ≤ 32032000000)
sums-few h sound few =
    let places : next_place h ≤ 1001000000 = omega (arith, sound.opening.places_few, sound.opening.prunings_few) in (
      sum-within (λ (c : ChannelCounts). c.received + c.repeats) (channel_counts h) 2002000000 (λ c. twice-few (next_place h) _ places (channel-places h sound.opening c)) (range_with_len 0 64),
      sum-within (λ (c : DestinationCounts). c.attempts) (destination_counts h) 1001000000 (λ d. (once-few (next_place h) _ (destination_counts h d).inflight places (attempts-places h sound.opening d)).0) (range_with_len 0 32),
      sum-within (λ (c : DestinationCounts). c.attempts - c.inflight) (destination_counts h) 1001000000 (λ d. (once-few (next_place h) _ (destination_counts h d).inflight places (attempts-places h sound.opening d)).1) (range_with_len 0 32),
    )
