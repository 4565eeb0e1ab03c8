-- The statistics after an arrival.
use Rattle.std.proofs.Common.{◌≡◌, ◌≢◌, ℕ, ◌+◌, ◌<◌, ◌==◌, ◌&&◌, ◌||◌, inl, inr, Bool, true, false, cond, not, List, [], ◌∷◌, ◌++◌, None, Some, refl, sym, ◌∙◌, ap, subst, arith, append-nil}
use Rattle.std.specs.List.{list_any}
use Rattle.std.specs.Option.{option_map_or}
use Rattle.std.proofs.lemmas.Bool.{eq-eqb}
use Rattle.std.proofs.lemmas.Bool.Decides.{eqb_tells}
use Rattle.judge_core.specs.declared.delivery.Delivery.{Delivery}
use Rattle.judge_core.specs.Delivering.{destinations_of}
use Rattle.judge_core.specs.Judging.{verdict as decided, deliveries_of}
use Rattle.dest_queue.specs.declared.SlotState.TheVariants.{Waiting}
use Rattle.stat_count.specs.declared.ChannelCounts.{ChannelCounts}
use Rattle.stat_count.specs.Statistics.{Statistics, channel_at}
use Rattle.stat_count.specs.inner.Statistics.{waits_one}
use Rattle.event_log.specs.declared.entry.Told.{Told}
use Rattle.event_log.specs.declared.entry.Told.TheVariants as told
use Rattle.event_log.specs.declared.entry.Entry.TheVariants.{Arrival}
use Rattle.event_log.specs.History.{History, Accepted, accepted, accepted_under, deliveries, followed_by, message_count, names, plan_in_force, slot, state}
use Rattle.event_log.specs.inner.Legal.{IsSound}
use Rattle.event_log.specs.Room.{slots_added}
use Rattle.event_log.proofs.Following.{message-newest, message-older, message_count-longer, message_count-same, slot-same}
use Rattle.event_log.proofs.Steps.{ArrivalStep}
use Rattle.event_log.specs.Counting.{channel_before, channel_counts, destination_counts, is_accepted, is_filtered, is_refused, is_repeat, is_told, told_count}
use Rattle.book_core.specs.inner.Counting.{AreCounted, CountsArrival, told_one}
use Rattle.book_core.proofs.Counted.{channels-equal}
use Rattle.book_core.proofs.CountedCancels.{not-equal}
use Rattle.book_core.proofs.CountedSteps.{attempts-kept, count-kept}
use Rattle.book_core.proofs.Moves.{moved-in, moved-nowhere, moves-in, moves-nowhere}
use Rattle.book_core.proofs.Slots.{count-push}

-- the counters of a channel, where each counts one more if the reply is so
told_one-is : (reply : Told) (old new : ChannelCounts) → new.received ≡ old.received + cond (not (is_repeat reply)) 1 0 → new.filtered ≡ old.filtered + cond (is_filtered reply) 1 0
    → new.accepted ≡ old.accepted + cond (is_accepted reply) 1 0 → new.refused ≡ old.refused + cond (is_refused reply) 1 0 → new.repeats ≡ old.repeats + cond (is_repeat reply) 1 0 → new ≡ told_one reply old
told_one-is (told.Accepted number) old new received filtered taken refused repeats = channels-equal new (told_one (told.Accepted number) old) (omega arith) (omega arith) (omega arith) (omega arith) (omega arith)
told_one-is told.Filtered old new received filtered taken refused repeats = channels-equal new (told_one told.Filtered old) (omega arith) (omega arith) (omega arith) (omega arith) (omega arith)
told_one-is (told.Refused cause) old new received filtered taken refused repeats = channels-equal new (told_one (told.Refused cause) old) (omega arith) (omega arith) (omega arith) (omega arith) (omega arith)
told_one-is (told.Repeat place) old new received filtered taken refused repeats = channels-equal new (told_one (told.Repeat place) old) (omega arith) (omega arith) (omega arith) (omega arith) (omega arith)

-- deliveries name a destination where it is one of theirs
pub names-either : (d : ℕ) (ds : List Delivery) → list_any (λ e. e == d) (destinations_of ds) ≡ names d ds
names-either d [] = refl
names-either d (x ∷ ds) = ap (λ b. (x.destination == d) || b) (names-either d ds)

module _ (h : History) (conn channel : ℕ) (raw : List ℕ) where
  -- the counters of its channel
  pub channel-told : (reply : Told) → channel_counts (followed_by h (Arrival conn channel raw reply)) channel ≡ told_one reply (channel_counts h channel)
  channel-told reply =
      told_one-is reply (channel_counts h channel) (channel_counts (followed_by h (Arrival conn channel raw reply)) channel)
      (more (channel_before h channel).received _ _ _ (by (λ t. not (is_repeat t)))) (more (channel_before h channel).filtered _ _ _ (by is_filtered)) (more (channel_before h channel).accepted _ _ _ (by is_accepted))
      (more (channel_before h channel).refused _ _ _ (by is_refused)) (more (channel_before h channel).repeats _ _ _ (by is_repeat))
    where
      more : (before new old own : ℕ) → new ≡ old + own → before + new ≡ before + old + own
      more before new old own is = omega arith

      by : (so : Told → Bool) → told_count (followed_by h (Arrival conn channel raw reply)) channel so ≡ told_count h channel so + cond (so reply) 1 0
      by so = count-push (is_told channel so) h (Arrival conn channel raw reply) ∙ ap (λ b. told_count h channel so + cond (b && so reply) 1 0) (eq-eqb channel channel refl)

  -- the counters of another channel
  pub channel-kept : (reply : Told) (c : ℕ) → c ≢ channel → channel_counts (followed_by h (Arrival conn channel raw reply)) c ≡ channel_counts h c
  channel-kept reply c apart =
      channels-equal (channel_counts (followed_by h (Arrival conn channel raw reply)) c) (channel_counts h c)
      (ap (λ k. (channel_before h c).received + k) (by (λ t. not (is_repeat t)))) (ap (λ k. (channel_before h c).filtered + k) (by is_filtered)) (ap (λ k. (channel_before h c).accepted + k) (by is_accepted))
      (ap (λ k. (channel_before h c).refused + k) (by is_refused)) (ap (λ k. (channel_before h c).repeats + k) (by is_repeat))
    where
      by : (so : Told → Bool) → told_count (followed_by h (Arrival conn channel raw reply)) c so ≡ told_count h c so
      by so = count-kept (is_told c so) h (Arrival conn channel raw reply) (ap (λ b. b && so reply) (not-equal channel c apart))

  -- an arrival that brings no message leaves the counters of each destination
  kept-counts : (reply : Told) → accepted (followed_by h (Arrival conn channel raw reply)) ≡ accepted h → ((n d : ℕ) → state (followed_by h (Arrival conn channel raw reply)) n d ≡ state h n d)
      → (d : ℕ) → destination_counts (followed_by h (Arrival conn channel raw reply)) d ≡ destination_counts h d
  kept-counts reply same states d =
      moves-nowhere None (destination_counts h d) (destination_counts (followed_by h (Arrival conn channel raw reply)) d)
      (moved-nowhere h (followed_by h (Arrival conn channel raw reply)) refl d (message_count-same h (followed_by h (Arrival conn channel raw reply)) refl same)
      (λ m _. slot-same h (followed_by h (Arrival conn channel raw reply)) refl same m d ∙ ap (λ s. cond (names d (deliveries h m)) (Some s) None) (states m d)))
      (attempts-kept h (Arrival conn channel raw reply) d refl)

-- a message that came waits at each destination that it names
came-counts : (h h' : History) → h'.opening ≡ h.opening → (m : Accepted) → accepted h' ≡ accepted h ++ m ∷ [] → ((n d : ℕ) → state h' n d ≡ state h n d) → ((d : ℕ) → state h (message_count h) d ≡ Waiting 0 0)
    → (d : ℕ) → (destination_counts h' d).attempts ≡ (destination_counts h d).attempts
    → destination_counts h' d ≡ cond (names d m.deliveries) (waits_one (destination_counts h d)) (destination_counts h d)
came-counts h h' opening m longer states fresh d attempts = by (names d m.deliveries) refl
  where
    more : message_count h' ≡ message_count h + 1
    more = message_count-longer h h' opening m longer

    older : (n : ℕ) → n < message_count h → slot h' n d ≡ slot h n d
    older n below = ap (λ ds. cond (names d ds) (Some (state h' n d)) None) (ap (λ o. option_map_or (λ x. x.deliveries) o []) (message-older h h' opening m longer n (λ same. omega arith))) ∙ ap (λ s. cond (names d (deliveries h n)) (Some s) None) (states n d)

    own : (b : Bool) → names d m.deliveries ≡ b → slot h' (message_count h) d ≡ cond b (Some (Waiting 0 0)) None
    own b is =
        ap (λ ds. cond (names d ds) (Some (state h' (message_count h) d)) None) (ap (λ o. option_map_or (λ x. x.deliveries) o []) (message-newest h h' opening m longer))
        ∙ (ap (λ s. cond (names d m.deliveries) (Some s) None) (states (message_count h) d ∙ fresh d) ∙ ap (λ t. cond t (Some (Waiting 0 0)) None) is)

    by : (b : Bool) → names d m.deliveries ≡ b → destination_counts h' d ≡ cond (names d m.deliveries) (waits_one (destination_counts h d)) (destination_counts h d)
    by true is =
        moves-in 0 0 (destination_counts h d) (destination_counts h' d) (moved-in h h' opening d (Some (Waiting 0 0)) more older (own true is)) attempts
        ∙ sym (ap (λ t. cond t (waits_one (destination_counts h d)) (destination_counts h d)) is)
    by false is =
        moves-nowhere None (destination_counts h d) (destination_counts h' d) (moved-in h h' opening d None more older (own false is)) attempts
        ∙ sym (ap (λ t. cond t (waits_one (destination_counts h d)) (destination_counts h d)) is)

-- a destination's counters after an arrival
pub arrived-counts : (h : History) (conn channel : ℕ) (raw : List ℕ) (reply : Told) → IsSound h → ArrivalStep h conn channel raw reply → (d : ℕ)
    → destination_counts (followed_by h (Arrival conn channel raw reply)) d ≡ cond (list_any (λ e. e == d) (slots_added (plan_in_force h) channel raw reply)) (waits_one (destination_counts h d)) (destination_counts h d)
arrived-counts h conn channel raw (told.Accepted number) sound step d =
    came-counts h (followed_by h (Arrival conn channel raw (told.Accepted number))) refl (accepted_under (plan_in_force h) channel raw) step.accepted step.state
    (λ e. sound.to_come (message_count h) e (omega arith)) d (attempts-kept h (Arrival conn channel raw (told.Accepted number)) d refl)
    ∙ sym (ap (λ b. cond b (waits_one (destination_counts h d)) (destination_counts h d)) (names-either d (deliveries_of (decided (plan_in_force h) channel raw))))
arrived-counts h conn channel raw told.Filtered sound step d = kept-counts h conn channel raw told.Filtered (step.accepted ∙ append-nil (accepted h)) step.state d
arrived-counts h conn channel raw (told.Refused cause) sound step d = kept-counts h conn channel raw (told.Refused cause) (step.accepted ∙ append-nil (accepted h)) step.state d
arrived-counts h conn channel raw (told.Repeat place) sound step d = kept-counts h conn channel raw (told.Repeat place) (step.accepted ∙ append-nil (accepted h)) step.state d

-- the statistics after an arrival
pub counted-arrival : (h : History) (conn channel : ℕ) (raw : List ℕ) (reply : Told) (tally new : Statistics) → IsSound h → ArrivalStep h conn channel raw reply → channel < 64 → AreCounted h tally
    → CountsArrival channel reply (slots_added (plan_in_force h) channel raw reply) tally new → AreCounted (followed_by h (Arrival conn channel raw reply)) new
counted-arrival h conn channel raw reply tally new sound step place counts arrives = record {
  all_channels = arrives.channels ∙ counts.all_channels;
  all_destinations = arrives.destinations ∙ counts.all_destinations;
  channel = λ c below. elim (eqb_tells c channel) [
    | inl w ↦
        subst (λ k. channel_at k new ≡ channel_counts (followed_by h (Arrival conn channel raw reply)) k) (sym w.1)
        (arrives.its_channel ∙ (ap (told_one reply) (counts.channel channel place) ∙ sym (channel-told h conn channel raw reply)))
    | inr w ↦ arrives.other_channels c w.1 ∙ (counts.channel c below ∙ sym (channel-kept h conn channel raw reply c w.1))
  ];
  destination = λ d below.
      arrives.each_destination d below
      ∙ (ap (λ k. cond (list_any (λ e. e == d) (slots_added (plan_in_force h) channel raw reply)) (waits_one k) k) (counts.destination d below) ∙ sym (arrived-counts h conn channel raw reply sound step d));
}
