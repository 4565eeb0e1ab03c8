-- The statistics after a take, a settlement and a cancellation.
use Rattle.std.proofs.Common.{◌≡◌, ◌≢◌, ℕ, ◌+◌, ◌<◌, ◌≤◌, inl, inr, Bool, true, false, cond, not, None, Some, refl, sym, ◌∙◌, ap, arith, add-zero}
use Rattle.std.specs.Prelude.{count_by}
use Rattle.std.proofs.lemmas.Bool.{eq-eqb}
use Rattle.std.proofs.lemmas.Bool.Decides.{eqb_tells}
use Rattle.dest_queue.specs.declared.Outcome.{Outcome}
use Rattle.dest_queue.specs.declared.SlotState.{SlotState}
use Rattle.dest_queue.specs.declared.SlotState.TheVariants.{Waiting, InFlight}
use Rattle.stat_count.specs.Statistics.{Statistics, destination_at}
use Rattle.stat_count.specs.inner.Statistics.{on_destination, taken_one}
use Rattle.event_log.specs.declared.entry.Ticket.{Ticket}
use Rattle.event_log.specs.declared.entry.Told.{Told}
use Rattle.event_log.specs.declared.entry.Entry.{Entry}
use Rattle.event_log.specs.declared.entry.Entry.TheVariants.{Take, Settle}
use Rattle.event_log.specs.History.{History, accepted, deliveries, followed_by, is_for, message_count, names, next_place, slot, state}
use Rattle.event_log.specs.inner.Legal.{IsGoodOpening}
use Rattle.event_log.proofs.Following.{message_count-same, slot-same}
use Rattle.event_log.proofs.Reading.{slot-inside, slot-state}
use Rattle.event_log.proofs.Steps.{SettleStep, TakeStep}
use Rattle.event_log.proofs.Touching.{is_for-other, is_for-own}
use Rattle.event_log.specs.Counting.{channel_before, channel_counts, destination_before, destination_counts, is_accepted, is_filtered, is_refused, is_repeat, is_take_at, is_told, told_count}
use Rattle.book_core.specs.inner.Counting.{AreCounted, settled_one}
use Rattle.book_core.proofs.Counted.{attempts-places, channels-equal, counted-at}
use Rattle.book_core.proofs.Moves.{Moves, moved, moves-back, moves-nowhere, moves-out}
use Rattle.book_core.proofs.Slots.{count-push}

-- an entry that is no such one is not counted
pub count-kept : (so : Entry → Bool) (h : History) (e : Entry) → so e ≡ false → count_by so (followed_by h e).entries ≡ count_by so h.entries
count-kept so h e not_so = count-push so h e ∙ (ap (λ b. count_by so h.entries + cond b 1 0) not_so ∙ add-zero (count_by so h.entries))

-- one that is is counted
pub count-more : (so : Entry → Bool) (h : History) (e : Entry) → so e ≡ true → count_by so (followed_by h e).entries ≡ count_by so h.entries + 1
count-more so h e is_so = count-push so h e ∙ ap (λ b. count_by so h.entries + cond b 1 0) is_so

-- an entry that is no take leaves the attempts that were begun
pub attempts-kept : (h : History) (e : Entry) (d : ℕ) → is_take_at d e ≡ false → (destination_counts (followed_by h e) d).attempts ≡ (destination_counts h d).attempts
attempts-kept h e d none = ap (λ k. (destination_before h d).attempts + k) (count-kept (is_take_at d) h e none)

-- a take is one more
attempts-more : (h : History) (e : Entry) (d : ℕ) → is_take_at d e ≡ true → (destination_counts (followed_by h e) d).attempts ≡ (destination_counts h d).attempts + 1
attempts-more h e d one = by (destination_before h d).attempts (count_by (is_take_at d) h.entries) (count_by (is_take_at d) (followed_by h e).entries) (count-more (is_take_at d) h e one)
  where
    by : (before old new : ℕ) → new ≡ old + 1 → before + new ≡ before + old + 1
    by before old new more = omega arith

-- an entry that is no arrival changes the counters of no channel
pub channels-kept : (h : History) (e : Entry) → ((c : ℕ) (so : Told → Bool) → is_told c so e ≡ false) → (c : ℕ) → channel_counts (followed_by h e) c ≡ channel_counts h c
channels-kept h e none c = channels-equal (channel_counts (followed_by h e) c) (channel_counts h c)
    (ap (λ k. (channel_before h c).received + k) (kept (λ reply. not (is_repeat reply)))) (ap (λ k. (channel_before h c).filtered + k) (kept is_filtered)) (ap (λ k. (channel_before h c).accepted + k) (kept is_accepted))
    (ap (λ k. (channel_before h c).refused + k) (kept is_refused)) (ap (λ k. (channel_before h c).repeats + k) (kept is_repeat))
  where
    kept : (so : Told → Bool) → told_count (followed_by h e) c so ≡ told_count h c so
    kept so = count-kept (is_told c so) h e (none c so)

-- an entry that leaves one slot in a state
module _ (h h' : History) (opening : h'.opening ≡ h.opening) (ticket : Ticket) (is : SlotState) (same : accepted h' ≡ accepted h) (exists : ticket.number < message_count h) (states : (n d : ℕ) → state h' n d ≡ cond (is_for n d ticket) is (state h n d)) where
  -- another slot stays
  slot-kept : (m d : ℕ) → (m ≡ ticket.number → d ≢ ticket.destination) → slot h' m d ≡ slot h m d
  slot-kept m d other = slot-same h h' opening same m d ∙ ap (λ s. cond (names d (deliveries h m)) (Some s) None) (states m d ∙ ap (λ b. cond b is (state h m d)) (is_for-other ticket m d other))

  -- the slot is in that state
  slot-left : (was : SlotState) → slot h ticket.number ticket.destination ≡ Some was → slot h' ticket.number ticket.destination ≡ Some is
  slot-left was found =
      slot-same h h' opening same ticket.number ticket.destination
      ∙ (ap (λ s. cond (names ticket.destination (deliveries h ticket.number)) (Some s) None) (states ticket.number ticket.destination ∙ ap (λ b. cond b is (state h ticket.number ticket.destination)) (is_for-own ticket))
      ∙ ap (λ b. cond b (Some is) None) (slot-state h ticket.number ticket.destination was found).0)

  -- its destination counts it in the new state and no longer in the old
  slot-moves : (was : SlotState) → slot h ticket.number ticket.destination ≡ Some was → Moves (Some was) (Some is) (destination_counts h ticket.destination) (destination_counts h' ticket.destination)
  slot-moves was found =
      moved h h' opening ticket.number ticket.destination (Some was) (Some is) (message_count-same h h' opening same) exists (λ m apart. slot-kept m ticket.destination (λ e. absurd (apart e))) found (slot-left was found)

  -- another destination counts as before
  others-stay : (d : ℕ) → d ≢ ticket.destination → (destination_counts h' d).attempts ≡ (destination_counts h d).attempts → destination_counts h' d ≡ destination_counts h d
  others-stay d apart attempts =
      moves-nowhere (slot h ticket.number d) (destination_counts h d) (destination_counts h' d)
      (moved h h' opening ticket.number d (slot h ticket.number d) (slot h ticket.number d) (message_count-same h h' opening same) exists (λ m _. slot-kept m d (λ _. apart)) refl (slot-kept ticket.number d (λ _. apart))) attempts

-- a take, counted at its destination
taken-counts : (h : History) (now : ℕ) (ticket : Ticket) → TakeStep h now ticket
    → (destination_counts (followed_by h (Take ticket now)) ticket.destination ≡ taken_one (destination_counts h ticket.destination)) × (0 < (destination_counts h ticket.destination).waiting)
taken-counts h now ticket step =
    moves-out step.attempts step.due ticket.attempt (destination_counts h ticket.destination) (destination_counts (followed_by h (Take ticket now)) ticket.destination)
    (slot-moves h (followed_by h (Take ticket now)) refl ticket (InFlight ticket.attempt) step.nothing.accepted step.exists step.state (Waiting step.attempts step.due) step.waited)
    (attempts-more h (Take ticket now) ticket.destination (eq-eqb ticket.destination ticket.destination refl))

-- the statistics after a take
pub counted-take : (h : History) (now : ℕ) (ticket : Ticket) (tally : Statistics) → TakeStep h now ticket → ticket.destination < 32 → AreCounted h tally
    → AreCounted (followed_by h (Take ticket now)) (on_destination ticket.destination taken_one tally)
counted-take h now ticket tally step inside counts =
    counted-at h (followed_by h (Take ticket now)) tally ticket.destination taken_one inside counts (channels-kept h (Take ticket now) (λ c so. refl)) (taken-counts h now ticket step).0
    (λ d apart. others-stay h (followed_by h (Take ticket now)) refl ticket (InFlight ticket.attempt) step.nothing.accepted step.exists step.state d apart
    (attempts-kept h (Take ticket now) d (elim (eqb_tells ticket.destination d) [ inl w ↦ absurd (apart (sym w.1)) | inr w ↦ w.0 ])))

-- before a take a slot waits, and there were no more attempts than places
pub take-waits : (h : History) (now : ℕ) (ticket : Ticket) (tally : Statistics) → TakeStep h now ticket → IsGoodOpening h.opening → ticket.destination < 32 → AreCounted h tally
    → (0 < (destination_at ticket.destination tally).waiting) × ((destination_at ticket.destination tally).attempts ≤ next_place h)
take-waits h now ticket tally step good inside counts =
    let is = counts.destination ticket.destination inside in
    let waiting = ap (λ k. k.waiting) is in
    let attempts = ap (λ k. k.attempts) is in
    let some = (taken-counts h now ticket step).1 in
    let few = attempts-places h good ticket.destination in (omega arith, omega arith)

-- a settlement, counted at its destination
settled-counts : (h : History) (ticket : Ticket) (outcome : Outcome) (now : ℕ) (after : SlotState) → SettleStep h ticket outcome now after
    → (destination_counts (followed_by h (Settle outcome ticket now after)) ticket.destination ≡ settled_one after (destination_counts h ticket.destination)) × (0 < (destination_counts h ticket.destination).inflight)
settled-counts h ticket outcome now after step =
    moves-back ticket.attempt after (destination_counts h ticket.destination) (destination_counts (followed_by h (Settle outcome ticket now after)) ticket.destination) step.landed
    (slot-moves h (followed_by h (Settle outcome ticket now after)) refl ticket after step.nothing.accepted step.exists step.state (InFlight ticket.attempt) step.flew)
    (attempts-kept h (Settle outcome ticket now after) ticket.destination refl)

-- what is settled was sent to one of the 32 destinations
pub settle-inside : (h : History) (ticket : Ticket) (outcome : Outcome) (now : ℕ) (after : SlotState) → SettleStep h ticket outcome now after → ticket.destination < 32
settle-inside h ticket outcome now after step =
    slot-inside (followed_by h (Settle outcome ticket now after)) step.sound ticket.number ticket.destination after
    (slot-left h (followed_by h (Settle outcome ticket now after)) refl ticket after step.nothing.accepted step.exists step.state (InFlight ticket.attempt) step.flew)

-- the statistics after a settlement
pub counted-settle : (h : History) (ticket : Ticket) (outcome : Outcome) (now : ℕ) (after : SlotState) (tally : Statistics) → SettleStep h ticket outcome now after → AreCounted h tally
    → AreCounted (followed_by h (Settle outcome ticket now after)) (on_destination ticket.destination (settled_one after) tally)
counted-settle h ticket outcome now after tally step counts =
    counted-at h (followed_by h (Settle outcome ticket now after)) tally ticket.destination (settled_one after) (settle-inside h ticket outcome now after step) counts
    (channels-kept h (Settle outcome ticket now after) (λ c so. refl)) (settled-counts h ticket outcome now after step).0
    (λ d apart. others-stay h (followed_by h (Settle outcome ticket now after)) refl ticket after step.nothing.accepted step.exists step.state d apart (attempts-kept h (Settle outcome ticket now after) d refl))

-- before a settlement a slot is in flight
pub settle-flies : (h : History) (ticket : Ticket) (outcome : Outcome) (now : ℕ) (after : SlotState) (tally : Statistics) → SettleStep h ticket outcome now after → AreCounted h tally → 0 < (destination_at ticket.destination tally).inflight
settle-flies h ticket outcome now after tally step counts =
    let inflight = ap (λ k. k.inflight) (counts.destination ticket.destination (settle-inside h ticket outcome now after step)) in
    let some = (settled-counts h ticket outcome now after step).1 in omega arith
