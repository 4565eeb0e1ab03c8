-- The statistics after a cancellation.
use Rattle.std.proofs.Common.{◌≡◌, ◌≢◌, ℕ, ◌<◌, ◌==◌, ◌&&◌, inl, inr, Bool, true, false, cond, Option, None, Some, refl, sym, ◌∙◌, ap, length, arith}
use Rattle.std.specs.Int.{bit_at}
use Rattle.std.specs.Option.{option_map_or}
use Rattle.std.proofs.lemmas.Bool.{eq-eqb}
use Rattle.std.proofs.lemmas.Bool.Decides.{eqb_tells}
use Rattle.dest_queue.specs.declared.FailCause.TheVariants.{Cancelled}
use Rattle.dest_queue.specs.declared.SlotState.{SlotState}
use Rattle.dest_queue.specs.declared.SlotState.TheVariants.{Waiting, InFlight, Delivered, Failed}
use Rattle.dest_queue.specs.States.{is_waiting}
use Rattle.stat_count.specs.Statistics.{Statistics, channel_at, destination_at}
use Rattle.stat_count.specs.inner.Statistics.{cancelled_one}
use Rattle.event_log.specs.declared.entry.Entry.TheVariants.{Cancel}
use Rattle.event_log.specs.History.{History, deliveries, followed_by, names, slot, state}
use Rattle.event_log.proofs.Following.{message_count-same, slot-same}
use Rattle.event_log.proofs.Reading.{slot-state}
use Rattle.event_log.proofs.Steps.{CancelStep}
use Rattle.event_log.specs.Counting.{destination_counts}
use Rattle.book_core.specs.inner.Counting.{AreCounted, CountsCancel}
use Rattle.book_core.proofs.CountedSteps.{attempts-kept, channels-kept}
use Rattle.book_core.proofs.Moves.{moved, moves-nowhere, moves-off}

-- a message that waits at a destination has a slot there, which waits
waits-slot : (o : Option SlotState) → option_map_or is_waiting o false ≡ true → (attempts : ℕ) × (due : ℕ) × (o ≡ Some (Waiting attempts due))
waits-slot None waiting = absurd cc
waits-slot (Some (Waiting attempts due)) waiting = (attempts, due, refl)
waits-slot (Some (InFlight attempt)) waiting = absurd cc
waits-slot (Some Delivered) waiting = absurd cc
waits-slot (Some (Failed cause)) waiting = absurd cc

-- where both hold, the second does
both-right : (a b : Bool) → (a && b) ≡ true → b ≡ true
both-right true b both = both
both-right false b both = absurd cc

-- a test of numbers that differ
pub not-equal : (n m : ℕ) → m ≢ n → (n == m) ≡ false
not-equal n m apart = elim (eqb_tells n m) [ inl w ↦ absurd (apart (sym w.1)) | inr w ↦ w.0 ]

module _ (h : History) (number among mask : ℕ) (step : CancelStep h number among mask) where
  -- the slots of another message stay
  others-kept : (m d : ℕ) → m ≢ number → slot (followed_by h (Cancel number among mask)) m d ≡ slot h m d
  others-kept m d apart =
      slot-same h (followed_by h (Cancel number among mask)) refl step.nothing.accepted m d
      ∙ ap (λ s. cond (names d (deliveries h m)) (Some s) None)
      (step.state m d ∙ ap (λ b. cond (b && (bit_at mask d == 1)) (Failed Cancelled) (state h m d)) (not-equal number m apart))

  -- the message's own state, by the mask's bit
  own-state : (d : ℕ) (b : Bool) → (bit_at mask d == 1) ≡ b → state (followed_by h (Cancel number among mask)) number d ≡ cond b (Failed Cancelled) (state h number d)
  own-state d b bit =
      step.state number d
      ∙ (ap (λ t. cond (t && (bit_at mask d == 1)) (Failed Cancelled) (state h number d)) (eq-eqb number number refl)
      ∙ ap (λ t. cond t (Failed Cancelled) (state h number d)) bit)

  -- where the mask names the destination, a slot that waits has failed
  off-counts : (d : ℕ) → (bit_at mask d == 1) ≡ true
      → (destination_counts (followed_by h (Cancel number among mask)) d ≡ cancelled_one (destination_counts h d)) × (0 < (destination_counts h d).waiting)
  off-counts d bit =
      let waited = waits-slot (slot h number d) (both-right (bit_at among d == 1) (option_map_or is_waiting (slot h number d) false) (sym (step.bits d) ∙ bit)) in
      let failed : slot (followed_by h (Cancel number among mask)) number d ≡ Some (Failed Cancelled) =
      slot-same h (followed_by h (Cancel number among mask)) refl step.nothing.accepted number d
      ∙ (ap (λ s. cond (names d (deliveries h number)) (Some s) None) (own-state d true bit)
      ∙ ap (λ b. cond b (Some (Failed Cancelled)) None) (slot-state h number d (Waiting waited.0 waited.1) waited.2).0) in
      moves-off waited.0 waited.1 Cancelled (destination_counts h d) (destination_counts (followed_by h (Cancel number among mask)) d)
      (moved h (followed_by h (Cancel number among mask)) refl number d (Some (Waiting waited.0 waited.1)) (Some (Failed Cancelled)) (message_count-same h (followed_by h (Cancel number among mask)) refl step.nothing.accepted) step.exists
      (λ m apart. others-kept m d apart) waited.2 failed) (attempts-kept h (Cancel number among mask) d refl)

  -- elsewhere all is counted as before
  on-counts : (d : ℕ) → (bit_at mask d == 1) ≡ false → destination_counts (followed_by h (Cancel number among mask)) d ≡ destination_counts h d
  on-counts d bit =
      moves-nowhere (slot h number d) (destination_counts h d) (destination_counts (followed_by h (Cancel number among mask)) d)
      (moved h (followed_by h (Cancel number among mask)) refl number d (slot h number d) (slot h number d) (message_count-same h (followed_by h (Cancel number among mask)) refl step.nothing.accepted) step.exists
      (λ m apart. others-kept m d apart) refl
      (slot-same h (followed_by h (Cancel number among mask)) refl step.nothing.accepted number d ∙ ap (λ s. cond (names d (deliveries h number)) (Some s) None) (own-state d false bit))) (attempts-kept h (Cancel number among mask) d refl)

  -- a destination's counters after a cancellation
  pub cancelled-counts : (d : ℕ) → destination_counts (followed_by h (Cancel number among mask)) d ≡ cond (bit_at mask d == 1) (cancelled_one (destination_counts h d)) (destination_counts h d)
  cancelled-counts d =
      elim (eqb_tells (bit_at mask d) 1) [
        | inl w ↦ (off-counts d w.0).0 ∙ sym (ap (λ b. cond b (cancelled_one (destination_counts h d)) (destination_counts h d)) w.0)
        | inr w ↦ on-counts d w.0 ∙ sym (ap (λ b. cond b (cancelled_one (destination_counts h d)) (destination_counts h d)) w.0)
      ]

  -- the statistics after a cancellation
  pub counted-cancel : (tally new : Statistics) → AreCounted h tally → CountsCancel mask tally new → AreCounted (followed_by h (Cancel number among mask)) new
  counted-cancel tally new counts cancels = record {
    all_channels = ap length cancels.channels ∙ counts.all_channels;
    all_destinations = cancels.destinations ∙ counts.all_destinations;
    channel = λ c below. ap (λ cs. channel_at c (record tally { channels = cs })) cancels.channels ∙ (counts.channel c below ∙ sym (channels-kept h (Cancel number among mask) (λ c so. refl) c));
    destination = λ d below.
        cancels.each_destination d below
        ∙ (ap (λ k. cond (bit_at mask d == 1) (cancelled_one k) k) (counts.destination d below) ∙ sym (cancelled-counts d));
  }

  -- before a cancellation a slot waits at each destination of the mask
  pub cancel-waits : (tally : Statistics) → AreCounted h tally → (d : ℕ) → d < 32 → (bit_at mask d == 1) ≡ true → 0 < (destination_at d tally).waiting
  cancel-waits tally counts d below bit = let waiting = ap (λ k. k.waiting) (counts.destination d below) in let some = (off-counts d bit).1 in omega arith
