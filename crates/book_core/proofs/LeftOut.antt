-- What is counted and not remembered: a tally without what is remembered.
use Rattle.std.proofs.Common.{◌≡◌, ℕ, ◌<◌, ◌≤◌, Bool, [], ◌∷◌, length, None, refl, ◌∙◌, ap, arith}
use Rattle.dest_queue.specs.declared.SlotState.{SlotState}
use Rattle.dest_queue.specs.States.{is_waiting}
use Rattle.stat_count.specs.Statistics.{Statistics, destination_at, no_arrivals, no_slots}
use Rattle.event_log.specs.Counting.{channel_counts, destination_counts, is_delivered, is_failed, slot_count}
use Rattle.event_log.specs.Folding.{folded, forgotten, forgotten_at, prune_answer, pruned}
use Rattle.event_log.specs.History.{History, Remembered}
use Rattle.event_log.specs.inner.Legal.{IsSound}
use Rattle.event_log.specs.Room.{is_in_flight}
use Rattle.event_log.proofs.FoldedAlike.{destination-same, slots-split}
use Rattle.book_core.specs.inner.Counting.{AreCounted}
use Rattle.book_core.specs.inner.Pruning.{LeavesOut, remembered_count, unremembered}
use Rattle.book_core.proofs.Counted.{counts-equal, listed, tally-equal}

-- so far it is left out at the destinations below one
pub record SoFar (r : Remembered) (old : Statistics) (d : ℕ) (so_far : Statistics) : Type 0 where
  pub channels : so_far.channels ≡ old.channels
  pub all_destinations : length so_far.destinations ≡ length old.destinations
  pub below : (e : ℕ) → e < d → destination_at e so_far ≡ unremembered (r ∷ []) e (destination_at e old)
  pub above : (e : ℕ) → d ≤ e → destination_at e so_far ≡ destination_at e old

-- ---- what a pruning leaves

-- the tally of a history without what remains of it where messages are forgotten
pub forgotten-is : (h : History) (sound : IsSound h) (bound : ℕ) (may : prune_answer h bound ≡ None)
    → ((d : ℕ) (so : SlotState → Bool) → remembered_count (folded bound h).remembered d so ≡ slot_count (pruned bound h) d so)
    → (tally left : Statistics) → AreCounted h tally → LeavesOut (folded bound h).remembered tally left → left ≡ forgotten h bound
forgotten-is h sound bound may held tally left counts leaves =
    tally-equal left (forgotten h bound) (leaves.channels
    ∙ listed (channel_counts h) 64 tally.channels no_arrivals counts.all_channels counts.channel)
    (listed (forgotten_at h bound) 32 left.destinations no_slots (leaves.all_destinations ∙ counts.all_destinations) each)
  where
    each : (d : ℕ) → d < 32 → destination_at d left ≡ forgotten_at h bound d
    each d below =
        let same = destination-same h sound bound may d below in
        let waiting = ap (λ c. c.waiting) same in
        let inflight = ap (λ c. c.inflight) same in
        let delivered = slots-split h sound bound may d is_delivered in
        let failed = slots-split h sound bound may d is_failed in
        let waits = held d is_waiting in
        let flies = held d is_in_flight in
        let has = held d is_delivered in
        let fails = held d is_failed in
        leaves.destinations d below
        ∙ (ap (unremembered (folded bound h).remembered d) (counts.destination d below)
        ∙ counts-equal (unremembered (folded bound h).remembered d (destination_counts h d)) (forgotten_at h bound d) (omega arith) (omega arith)
        (omega arith) (omega arith) refl)
