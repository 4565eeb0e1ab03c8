-- How a destination's counters change as the slot of one message there does.
use Rattle.std.proofs.Common.{◌≡◌, ◌≢◌, ℕ, ◌+◌, ◌<◌, Bool, false, Option, None, Some, ap, arith}
use Rattle.dest_queue.specs.declared.FailCause.{FailCause}
use Rattle.dest_queue.specs.declared.SlotState.{SlotState}
use Rattle.dest_queue.specs.declared.SlotState.TheVariants.{Waiting, InFlight, Delivered, Failed}
use Rattle.dest_queue.specs.States.{is_waiting}
use Rattle.stat_count.specs.declared.DestinationCounts.{DestinationCounts}
use Rattle.stat_count.specs.Statistics.{destination_at}
use Rattle.stat_count.specs.inner.Statistics.{cancelled_one, taken_one, waits_one}
use Rattle.event_log.specs.History.{History, message_count, slot}
use Rattle.event_log.specs.Room.{is_in_flight}
use Rattle.event_log.specs.Counting.{destination_before, destination_counts, is_delivered, is_failed, slot_count}
use Rattle.book_core.specs.inner.Counting.{settled_one}
use Rattle.book_core.proofs.Counted.{counts-equal}
use Rattle.book_core.proofs.Slots.{one, slot_count-changed, slot_count-grown, slot_count-same}

-- the counters, one slot at the destination counted as it is and no longer as it was
pub record Moves (was is : Option SlotState) (old new : DestinationCounts) : Type 0 where
  pub waiting : new.waiting + one is_waiting was ≡ old.waiting + one is_waiting is
  pub inflight : new.inflight + one is_in_flight was ≡ old.inflight + one is_in_flight is
  pub delivered : new.delivered + one is_delivered was ≡ old.delivered + one is_delivered is
  pub failed : new.failed + one is_failed was ≡ old.failed + one is_failed is

-- a slot that stays as it was
pub moves-nowhere : (o : Option SlotState) (old new : DestinationCounts) → Moves o o old new → new.attempts ≡ old.attempts → new ≡ old
moves-nowhere o old new moves attempts = counts-equal new old (omega arith) (omega arith) (omega arith) (omega arith) attempts

-- a new slot, which waits
pub moves-in : (attempts due : ℕ) (old new : DestinationCounts) → Moves None (Some (Waiting attempts due)) old new → new.attempts ≡ old.attempts → new ≡ waits_one old
moves-in attempts due old new moves same = counts-equal new (waits_one old) (omega arith) (omega arith) (omega arith) (omega arith) same

-- a slot that waits is taken
pub moves-out : (attempts due attempt : ℕ) (old new : DestinationCounts) → Moves (Some (Waiting attempts due)) (Some (InFlight attempt)) old new → new.attempts ≡ old.attempts + 1
    → (new ≡ taken_one old) × (0 < old.waiting)
moves-out attempts due attempt old new moves more = (counts-equal new (taken_one old) (omega arith) (omega arith) (omega arith) (omega arith) more, omega arith)

-- a slot in flight is settled
pub moves-back : (attempt : ℕ) (after : SlotState) (old new : DestinationCounts) → is_in_flight after ≡ false → Moves (Some (InFlight attempt)) (Some after) old new → new.attempts ≡ old.attempts
    → (new ≡ settled_one after old) × (0 < old.inflight)
moves-back attempt (Waiting attempts due) old new landed moves same = (counts-equal new (settled_one (Waiting attempts due) old) (omega arith) (omega arith) (omega arith) (omega arith) same, omega arith)
moves-back attempt (InFlight again) old new landed moves same = absurd cc
moves-back attempt Delivered old new landed moves same = (counts-equal new (settled_one Delivered old) (omega arith) (omega arith) (omega arith) (omega arith) same, omega arith)
moves-back attempt (Failed cause) old new landed moves same = (counts-equal new (settled_one (Failed cause) old) (omega arith) (omega arith) (omega arith) (omega arith) same, omega arith)

-- a slot that waits is cancelled
pub moves-off : (attempts due : ℕ) (cause : FailCause) (old new : DestinationCounts) → Moves (Some (Waiting attempts due)) (Some (Failed cause)) old new → new.attempts ≡ old.attempts
    → (new ≡ cancelled_one old) × (0 < old.waiting)
moves-off attempts due cause old new moves same = (counts-equal new (cancelled_one old) (omega arith) (omega arith) (omega arith) (omega arith) same, omega arith)

-- what was counted at the opening stays
delivered-before : (h h' : History) → h'.opening ≡ h.opening → (d : ℕ) → (destination_before h' d).delivered ≡ (destination_before h d).delivered
delivered-before h h' opening d = ap (λ o. (destination_at d o.forgotten).delivered) opening

failed-before : (h h' : History) → h'.opening ≡ h.opening → (d : ℕ) → (destination_before h' d).failed ≡ (destination_before h d).failed
failed-before h h' opening d = ap (λ o. (destination_at d o.forgotten).failed) opening

-- and so adds the same on both sides
further : (before before' new old was is : ℕ) → before' ≡ before → new + was ≡ old + is → before' + new + was ≡ before + old + is
further before before' new old was is same moves = omega arith

-- one message's slot changed
pub moved : (h h' : History) → h'.opening ≡ h.opening → (n d : ℕ) (was is : Option SlotState) → message_count h' ≡ message_count h → n < message_count h → ((m : ℕ) → m ≢ n → slot h' m d ≡ slot h m d) → slot h n d ≡ was → slot h' n d ≡ is
    → Moves was is (destination_counts h d) (destination_counts h' d)
moved h h' opening n d was is same exists others before after = record {
  waiting = by is_waiting;
  inflight = by is_in_flight;
  delivered = further _ _ _ _ _ _ (delivered-before h h' opening d) (by is_delivered);
  failed = further _ _ _ _ _ _ (failed-before h h' opening d) (by is_failed);
}
  where
    by : (so : SlotState → Bool) → slot_count h' d so + one so was ≡ slot_count h d so + one so is
    by so = let changed = slot_count-changed h h' n d so same exists others in let b = ap (one so) before in let a = ap (one so) after in omega arith

-- one message came
pub moved-in : (h h' : History) → h'.opening ≡ h.opening → (d : ℕ) (is : Option SlotState) → message_count h' ≡ message_count h + 1 → ((m : ℕ) → m < message_count h → slot h' m d ≡ slot h m d) → slot h' (message_count h) d ≡ is
    → Moves None is (destination_counts h d) (destination_counts h' d)
moved-in h h' opening d is more older after = record {
  waiting = by is_waiting;
  inflight = by is_in_flight;
  delivered = further _ _ _ _ _ _ (delivered-before h h' opening d) (by is_delivered);
  failed = further _ _ _ _ _ _ (failed-before h h' opening d) (by is_failed);
}
  where
    by : (so : SlotState → Bool) → slot_count h' d so + 0 ≡ slot_count h d so + one so is
    by so = let grown = slot_count-grown h h' d so more older in let a = ap (one so) after in omega arith

-- no message's slot changed
pub moved-nowhere : (h h' : History) → h'.opening ≡ h.opening → (d : ℕ) → message_count h' ≡ message_count h → ((m : ℕ) → m < message_count h → slot h' m d ≡ slot h m d)
    → Moves None None (destination_counts h d) (destination_counts h' d)
moved-nowhere h h' opening d same older = record {
  waiting = by is_waiting;
  inflight = by is_in_flight;
  delivered = further _ _ _ _ _ _ (delivered-before h h' opening d) (by is_delivered);
  failed = further _ _ _ _ _ _ (failed-before h h' opening d) (by is_failed);
}
  where
    by : (so : SlotState → Bool) → slot_count h' d so + 0 ≡ slot_count h d so + 0
    by so = let kept = slot_count-same h h' d so same older in omega arith
