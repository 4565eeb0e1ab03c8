-- A book is kept by each event.
use Rattle.std.proofs.Common.{◌≡◌, ℕ, ◌+◌, ◌-◌, ◌<◌, ◌≤◌, List, [], ◌∷◌, Ok, refl, sym, ◌∙◌, ap, arith, length, length-append}
use Rattle.plan_text.specs.Entries.{PlanEntry, IsPlan}
use Rattle.row_store.specs.declared.Row.{Row}
use Rattle.row_store.specs.inner.Rows.{changed_at}
use Rattle.dest_queue.specs.declared.SlotState.{SlotState}
use Rattle.dest_queue.specs.declared.SlotState.TheVariants.{InFlight}
use Rattle.dest_queue.specs.declared.Outcome.{Outcome}
use Rattle.dest_queue.specs.declared.slots.Queued.{Queued}
use Rattle.dest_queue.specs.Queues.{slot_of}
use Rattle.dest_queue.specs.inner.Queues.{settle}
use Rattle.dest_queue.specs.States.{is_live, slot_answer}
use Rattle.dup_index.specs.inner.Known.{Known}
use Rattle.stat_count.specs.Statistics.{Statistics, destination_at}
use Rattle.stat_count.specs.inner.Statistics.{empty, on_destination}
use Rattle.event_log.specs.declared.entry.Ticket.{Ticket}
use Rattle.event_log.specs.declared.entry.Entry.TheVariants.{Settle}
use Rattle.event_log.specs.History.{History, followed_by, plan_in_force}
use Rattle.event_log.specs.inner.History.{snapshot_after}
use Rattle.event_log.specs.Answers.{attempts_max, interval, settle_answer}
use Rattle.event_log.specs.Room.{owed, slot_owed}
use Rattle.event_log.proofs.Beginning.{opened-sound}
use Rattle.event_log.proofs.Reading.{opened-in_flight, slot-state}
use Rattle.event_log.proofs.Settling.{settle-step}
use Rattle.event_log.proofs.Steps.{SettleStep}
use Rattle.event_log.proofs.Totals.{in_flight-owed}
use Rattle.book_core.specs.declared.letter.Outbound.{Outbound}
use Rattle.book_core.specs.inner.Counting.{settled_one}
use Rattle.book_core.specs.inner.Parts.{IsKept}
use Rattle.book_core.proofs.Counted.{counted-opened}
use Rattle.book_core.proofs.CountedSteps.{counted-settle, settle-flies, settle-inside}
use Rattle.book_core.proofs.RowSteps.{rows-settled}
use Rattle.book_core.proofs.Rows.{kept-slot}

-- a new book
pub kept-opened : (plan : PlanEntry) (events_max room : ℕ) → IsPlan plan → events_max ≤ 1000000 → IsKept (snapshot_after plan events_max) [] [] empty 0 room
kept-opened plan events_max room good few = record {
  sound = opened-sound plan events_max good;
  rows_agree = record { each_once = refl; as_told = tt };
  keys_agree = λ key. refl;
  are_counted = counted-opened plan events_max;
  flights_are = sym (opened-in_flight plan events_max);
  reserved = omega (arith, opened-in_flight plan events_max);
  bound = few;
}

-- a book whose room grew
pub kept-more : (h : History) (rows : List (Row (Queued Outbound))) (index : List Known) (tally : Statistics) (flights room more : ℕ) → IsKept h rows index tally flights room → room ≤ more → IsKept h rows index tally flights more
kept-more h rows index tally flights room more kept grows = record {
  sound = kept.sound;
  rows_agree = kept.rows_agree;
  keys_agree = kept.keys_agree;
  are_counted = kept.are_counted;
  flights_are = kept.flights_are;
  reserved = omega (arith, kept.reserved);
  bound = kept.bound;
}

module _ (h : History) (rows : List (Row (Queued Outbound))) (index : List Known) (tally : Statistics) (flights room : ℕ) (kept : IsKept h rows index tally flights room) where
  -- attempts under way are few
  pub few-flights : flights ≤ 1000000
  few-flights = omega (arith, kept.flights_are, in_flight-owed h, kept.sound.room, kept.bound)

  -- the slot call answers as the history does
  pub asked-settle : (ticket : Ticket) (outcome : Outcome) (now : ℕ)
      → slot_answer (slot_of ticket.number ticket.destination rows) outcome ticket.attempt now (attempts_max (plan_in_force h) ticket.destination) (interval (plan_in_force h) ticket.destination) ≡ settle_answer h ticket outcome now
  asked-settle ticket outcome now = ap (λ s. slot_answer s outcome ticket.attempt now (attempts_max (plan_in_force h) ticket.destination) (interval (plan_in_force h) ticket.destination)) (kept-slot h rows kept.rows_agree ticket.number ticket.destination)

  module _ (ticket : Ticket) (outcome : Outcome) (now : ℕ) (after : SlotState) (asked : settle_answer h ticket outcome now ≡ Ok after) where
    settled : SettleStep h ticket outcome now after
    settled = settle-step h kept.sound ticket outcome now after asked

    pub settled-inside : ticket.destination < 32
    settled-inside = settle-inside h ticket outcome now after settled

    pub settled-flies : 0 < (destination_at ticket.destination tally).inflight
    settled-flies = settle-flies h ticket outcome now after tally settled kept.are_counted

    pub settled-flights : 1 ≤ flights
    settled-flights = omega (arith, settled.in_flight, kept.flights_are)

    pub settled-reserved : 0 < room
    settled-reserved = omega (arith, settled.in_flight, kept.reserved)

    pub settled-less : slot_owed (attempts_max (plan_in_force h) ticket.destination) (InFlight ticket.attempt) ≤ owed h + slot_owed (attempts_max (plan_in_force h) ticket.destination) after
    settled-less = omega (arith, settled.owed)

    pub settled-owed : owed h + slot_owed (attempts_max (plan_in_force h) ticket.destination) after - slot_owed (attempts_max (plan_in_force h) ticket.destination) (InFlight ticket.attempt) ≡ owed (followed_by h (Settle outcome ticket now after))
    settled-owed = omega (arith, settled.owed)

    pub settled-within : length h.entries + 1 + owed (followed_by h (Settle outcome ticket now after)) ≤ h.opening.events_max
    settled-within = omega (arith, settled.sound.room, length-append h.entries (Settle outcome ticket now after ∷ []))

    pub kept-settled : (room' : ℕ) → room ≤ room' + 1
        → IsKept (followed_by h (Settle outcome ticket now after)) (changed_at ticket.number (settle ticket.destination after) rows) index (on_destination ticket.destination (settled_one after) tally) (flights - 1) room'
    kept-settled room' left = let named = slot-state h ticket.number ticket.destination (InFlight ticket.attempt) settled.flew in record {
      sound = settled.sound;
      rows_agree = rows-settled h _ refl ticket.number ticket.destination after settled.nothing.accepted settled.state named.0 (ap is_live named.1) rows kept.rows_agree;
      keys_agree = λ key. kept.keys_agree key ∙ sym (settled.nothing.known key);
      are_counted = counted-settle h ticket outcome now after tally settled kept.are_counted;
      flights_are = omega (arith, settled.in_flight, kept.flights_are);
      reserved = omega (arith, settled.in_flight, kept.reserved);
      bound = kept.bound;
    }
