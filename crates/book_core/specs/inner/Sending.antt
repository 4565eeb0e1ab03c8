-- What proofs use beside the page Sending.
use Rattle.std.specs.Prelude.{◌≡◌, ◌<◌, ◌==◌, ◌&&◌, ℕ, Bool, true, false, if◌then◌else◌, List, [], ◌∷◌, ◌++◌, All, Option}
use Rattle.std.specs.Int.{bit_at}
use Rattle.plan_text.specs.Entries.{PlanEntry}
use Rattle.judge_core.specs.declared.delivery.Delivery.{Delivery}
use Rattle.judge_core.specs.declared.judged.Verdict.{Verdict}
use Rattle.judge_core.specs.declared.judged.Verdict.TheVariants as verdict
use Rattle.judge_core.specs.Delivering.{destinations_of}
use Rattle.judge_core.specs.Judging.{deliveries_of}
use Rattle.row_store.specs.declared.Row.{Row}
use Rattle.dest_queue.specs.declared.SlotState.{SlotState}
use Rattle.dest_queue.specs.declared.SlotState.TheVariants.{Waiting}
use Rattle.dest_queue.specs.declared.slots.Queued.{Queued}
use Rattle.dest_queue.specs.States.{is_waiting}
use Rattle.dest_queue.specs.inner.SlotsBy.{slots_by}
use Rattle.event_log.specs.History.{names}
use Rattle.event_log.specs.Answers.{attempts_max}
use Rattle.event_log.specs.Room.{message_total, slot_owed}
use Rattle.event_log.specs.declared.entry.Told.{Told}
use Rattle.event_log.specs.declared.entry.Told.TheVariants as told
use Rattle.book_core.specs.declared.letter.Outbound.{Outbound}
use Rattle.book_core.specs.declared.arrival.Addition.{Addition}
use Rattle.book_core.specs.declared.arrival.Addition.TheVariants as gain

-- whether a verdict fits the answer to its sender: an accepted message goes somewhere
abbrev pub IsAccepting : Told → Verdict → Type 0
IsAccepting (told.Accepted number) v = (deliveries : List Delivery) × (v ≡ verdict.Accept deliveries)
IsAccepting told.Filtered v = Unit {0}
IsAccepting (told.Refused cause) v = Unit {0}
IsAccepting (told.Repeat place) v = Unit {0}

-- a row was added for a message of this number, which was received so and waits wherever it goes
pub record AddsRow (number channel : ℕ) (raw control_id : List ℕ) (deliveries : List Delivery)
    (old new : List (Row (Queued Outbound))) : Type 0 where
  pub place : ℕ
  pub mask : ℕ
  pub stands : (d : ℕ) → d < 32 → (bit_at mask d == 1) ≡ names d deliveries
  pub added : new ≡ old ++ record {
    number = number;
    item = record {
      content = record { place = place; channel = channel; raw = raw; control_id = control_id; deliveries = deliveries };
      slots = slots_by (λ _. Waiting 0 0) (destinations_of deliveries);
    };
    mask = mask;
  } ∷ []

-- what is added by an arrival with this answer, of a message with this control id and this verdict
abbrev pub IsAddition : Told → List ℕ → Verdict → Addition → Type 0
IsAddition (told.Accepted number) control_id v (gain.Message own_number header deliveries) =
    (own_number ≡ number) × (header.now.control_id ≡ control_id) × (deliveries.now ≡ deliveries_of v)
IsAddition told.Filtered control_id v gain.Key = Unit {0}
IsAddition (told.Refused cause) control_id v gain.Nothing = Unit {0}
IsAddition (told.Repeat place) control_id v gain.Nothing = Unit {0}
IsAddition told control_id v gain = ⊥

-- where a message goes that is added
abbrev pub goes_to : Addition → List Delivery
goes_to (gain.Message number header deliveries) = deliveries.now
goes_to gain.Key = []
goes_to gain.Nothing = []

-- whether a key is added
abbrev pub has_key : Addition → Bool
has_key (gain.Message number header deliveries) = true
has_key gain.Key = true
has_key gain.Nothing = false

-- the rows gained that of an arrival on a channel with these bytes
abbrev pub AddsGain : ℕ → List ℕ → Addition → List (Row (Queued Outbound)) → List (Row (Queued Outbound)) → Type 0
AddsGain channel raw (gain.Message number header deliveries) old new = AddsRow number channel raw header.now.control_id deliveries.now old new
AddsGain channel raw gain.Key old new = new ≡ old
AddsGain channel raw gain.Nothing old new = new ≡ old

-- the rows have room for the number that is added
abbrev pub HasRoomFor : Addition → List (Row (Queued Outbound)) → Type 0
HasRoomFor (gain.Message number header deliveries) rows = All (λ row. row.number < number) rows
HasRoomFor gain.Key rows = Unit {0}
HasRoomFor gain.Nothing rows = Unit {0}

-- what slots owe where they wait at a destination of the mask
abbrev pub owed_waiting : PlanEntry → ℕ → (ℕ → Option SlotState) → ℕ
owed_waiting plan among slots = message_total (λ d state. if (bit_at among d == 1) && is_waiting state then slot_owed (attempts_max plan d) state else 0) slots
