-- What a call of the book leaves of a recorded arrival.
use Rattle.std.proofs.Common.{◌≡◌, ◌≢◌, ℕ, List, Ok, Err, Result, refl, sym, ap, subst, ◌∙◌}
use Rattle.event_log.specs.declared.entry.Told.{Told}
use Rattle.event_log.specs.History.{History}
use Rattle.event_log.specs.Event.{ArriveRefusal, Does, arrive, full, no_memory, plan_changed}
use Rattle.event_records.specs.declared.record.Record.TheVariants.{Arrival}
use Rattle.book_core.specs.declared.receipt.NotBooked.{NotBooked}
use Rattle.book_core.specs.declared.receipt.NotBooked.TheVariants as not_booked
use Rattle.book_core.specs.Refusing.{arrive_refusal}
use Rattle.book_replay.specs.declared.fault.ReplayFault.{ReplayFault}
use Rattle.book_replay.specs.declared.fault.ReplayFault.TheVariants.{Differs}
use Rattle.book_replay.specs.inner.Faults.{arrival_fault}
use Rattle.book_replay.specs.Replay.{IsBooked, StopsAt}
use Rattle.book_replay.proofs.Steps.{refused_by, replied_next}

pub arrival_booked : (conn channel : ℕ) (raw : List ℕ) (old new : History) (reply told : Told) → Does (arrive conn channel raw) old new (Ok reply) → reply ≡ told
    → IsBooked old new (Arrival conn channel raw told)
arrival_booked conn channel raw old new reply told does same =
    record { history = replied_next (arrive conn channel raw) old new reply does; replayed = does.replied ∙ ap (λ (t : Told). Ok t) same }

pub arrival_differs : (conn channel : ℕ) (raw : List ℕ) (old new : History) (reply told : Told) → Does (arrive conn channel raw) old new (Ok reply) → reply ≢ told
    → StopsAt Differs old new (Arrival conn channel raw told)
arrival_differs conn channel raw old new reply told does other =
    record { reason = (reply, does.replied, other); left = replied_next (arrive conn channel raw) old new reply does }

pub arrival_refused : (conn channel : ℕ) (raw : List ℕ) (old new : History) (told : Told) (refusal : NotBooked)
    → Does (arrive conn channel raw) old new (Err (arrive_refusal refusal)) → refusal ≢ not_booked.PlanChanged
    → StopsAt (arrival_fault refusal) old new (Arrival conn channel raw told)
arrival_refused conn channel raw old new told not_booked.NoMemory does same_plan = record { reason = tt; left = does.unchanged }
arrival_refused conn channel raw old new told not_booked.Full does same_plan =
    record { reason = refused_by (arrive conn channel raw) old new full does (λ e. absurd cc) (λ e. absurd cc); left = does.unchanged }
arrival_refused conn channel raw old new told not_booked.PlanChanged does same_plan = absurd (same_plan refl)
