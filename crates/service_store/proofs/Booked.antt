-- What the records of a start leave of a history.
use Rattle.std.proofs.Common.{◌≡◌, ◌≢◌, ◌≤◌, arith, ℕ, List, [], ◌∷◌, ◌++◌, map, Option, None, Some, Result, Ok, Err, refl, sym, ap, subst, ◌∙◌}
use Rattle.std.specs.Prelude.{◌↔◌}
use Rattle.std.specs.List.{filter_map}
use Rattle.std.proofs.lemmas.List.{append-nil}
use Rattle.std.proofs.lemmas.List.Elements.{filter_map-append}
use Rattle.plan_text.specs.Entries.{PlanEntry}
use Rattle.plan_text.specs.Document.{plan_in}
use Rattle.plan_text.specs.declared.fault.PlanFault.{PlanFault}
use Rattle.dest_queue.specs.declared.Outcome.TheVariants.{Again}
use Rattle.dest_queue.specs.declared.SlotState.{SlotState}
use Rattle.dest_queue.specs.declared.SettleRefusal.{SettleRefusal}
use Rattle.event_log.specs.declared.entry.Entry.TheVariants as entry
use Rattle.event_log.specs.declared.entry.Ticket.{Ticket}
use Rattle.event_log.specs.declared.refusal.DeployRefusal.{DeployRefusal}
use Rattle.event_log.specs.History.{History, deployed_by, last_from, plan_in_force}
use Rattle.event_log.specs.Event.{Event, Refusal, Reply, after, answer, arrive, cancel, deploy, next, settle, take}
use Rattle.event_records.specs.declared.record.Record.{Record}
use Rattle.event_records.specs.declared.record.Record.TheVariants.{Arrival, Take, Settle, Cancel, Deploy, Prune}
use Rattle.book_replay.specs.Replay.{after_reading, after_record, after_records}
use Rattle.book_replay.specs.inner.Flights.{flights, settled_again}
use Rattle.service_store.specs.declared.start.OnFlights.{OnFlights}
use Rattle.service_store.specs.declared.start.OnFlights.TheVariants.{Leave, Settle as SettleAll}
use Rattle.service_store.specs.inner.Starting.{IsCaughtUp, IsPlanned, settlements}

-- ---- settlements leave the plan

after_settled : (h : History) (ticket : Ticket) (now : ℕ) (reply : Result SlotState SettleRefusal)
    → plan_in_force (after h (settle ticket Again now) reply) ≡ plan_in_force h
after_settled h ticket now (Ok state) =
    ap (last_from h.opening.plan)
    (filter_map-append deployed_by h.entries (entry.Settle Again ticket now state ∷ []) ∙ append-nil (filter_map deployed_by h.entries))
after_settled h ticket now (Err refusal) = refl

pub plan_settled : (h : History) (now : ℕ) (tickets : List Ticket) → plan_in_force (after_records h (map (settled_again now) tickets)) ≡ plan_in_force h
plan_settled h now [] = refl
plan_settled h now (ticket ∷ tickets) =
    plan_settled (after_record h (settled_again now ticket)) now tickets ∙ after_settled h ticket now (answer h (settle ticket Again now))

planned_kept : (plan : PlanEntry) (old planned : History) (kept : Option DeployRefusal) → IsPlanned plan old planned kept
    → (kept ≡ None) ↔ (plan_in_force planned ≡ plan)
planned_kept plan old planned None is = (λ _. is.0, λ _. refl)
planned_kept plan old planned (Some refusal) is =
    (λ (e : Some refusal ≡ None). absurd cc, λ (e : plan_in_force planned ≡ plan). absurd (is.1 (sym (ap plan_in_force is.0) ∙ e)))

plan_stays : (how : OnFlights) (h : History) (now : ℕ) → plan_in_force (after_records h (settlements how now h)) ≡ plan_in_force h
plan_stays Leave h now = refl
plan_stays SettleAll h now = plan_settled h now (flights h)

pub plan_where : (how : OnFlights) (plan : PlanEntry) (asked : ℕ) (old new : History) (kept : Option DeployRefusal) (interrupted : ℕ) (failed : List Ticket)
    → IsCaughtUp how plan asked old new kept interrupted failed → (kept ≡ None) ↔ (plan_in_force new ≡ plan)
plan_where how plan asked old new kept interrupted failed is =
    let same : plan_in_force new ≡ plan_in_force is.planned = ap plan_in_force is.settled ∙ plan_stays how is.planned is.now in
    subst (λ (x : PlanEntry). (kept ≡ None) ↔ (x ≡ plan)) (sym same) (planned_kept plan old is.planned kept is.deployed)

-- ---- records leave the bound

after_opening : (h : History) (e : Event) (reply : Result (Reply e) (Refusal e)) → (after h e reply).opening ≡ h.opening
after_opening h e (Ok reply) = refl
after_opening h e (Err refusal) = refl

abbrev pub bound : History → ℕ
bound h = h.opening.events_max

next_bound : (h : History) (e : Event) → bound (next h e) ≡ bound h
next_bound h e = ap (λ o. o.events_max) (after_opening h e (answer h e))

document_bound : (h : History) (read : Result PlanEntry PlanFault) → bound (after_reading h read) ≡ bound h
document_bound h (Ok plan) = next_bound h (deploy plan)
document_bound h (Err fault) = refl

record_bound : (h : History) (r : Record) → bound (after_record h r) ≡ bound h
record_bound h (Arrival conn channel raw told) = next_bound h (arrive conn channel raw)
record_bound h (Take destination now) = next_bound h (take destination now)
record_bound h (Settle ticket outcome now) = next_bound h (settle ticket outcome now)
record_bound h (Cancel number among) = next_bound h (cancel number among)
record_bound h (Deploy document) = document_bound h (plan_in document)
record_bound h (Prune before) = refl

pub records_bound : (h : History) (rs : List Record) → bound (after_records h rs) ≡ bound h
records_bound h [] = refl
records_bound h (r ∷ rs) = records_bound (after_record h r) rs ∙ record_bound h r

-- ---- what a start is caught up with

pub caught_up_since : (how : OnFlights) (plan : PlanEntry) (asked at : ℕ) (h old new : History) (kept : Option DeployRefusal) (interrupted : ℕ) (failed : List Ticket) → asked ≤ at → h ≡ old
    → IsCaughtUp how plan at old new kept interrupted failed → IsCaughtUp how plan asked h new kept interrupted failed
caught_up_since how plan asked at h old new kept interrupted failed le same is =
    subst (λ (x : History). IsCaughtUp how plan asked x new kept interrupted failed) (sym same) (record {
      planned = is.planned;
      deployed = is.deployed;
      now = is.now;
      not_before = omega (arith, le, is.not_before);
      settled = is.settled;
      booked = is.booked;
      history = is.history;
      count = is.count;
      named = is.named;
    })
