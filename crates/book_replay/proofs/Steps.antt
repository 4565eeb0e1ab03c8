-- What a call of the book leaves of a record.
use Rattle.std.proofs.Common.{◌≡◌, ◌≢◌, ◌⊎◌, inl, inr, ℕ, List, Option, None, Some, Result, Ok, Err, refl, sym, ap, subst, ◌∙◌}
use Rattle.std.specs.Prelude.{IsOk, IsErr, IsUtf8}
use Rattle.plan_text.specs.Entries.{PlanEntry}
use Rattle.plan_text.specs.Document.{plan_in}
use Rattle.plan_text.specs.declared.fault.PlanFault.{PlanFault}
use Rattle.dest_queue.specs.declared.Outcome.{Outcome}
use Rattle.dest_queue.specs.declared.Outcome.TheVariants.{Again}
use Rattle.dest_queue.specs.declared.SlotState.{SlotState}
use Rattle.dest_queue.specs.declared.SettleRefusal.{SettleRefusal}
use Rattle.event_log.specs.declared.entry.Ticket.{Ticket}
use Rattle.event_log.specs.declared.refusal.CancelRefusal.{CancelRefusal}
use Rattle.event_log.specs.declared.refusal.CancelRefusal.TheVariants as cancel_refusal
use Rattle.event_log.specs.declared.refusal.DeployRefusal.{DeployRefusal}
use Rattle.event_log.specs.declared.refusal.DeployRefusal.TheVariants as deploy_refusal
use Rattle.event_log.specs.declared.refusal.PruneRefusal.{PruneRefusal}
use Rattle.event_log.specs.declared.refusal.PruneRefusal.TheVariants as prune_refusal
use Rattle.event_log.specs.declared.refusal.TakeRefusal.{TakeRefusal}
use Rattle.event_log.specs.declared.refusal.TakeRefusal.TheVariants as take_refusal
use Rattle.event_log.specs.History.{History}
use Rattle.event_log.specs.Event.{Does, Event, IsOutOfMemory, IsOutdated, Refusal, Reply, after, answer, cancel, deploy, next, settle, take}
use Rattle.event_log.specs.Folding.{prune_answer, pruned}
use Rattle.event_log.proofs.Events.{next-same}
use Rattle.event_records.specs.declared.record.Record.TheVariants.{Cancel, Deploy, Prune, Settle, Take}
use Rattle.book_replay.specs.declared.fault.ReplayFault.{ReplayFault}
use Rattle.book_replay.specs.declared.fault.ReplayFault.TheVariants.{NoMemory, Invalid, Refused}
use Rattle.book_replay.specs.inner.Faults.{cancel_fault, deploy_fault, prune_fault, take_fault}
use Rattle.book_replay.specs.inner.Flights.{settled_again}
use Rattle.book_replay.specs.Replay.{IsReplayed, IsBooked, IsDeployed, IsNotDeployed, StopsAt, after_reading, after_record}

-- ---- any event

pub replied_next : (e : Event) (old new : History) (reply : Reply e) → Does e old new (Ok reply) → new ≡ next old e
replied_next e old new reply d = d.booked ∙ ap (after old e) (sym d.replied)

is_ok_of : {A B : Type 0} (x : Result A B) (y : A) → x ≡ Ok y → IsOk x
is_ok_of x y e = subst IsOk (sym e) refl

pub is_err_of : {A B : Type 0} (x : Result A B) (y : B) → x ≡ Err y → IsErr x
is_err_of x y e = subst IsErr (sym e) refl

pub replied_ok : (e : Event) (old new : History) (reply : Reply e) → Does e old new (Ok reply) → IsOk (answer old e)
replied_ok e old new reply d = is_ok_of (answer old e) reply d.replied

-- a refusal that isn't for memory, nor for another plan, is the sequential engine's
pub refused_by : (e : Event) (old new : History) (refusal : Refusal e) → Does e old new (Err refusal) → (IsOutOfMemory e refusal → ⊥) → (IsOutdated e refusal → ⊥)
    → IsErr (answer old e)
refused_by e old new refusal d memory outdated =
    elim d.refused [
      | inl is ↦ is_err_of (answer old e) refusal is
      | inr (inl m) ↦ absurd (memory m)
      | inr (inr o) ↦ absurd (outdated o)
    ]

-- ---- a take

pub take_booked : (d now : ℕ) (old new : History) (ticket : Ticket) → Does (take d now) old new (Ok ticket) → IsBooked old new (Take d now)
take_booked d now old new ticket does =
    record { history = replied_next (take d now) old new ticket does; replayed = replied_ok (take d now) old new ticket does }

pub take_stops : (d now : ℕ) (old new : History) (refusal : TakeRefusal) → Does (take d now) old new (Err refusal) → StopsAt (take_fault refusal) old new (Take d now)
take_stops d now old new take_refusal.NoMemory does = record { reason = tt; left = does.unchanged }
take_stops d now old new take_refusal.Idle does =
    record { reason = refused_by (take d now) old new take_refusal.Idle does (λ e. absurd cc) (λ e. e); left = does.unchanged }
take_stops d now old new (take_refusal.InFlightNow n) does =
    record { reason = refused_by (take d now) old new (take_refusal.InFlightNow n) does (λ e. absurd cc) (λ e. e); left = does.unchanged }
take_stops d now old new (take_refusal.NotDue due) does =
    record { reason = refused_by (take d now) old new (take_refusal.NotDue due) does (λ e. absurd cc) (λ e. e); left = does.unchanged }

-- ---- a settlement

pub settle_booked : (ticket : Ticket) (outcome : Outcome) (now : ℕ) (old new : History) (state : SlotState) → Does (settle ticket outcome now) old new (Ok state)
    → IsBooked old new (Settle ticket outcome now)
settle_booked ticket outcome now old new state does =
    record { history = replied_next (settle ticket outcome now) old new state does; replayed = replied_ok (settle ticket outcome now) old new state does }

pub settle_stops : (ticket : Ticket) (outcome : Outcome) (now : ℕ) (old new : History) (refusal : SettleRefusal)
    → Does (settle ticket outcome now) old new (Err refusal) → StopsAt Refused old new (Settle ticket outcome now)
settle_stops ticket outcome now old new refusal does =
    record { reason = refused_by (settle ticket outcome now) old new refusal does (λ e. e) (λ e. e); left = does.unchanged }

-- a settlement leaves the history after it, also where it is refused
pub settled_ok : (ticket : Ticket) (now : ℕ) (old new : History) (result : Result SlotState SettleRefusal) → Does (settle ticket Again now) old new result
    → new ≡ after_record old (settled_again now ticket)
settled_ok ticket now old new (Ok state) does = replied_next (settle ticket Again now) old new state does
settled_ok ticket now old new (Err refusal) does =
    elim does.refused [
      | inl is ↦ does.unchanged ∙ sym (next-same old (settle ticket Again now) refusal is)
      | inr (inl m) ↦ absurd m
      | inr (inr o) ↦ absurd o
    ]

-- ---- a cancellation

pub cancel_booked : (number among : ℕ) (old new : History) (mask : ℕ) → Does (cancel number among) old new (Ok mask)
    → IsBooked old new (Cancel number among)
cancel_booked number among old new mask does =
    record { history = replied_next (cancel number among) old new mask does; replayed = replied_ok (cancel number among) old new mask does }

pub cancel_stops : (number among : ℕ) (old new : History) (refusal : CancelRefusal) → Does (cancel number among) old new (Err refusal)
    → StopsAt (cancel_fault refusal) old new (Cancel number among)
cancel_stops number among old new cancel_refusal.NoMemory does = record { reason = tt; left = does.unchanged }
cancel_stops number among old new cancel_refusal.NoSuchMessage does =
    record { reason = refused_by (cancel number among) old new cancel_refusal.NoSuchMessage does (λ e. absurd cc) (λ e. e); left = does.unchanged }
cancel_stops number among old new cancel_refusal.NothingWaiting does =
    record { reason = refused_by (cancel number among) old new cancel_refusal.NothingWaiting does (λ e. absurd cc) (λ e. e); left = does.unchanged }

-- ---- a deployment

pub deploy_booked : (document : List ℕ) (plan : PlanEntry) (old new : History) → plan_in document ≡ Ok plan → Does (deploy plan) old new (Ok tt)
    → IsBooked old new (Deploy document)
deploy_booked document plan old new read does = record {
  history = replied_next (deploy plan) old new tt does ∙ sym (ap (after_reading old) read);
  replayed = subst (IsDeployed old) (sym read) (replied_ok (deploy plan) old new tt does);
}

deploy_refused : (document : List ℕ) (plan : PlanEntry) (old new : History) (refusal : DeployRefusal) → plan_in document ≡ Ok plan → Does (deploy plan) old new (Err refusal)
    → (refusal ≡ deploy_refusal.NoMemory → ⊥) → StopsAt Refused old new (Deploy document)
deploy_refused document plan old new refusal read does memory = record {
  reason = subst (IsNotDeployed old) (sym read) (refused_by (deploy plan) old new refusal does memory (λ e. e));
  left = does.unchanged;
}

pub deploy_stops : (document : List ℕ) (plan : PlanEntry) (old new : History) (refusal : DeployRefusal) → plan_in document ≡ Ok plan → Does (deploy plan) old new (Err refusal)
    → StopsAt (deploy_fault refusal) old new (Deploy document)
deploy_stops document plan old new deploy_refusal.NoMemory read does = record { reason = tt; left = does.unchanged }
deploy_stops document plan old new deploy_refusal.ChannelsDiffer read does =
    deploy_refused document plan old new deploy_refusal.ChannelsDiffer read does (λ e. absurd cc)
deploy_stops document plan old new (deploy_refusal.DestinationInUse d) read does =
    deploy_refused document plan old new (deploy_refusal.DestinationInUse d) read does (λ e. absurd cc)
deploy_stops document plan old new deploy_refusal.TooMany read does = deploy_refused document plan old new deploy_refusal.TooMany read does (λ e. absurd cc)
deploy_stops document plan old new deploy_refusal.Full read does = deploy_refused document plan old new deploy_refusal.Full read does (λ e. absurd cc)

-- ---- a pruning

prune_refused : (before : ℕ) (old new : History) (refusal : PruneRefusal) → new ≡ old
    → (prune_answer old before ≡ Some refusal) ⊎ (prune_answer old before ≡ None) × (refusal ≡ prune_refusal.NoMemory) → (refusal ≡ prune_refusal.NoMemory → ⊥)
    → StopsAt Refused old new (Prune before)
prune_refused before old new refusal same why memory = record { reason = reason; left = same }
  where
    reason : prune_answer old before ≡ None → ⊥
    reason none = elim why [ inl some ↦ absurd cc | inr p ↦ memory p.1 ]

pub prune_stops : (before : ℕ) (old new : History) (refusal : PruneRefusal) → new ≡ old
    → (prune_answer old before ≡ Some refusal) ⊎ (prune_answer old before ≡ None) × (refusal ≡ prune_refusal.NoMemory)
    → StopsAt (prune_fault refusal) old new (Prune before)
prune_stops before old new prune_refusal.NoMemory same why = record { reason = tt; left = same }
prune_stops before old new (prune_refusal.StillLive n) same why = prune_refused before old new (prune_refusal.StillLive n) same why (λ e. absurd cc)
prune_stops before old new prune_refusal.NoSuchMessage same why = prune_refused before old new prune_refusal.NoSuchMessage same why (λ e. absurd cc)
prune_stops before old new prune_refusal.TooMany same why = prune_refused before old new prune_refusal.TooMany same why (λ e. absurd cc)
