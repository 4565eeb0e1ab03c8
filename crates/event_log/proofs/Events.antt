-- The answer to each event, and what follows of a call that does it.
use Rattle.std.proofs.Common.{◌≡◌, ◌+◌, ℕ, Bool, true, false, cond, List, nat_lt, Option, None, Some, inl, inr, ◌⊎◌, refl, sym, ◌∙◌, ap, subst}
use Rattle.std.specs.Prelude.{Result, Ok, Err, slice_get}
use Rattle.std.specs.Option.{option_map_or}
use Rattle.mllp_frame.specs.Framing.{IsBlockData}
use Rattle.plan_text.specs.Entries.{IsPlan, PlanEntry}
use Rattle.dest_queue.specs.declared.SlotState.{SlotState}
use Rattle.dest_queue.specs.declared.SlotState.TheVariants.{Waiting, InFlight, Delivered, Failed}
use Rattle.event_log.specs.declared.entry.Entry.{Entry}
use Rattle.event_log.specs.declared.entry.Entry.TheVariants as entry
use Rattle.event_log.specs.declared.entry.Ticket.{Ticket}
use Rattle.event_log.specs.declared.entry.Told.{Told}
use Rattle.event_log.specs.declared.refusal.DeployRefusal.{DeployRefusal}
use Rattle.event_log.specs.declared.refusal.DeployRefusal.TheVariants as deploy_refusal
use Rattle.event_log.specs.declared.refusal.TakeRefusal.TheVariants.{Idle, NotDue}
use Rattle.event_log.specs.History.{History, followed_by, queue, slot}
use Rattle.event_log.specs.Answers.{arrival_answer, front_answer, take_answer}
use Rattle.event_log.specs.Deployment.{deploy_answer}
use Rattle.event_log.specs.Event.{ArriveRefusal, IsPossible, Does, Event, Refusal, Reply, after, answer, arrive, cancel, deploy, entry_of, event_of, full, next, no_message, settle, take}
use Rattle.event_log.specs.Legal.{MayFollow}
use Rattle.event_log.specs.Room.{is_over_limit, is_full}

-- ---- an arrival, by its room and its answer

abbrev pub arrival_by : Bool → Option Told → Result Told ArriveRefusal
arrival_by past told = cond past (Err full) (option_map_or (λ t. Ok t) told (Err no_message))

pub arrival-answered : (h : History) (conn channel : ℕ) (raw : List ℕ) (told : Told) → is_full h channel raw ≡ false → arrival_answer h channel raw ≡ Some told
    → answer h (arrive conn channel raw) ≡ Ok told
arrival-answered h conn channel raw told room is = ap (λ b. arrival_by b (arrival_answer h channel raw)) room ∙ ap (arrival_by false) is

pub arrival-full : (h : History) (conn channel : ℕ) (raw : List ℕ) → is_full h channel raw ≡ true → answer h (arrive conn channel raw) ≡ Err full
arrival-full h conn channel raw past = ap (λ b. arrival_by b (arrival_answer h channel raw)) past

-- what follows of an arrival that is answered
pub arrival-room : (h : History) (conn channel : ℕ) (raw : List ℕ) (told : Told) → answer h (arrive conn channel raw) ≡ Ok told → is_full h channel raw ≡ false
arrival-room h conn channel raw told is = by (is_full h channel raw) refl is
  where
    by : (b : Bool) → is_full h channel raw ≡ b → arrival_by b (arrival_answer h channel raw) ≡ Ok told → is_full h channel raw ≡ false
    by true past e = absurd cc
    by false room e = room

pub arrival-told : (h : History) (conn channel : ℕ) (raw : List ℕ) (told : Told) → answer h (arrive conn channel raw) ≡ Ok told → arrival_answer h channel raw ≡ Some told
arrival-told h conn channel raw told is = by (is_full h channel raw) (arrival_answer h channel raw) is
  where
    by : (b : Bool) (o : Option Told) → arrival_by b o ≡ Ok told → o ≡ Some told
    by true o e = absurd cc
    by false None e = absurd cc
    by false (Some t) e = let same : t ≡ told = cc in ap (λ t. Some t) same

-- ---- a deployment, by its answer and its room

abbrev pub deployment_by : Option DeployRefusal → Bool → Result (Unit {0}) DeployRefusal
deployment_by refusal past = option_map_or (λ e. Err e) refusal (cond past (Err deploy_refusal.Full) (Ok tt))

pub deployment-answered : (h : History) (plan : PlanEntry) → deploy_answer h plan ≡ None → is_over_limit h 0 ≡ false → answer h (deploy plan) ≡ Ok tt
deployment-answered h plan none room = ap (λ o. deployment_by o (is_over_limit h 0)) none ∙ ap (deployment_by None) room

pub deployment-full : (h : History) (plan : PlanEntry) → deploy_answer h plan ≡ None → is_over_limit h 0 ≡ true → answer h (deploy plan) ≡ Err deploy_refusal.Full
deployment-full h plan none past = ap (λ o. deployment_by o (is_over_limit h 0)) none ∙ ap (deployment_by None) past

pub deployment-refused : (h : History) (plan : PlanEntry) (e : DeployRefusal) → deploy_answer h plan ≡ Some e → answer h (deploy plan) ≡ Err e
deployment-refused h plan e some = ap (λ o. deployment_by o (is_over_limit h 0)) some

-- what follows of a deployment that is answered
pub deployment-allowed : (h : History) (plan : PlanEntry) (done : Unit {0}) → answer h (deploy plan) ≡ Ok done → deploy_answer h plan ≡ None
deployment-allowed h plan done is = by (deploy_answer h plan) is
  where
    by : (o : Option DeployRefusal) → deployment_by o (is_over_limit h 0) ≡ Ok done → o ≡ None
    by None e = refl
    by (Some x) e = absurd cc

pub deployment-room : (h : History) (plan : PlanEntry) (done : Unit {0}) → answer h (deploy plan) ≡ Ok done → is_over_limit h 0 ≡ false
deployment-room h plan done is = by (deploy_answer h plan) (is_over_limit h 0) is
  where
    by : (o : Option DeployRefusal) (b : Bool) → deployment_by o b ≡ Ok done → b ≡ false
    by (Some x) b e = absurd cc
    by None true e = absurd cc
    by None false e = refl

-- ---- a take

-- the ticket of a take is for that destination
pub ticket-destination : (h : History) (d now : ℕ) (ticket : Ticket) → take_answer h d now ≡ Ok ticket → ticket.destination ≡ d
ticket-destination h d now ticket is = front (slice_get (queue h d) 0) is
  where
    due-or-not : (early : Bool) (attempts due n : ℕ) → cond early (Err (NotDue due)) (Ok (record { number = n; destination = d; attempt = attempts + 1 })) ≡ Ok ticket → ticket.destination ≡ d
    due-or-not true attempts due n e = absurd cc
    due-or-not false attempts due n e = let same : record { number = n; destination = d; attempt = attempts + 1 } ≡ ticket = cc in ap (λ (t : Ticket). t.destination) (sym same)

    by : (n : ℕ) (o : Option SlotState) → front_answer d now n o ≡ Ok ticket → ticket.destination ≡ d
    by n None e = absurd cc
    by n (Some (Waiting attempts due)) e = due-or-not (nat_lt now due) attempts due n e
    by n (Some (InFlight attempt)) e = absurd cc
    by n (Some Delivered) e = absurd cc
    by n (Some (Failed cause)) e = absurd cc

    front : (o : Option ℕ) → option_map_or (λ n. front_answer d now n (slot h n d)) o (Err Idle) ≡ Ok ticket → ticket.destination ≡ d
    front None e = absurd cc
    front (Some n) e = by n (slot h n d) e

-- ---- what is booked

-- an arrival that may be booked next, part by part
pub record Arrivable (h : History) (channel : ℕ) (raw : List ℕ) (reply : Told) : Type 0 where
  pub fits : IsBlockData raw
  pub room : is_full h channel raw ≡ false
  pub answered : arrival_answer h channel raw ≡ Some reply

pub arrivable : (h : History) (conn channel : ℕ) (raw : List ℕ) (reply : Told) → MayFollow h (entry.Arrival conn channel raw reply) → Arrivable h channel raw reply
arrivable h conn channel raw reply may =
    record { fits = may.possible; room = arrival-room h conn channel raw reply may.replied; answered = arrival-told h conn channel raw reply may.replied }

pub arrivable-follows : (h : History) (conn channel : ℕ) (raw : List ℕ) (reply : Told) → Arrivable h channel raw reply → MayFollow h (entry.Arrival conn channel raw reply)
arrivable-follows h conn channel raw reply may = record { possible = may.fits; replied = arrival-answered h conn channel raw reply may.room may.answered }

-- a plan that may be deployed next, part by part
pub record Deployable (h : History) (plan : PlanEntry) : Type 0 where
  pub good : IsPlan plan
  pub allowed : deploy_answer h plan ≡ None
  pub room : is_over_limit h 0 ≡ false

pub deployable : (h : History) (plan : PlanEntry) → MayFollow h (entry.Deploy plan) → Deployable h plan
deployable h plan may = record { good = may.possible; allowed = deployment-allowed h plan tt may.replied; room = deployment-room h plan tt may.replied }

pub deployable-follows : (h : History) (plan : PlanEntry) → Deployable h plan → MayFollow h (entry.Deploy plan)
deployable-follows h plan may = record { possible = may.good; replied = deployment-answered h plan may.allowed may.room }

-- an event that is possible, and is answered, may follow
pub may-follow : (h : History) (e : Event) (reply : Reply e) → IsPossible e → answer h e ≡ Ok reply → MayFollow h (entry_of e reply)
may-follow h (arrive conn channel raw) told possible is = record { possible = possible; replied = is }
may-follow h (take d now) ticket possible is = record { possible = tt; replied = subst (λ x. take_answer h x now ≡ Ok ticket) (sym (ticket-destination h d now ticket is)) is }
may-follow h (settle ticket outcome now) state possible is = record { possible = tt; replied = is }
may-follow h (cancel number among) mask possible is = record { possible = tt; replied = is }
may-follow h (deploy plan) done possible is = record { possible = possible; replied = is }

-- the history after an event that is answered
pub next-is : (h : History) (e : Event) (reply : Reply e) → answer h e ≡ Ok reply → next h e ≡ followed_by h (entry_of e reply)
next-is h e reply is = ap (after h e) is

-- and after one that is refused
pub next-same : (h : History) (e : Event) (refusal : Refusal e) → answer h e ≡ Err refusal → next h e ≡ h
next-same h e refusal is = ap (after h e) is

-- an entry that may follow is what its event brings
pub next-again : (h : History) (x : Entry) → MayFollow h x → next h (event_of x) ≡ followed_by h x
next-again h (entry.Arrival conn channel raw told) may = next-is h (arrive conn channel raw) told may.replied
next-again h (entry.Take ticket now) may = next-is h (take ticket.destination now) ticket may.replied
next-again h (entry.Settle outcome ticket now state) may = next-is h (settle ticket outcome now) state may.replied
next-again h (entry.Cancel number among mask) may = next-is h (cancel number among) mask may.replied
next-again h (entry.Deploy plan) may = next-is h (deploy plan) tt may.replied

-- ---- a call that does an event

-- leaves the history after it, or as it was
pub does-next : (e : Event) (old new : History) (result : Result (Reply e) (Refusal e)) → Does e old new result → (new ≡ next old e) ⊎ (new ≡ old)
does-next e old new (Ok reply) does = inl (does.booked ∙ sym (next-is old e reply does.replied))
does-next e old new (Err refusal) does = inr does.unchanged

-- and what it books may follow
pub does-follow : (e : Event) (old new : History) (reply : Reply e) → Does e old new (Ok reply) → MayFollow old (entry_of e reply)
does-follow e old new reply does = may-follow old e reply does.possible does.replied
