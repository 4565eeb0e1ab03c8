-- Events: what may happen to a history, what the sequential engine replies to it, and what a call makes of it.
use Rattle.std.specs.Prelude.{◌≡◌, ◌⊎◌, ℕ, List, [], ◌∷◌, Result, Ok, Err, IfOk, IfErr, OnOk, OnErr, IsOk, if◌then◌else◌}
use Rattle.std.specs.Option.{option_map_or}
use Rattle.mllp_frame.specs.Framing.{IsBlockData}
use Rattle.plan_text.specs.Entries.{IsPlan, PlanEntry}
use Rattle.dest_queue.specs.declared.Outcome.{Outcome}
use Rattle.dest_queue.specs.declared.SettleRefusal.{SettleRefusal}
use Rattle.dest_queue.specs.declared.SlotState.{SlotState}
use Rattle.event_log.specs.declared.entry.Entry.{Entry}
use Rattle.event_log.specs.declared.entry.Entry.TheVariants as entry
use Rattle.event_log.specs.declared.entry.Ticket.{Ticket}
use Rattle.event_log.specs.declared.entry.Told.{Told}
use Rattle.event_log.specs.declared.refusal.CancelRefusal.{CancelRefusal}
use Rattle.event_log.specs.declared.refusal.CancelRefusal.TheVariants as cancel_refusal
use Rattle.event_log.specs.declared.refusal.DeployRefusal.{DeployRefusal}
use Rattle.event_log.specs.declared.refusal.DeployRefusal.TheVariants as deploy_refusal
use Rattle.event_log.specs.declared.refusal.TakeRefusal.{TakeRefusal}
use Rattle.event_log.specs.declared.refusal.TakeRefusal.TheVariants as take_refusal
use Rattle.event_log.specs.History.{History, followed_by}
use Rattle.event_log.specs.Answers.{arrival_answer, cancel_answer, settle_answer, take_answer}
use Rattle.event_log.specs.Deployment.{deploy_answer}
use Rattle.event_log.specs.Room.{is_over_limit, is_full}

-- What may happen: a text arrives over a connection on a channel; the first message of a destination's queue is taken at
-- a moment; an attempt is settled with its outcome at a moment; a message is cancelled where it waits at one of the
-- destinations of a mask, which has bit d for destination d (4294967295 for all of them); a plan is deployed.
pub data Event : Type 0 where
  arrive : ℕ → ℕ → List ℕ → Event
  take : ℕ → ℕ → Event
  settle : Ticket → Outcome → ℕ → Event
  cancel : ℕ → ℕ → Event
  deploy : PlanEntry → Event

-- why an arrival isn't booked: it is no message, there is no room for it, it was judged by another plan than the one in
-- force, or the engine is out of memory
pub data ArriveRefusal : Type 0 where
  no_message : ArriveRefusal
  full : ArriveRefusal
  plan_changed : ArriveRefusal
  no_memory : ArriveRefusal

-- the reply to an event that is booked: what the sender is answered, the ticket of an attempt, the slot's new state, or
-- the mask of the destinations at which a message was cancelled
abbrev pub Reply : Event → Type 0
Reply (arrive conn channel raw) = Told
Reply (take d now) = Ticket
Reply (settle ticket outcome now) = SlotState
Reply (cancel number among) = ℕ
Reply (deploy plan) = Unit {0}

-- why an event is refused
abbrev pub Refusal : Event → Type 0
Refusal (arrive conn channel raw) = ArriveRefusal
Refusal (take d now) = TakeRefusal
Refusal (settle ticket outcome now) = SettleRefusal
Refusal (cancel number among) = CancelRefusal
Refusal (deploy plan) = DeployRefusal

-- the sequential engine: its reply to an event, or why it refuses it, from the history so far
abbrev pub answer : History → (e : Event) → Result (Reply e) (Refusal e)
answer h (arrive conn channel raw) =
    if is_full h channel raw then Err full else option_map_or (λ told. Ok told) (arrival_answer h channel raw) (Err no_message)
answer h (take d now) = take_answer h d now
answer h (settle ticket outcome now) = settle_answer h ticket outcome now
answer h (cancel number among) = cancel_answer h number among
answer h (deploy plan) =
    option_map_or (λ refusal. Err refusal) (deploy_answer h plan) (if is_over_limit h 0 then Err deploy_refusal.Full else Ok tt)

-- the entry that is booked for an event with its reply
abbrev pub entry_of : (e : Event) → Reply e → Entry
entry_of (arrive conn channel raw) told = entry.Arrival conn channel raw told
entry_of (take d now) ticket = entry.Take ticket now
entry_of (settle ticket outcome now) state = entry.Settle outcome ticket now state
entry_of (cancel number among) mask = entry.Cancel number among mask
entry_of (deploy plan) done = entry.Deploy plan

-- the history after a reply: with one more entry, or as it was where the event is refused
abbrev pub after : History → (e : Event) → Result (Reply e) (Refusal e) → History
after h e (Ok reply) = followed_by h (entry_of e reply)
after h e (Err refusal) = h

-- the history after an event
abbrev pub next : History → Event → History
next h e = after h e (answer h e)

-- the history after these events
abbrev pub run : History → List Event → History
run h [] = h
run h (e ∷ es) = run (next h e) es

-- the event of an entry
abbrev pub event_of : Entry → Event
event_of (entry.Arrival conn channel raw told) = arrive conn channel raw
event_of (entry.Take ticket now) = take ticket.destination now
event_of (entry.Settle outcome ticket now state) = settle ticket outcome now
event_of (entry.Cancel number among mask) = cancel number among
event_of (entry.Deploy plan) = deploy plan

-- the reply of an entry
abbrev pub reply_of : (x : Entry) → Reply (event_of x)
reply_of (entry.Arrival conn channel raw told) = told
reply_of (entry.Take ticket now) = ticket
reply_of (entry.Settle outcome ticket now state) = state
reply_of (entry.Cancel number among mask) = mask
reply_of (entry.Deploy plan) = tt

-- an event that is possible: a text fits in a block, and what is deployed is a plan
abbrev pub IsPossible : Event → Type 0
IsPossible (arrive conn channel raw) = IsBlockData raw
IsPossible (take d now) = Unit {0}
IsPossible (settle ticket outcome now) = Unit {0}
IsPossible (cancel number among) = Unit {0}
IsPossible (deploy plan) = IsPlan plan

-- a refusal for lack of memory; a settlement needs none
abbrev pub IsOutOfMemory : (e : Event) → Refusal e → Type 0
IsOutOfMemory (arrive conn channel raw) refusal = refusal ≡ no_memory
IsOutOfMemory (take d now) refusal = refusal ≡ take_refusal.NoMemory
IsOutOfMemory (settle ticket outcome now) refusal = ⊥
IsOutOfMemory (cancel number among) refusal = refusal ≡ cancel_refusal.NoMemory
IsOutOfMemory (deploy plan) refusal = refusal ≡ deploy_refusal.NoMemory

-- a refusal of a message that was judged by another plan than the one in force
abbrev pub IsOutdated : (e : Event) → Refusal e → Type 0
IsOutdated (arrive conn channel raw) refusal = refusal ≡ plan_changed
IsOutdated (take d now) refusal = ⊥
IsOutdated (settle ticket outcome now) refusal = ⊥
IsOutdated (cancel number among) refusal = ⊥
IsOutdated (deploy plan) refusal = ⊥

-- What a call makes of an event: the reply of the sequential engine and its entry behind all that was booked, or a refusal
-- and no change.
pub record Does (e : Event) (old new : History) (result : Result (Reply e) (Refusal e)) : Type 0 where
  -- what is booked is possible
  pub possible : OnOk result (IsPossible e)
  -- its reply is the sequential engine's
  pub replied : IfOk result (λ reply. answer old e ≡ Ok reply)
  -- its entry is appended to all that was booked
  pub booked : IfOk result (λ reply. new ≡ followed_by old (entry_of e reply))
  -- a refusal is the sequential engine's, unless memory ran out or the plan has changed
  pub refused : IfErr result (λ refusal. (answer old e ≡ Err refusal) ⊎ IsOutOfMemory e refusal ⊎ IsOutdated e refusal)
  -- and changes nothing
  pub unchanged : OnErr result (new ≡ old)

-- memory is requested last: where there is none, nothing else would refuse the event
abbrev pub MemoryIsLast : (e : Event) → History → Result (Reply e) (Refusal e) → Type 0
MemoryIsLast e old result = IfErr result (λ refusal. IsOutOfMemory e refusal → IsOk (answer old e))

-- a result with a part of its value, or with its refusal by another name
abbrev pub result_map : {T U E : Type 0} → (T → U) → Result T E → Result U E
result_map f (Ok x) = Ok (f x)
result_map f (Err e) = Err e
