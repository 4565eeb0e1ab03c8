-- What delivering says of the log: no turn, one turn, and turns after others.
use Rattle.std.proofs.Common.{◌≡◌, ℕ, List, [], ◌∷◌, ◌++◌, Result, Ok, Err, All, refl, sym, ap, ◌∙◌, subst, append_assoc}
use Rattle.std.specs.List.{flat_map}
use Rattle.std.proofs.lemmas.List.{append-nil, map-append}
use Rattle.std.proofs.lemmas.List.Concat.{flat_map-append}
use Rattle.std.proofs.lemmas.List.Elements.{All-append, All-nil, All-push, All-weaker}
use mathlib.Core.List.{IsPrefix}
use Rattle.dest_queue.specs.declared.Outcome.{Outcome}
use Rattle.dest_queue.specs.declared.SettleRefusal.{SettleRefusal}
use Rattle.dest_queue.specs.declared.SlotState.{SlotState}
use Rattle.event_log.specs.History.{History}
use Rattle.event_log.specs.Event.{Event, Refusal, Reply, entry_of, result_map}
use Rattle.event_log.specs.Event as event
use Rattle.event_log.specs.declared.refusal.TakeRefusal.{TakeRefusal}
use Rattle.event_log.proofs.Events.{ticket-destination}
use Rattle.book_core.specs.declared.letter.Job.{Job}
use Rattle.ghost_log.specs.Seats.{entries_of}
use Rattle.ghost_log.proofs.Seats.{entries-append, entry_one}
use Rattle.book_lock.specs.Log.{Calls, IsLegalLog, Log, Looks, SeatView, after_log, own_entry}
use Rattle.book_lock.specs.declared.durable.TakeDurableRefusal.{TakeDurableRefusal}
use Rattle.book_lock.specs.declared.durable.TakeDurableRefusal.TheVariants.{NotDurable, Refused}
use Rattle.book_lock.specs.declared.log_entry.LogEntry.{LogEntry}
use Rattle.book_lock.specs.declared.log_entry.LogEntry.TheVariants as log
use Rattle.delivery_worker.specs.Delivering.{Attempt, IsSendingOf, attempt_outcome}
use Rattle.delivery_worker.specs.inner.Taking.{IsNotTakenBy, TakesAfterLook}
use Rattle.delivery_worker.specs.declared.taking.TakeRule.{TakeRule}
use Rattle.delivery_worker.specs.Turns.{DeliversInLog, IsTurnWithin, StationTurn, booked_as, entries_in, settlement}

abbrev attempt_of : StationTurn → Attempt
attempt_of t = t.attempt

-- prefixes
onward_same : (a b : Log) → b ≡ a → IsPrefix a b
onward_same a b is = ([], append-nil a ∙ sym is)

pub onward_then : (a b c : Log) → IsPrefix a b → IsPrefix b c → IsPrefix a c
onward_then a b c p q = (p.0 ++ q.0, sym (append_assoc a p.0 q.0) ∙ ap (λ (w : Log). w ++ q.0) p.1 ∙ q.1)

-- the own entries of a call
own_booked : (n : ℕ) (e : Event) (r : Result (Reply e) (Refusal e)) → entries_of n (own_entry n e r) ≡ booked_as e r
own_booked n e (Ok reply) = entry_one n (log.Booked (entry_of e reply))
own_booked n e (Err refusal) = refl

-- a call adds its entry to those of its seat
pub call_adds : (h : History) (e : Event) (old new : SeatView) (r : Result (Reply e) (Refusal e)) → Calls h e old new r
    → entries_of old.number new.seen ≡ entries_of old.number old.seen ++ booked_as e r
call_adds h e old new r c =
    let n = old.number in
    let before : entries_of n (old.seen ++ c.others) ≡ entries_of n old.seen =
    entries-append n old.seen c.others ∙ ap (λ (w : List LogEntry). entries_of n old.seen ++ w) c.none_own ∙ append-nil (entries_of n old.seen) in
    ap (entries_of n) c.seen ∙ entries-append n (old.seen ++ c.others) (own_entry n e r)
    ∙ (λ i. before i ++ own_booked n e r i)

-- and what its seat has seen goes on
pub call_onward : (h : History) (e : Event) (old new : SeatView) (r : Result (Reply e) (Refusal e)) → Calls h e old new r → IsPrefix old.seen new.seen
call_onward h e old new r c = (c.others ++ own_entry old.number e r, sym (append_assoc old.seen c.others (own_entry old.number e r)) ∙ sym c.seen)

-- a job that was taken is for the destination of the queue
pub taken_to : (h : History) (d now : ℕ) (old new : SeatView) (job : Job) → TakesAfterLook h d now old new (Ok job) → job.ticket.destination ≡ d
taken_to h d now old new job t = ticket-destination (after_log h (t.begin.seen ++ t.takes.call.others)) d now job.ticket t.takes.call.does.replied

-- no call
pub no_turn : (h : History) (d : ℕ) (old new : SeatView) → new ≡ old → DeliversInLog h d old new []
no_turn h d old new is =
    let seen : new.seen ≡ old.seen = ap (λ (s : SeatView). s.seen) is in record {
      turns = [];
      attempts_are = refl;
      each = All-nil (IsTurnWithin h d old new);
      own = ap (entries_of old.number) seen ∙ sym (append-nil (entries_of old.number old.seen));
      number = ap (λ (s : SeatView). s.number) is;
      onward = onward_same old.seen new.seen seen;
      legal = λ was. subst (IsLegalLog h) (sym seen) was;
    }

-- a look adds no entry to those of its seat
look_adds : (h : History) (old new : SeatView) → Looks h old new → entries_of old.number new.seen ≡ entries_of old.number old.seen
look_adds h old new l =
    ap (entries_of old.number) l.seen ∙ entries-append old.number old.seen l.others
    ∙ ap (λ (w : List LogEntry). entries_of old.number old.seen ++ w) l.none_own ∙ append-nil (entries_of old.number old.seen)

look_onward : (h : History) (old new : SeatView) → Looks h old new → IsPrefix old.seen new.seen
look_onward h old new l = (l.others, sym l.seen)

-- a look
looked : (h : History) (d : ℕ) (old new : SeatView) → Looks h old new → DeliversInLog h d old new []
looked h d old new l = record {
  turns = [];
  attempts_are = refl;
  each = All-nil (IsTurnWithin h d old new);
  own = look_adds h old new l ∙ sym (append-nil (entries_of old.number old.seen));
  number = l.number;
  onward = look_onward h old new l;
  legal = λ was. l.legal;
}

-- what such a take adds to the entries of its seat
pub take_adds : (h : History) (d now : ℕ) (old new : SeatView) (r : Result Job TakeRefusal) → (t : TakesAfterLook h d now old new r)
    → entries_of old.number new.seen ≡ entries_of old.number old.seen ++ booked_as (event.take d now) (result_map (λ job. job.ticket) r)
take_adds h d now old new r t =
    let e = event.take d now in
    let reply = result_map (λ (job : Job). job.ticket) r in
    let added : entries_of old.number new.seen ≡ entries_of old.number t.begin.seen ++ booked_as e reply =
    subst (λ (n : ℕ). entries_of n new.seen ≡ entries_of n t.begin.seen ++ booked_as e reply) t.number (call_adds h e t.begin new reply t.takes.call) in
    added ∙ ap (λ (w : List LogEntry). w ++ booked_as e reply) t.none_own

pub take_onward : (h : History) (d now : ℕ) (old new : SeatView) (r : Result Job TakeRefusal) → TakesAfterLook h d now old new r → IsPrefix old.seen new.seen
take_onward h d now old new r t =
    onward_then old.seen t.begin.seen new.seen t.after (call_onward h (event.take d now) t.begin new (result_map (λ (job : Job). job.ticket) r) t.takes.call)

-- a take that was refused
refused_turn : (h : History) (d now : ℕ) (old new : SeatView) (refusal : TakeRefusal) → TakesAfterLook h d now old new (Err refusal) → DeliversInLog h d old new []
refused_turn h d now old new refusal t = record {
  turns = [];
  attempts_are = refl;
  each = All-nil (IsTurnWithin h d old new);
  own = take_adds h d now old new (Err refusal) t;
  number = t.takes.call.number ∙ t.number;
  onward = take_onward h d now old new (Err refusal) t;
  legal = λ was. t.takes.call.legal;
}

-- nothing was taken
pub not_taken : (h : History) (rule : TakeRule) (d now : ℕ) (old new : SeatView) (refusal : TakeDurableRefusal) → IsNotTakenBy rule h d now old new refusal → DeliversInLog h d old new []
not_taken h rule d now old new NotDurable l = looked h d old new l.1
not_taken h rule d now old new (Refused refusal) t = refused_turn h d now old new refusal t

-- a take, an attempt and its settlement
pub one_turn : (h : History) (d taken_at settled_at : ℕ) (old between new : SeatView) (job : Job) (attempt : Attempt) (o : Outcome) (reply : Result SlotState SettleRefusal)
    → TakesAfterLook h d taken_at old between (Ok job) → IsSendingOf attempt.last job.control_id job.payload job.ack → attempt_outcome attempt ≡ o
    → Calls h (event.settle job.ticket o settled_at) between new reply → DeliversInLog h d old new (attempt ∷ [])
one_turn h d taken_at settled_at old between new job attempt o reply takes sends is settles =
    let t : StationTurn = record { job = job; taken_at = taken_at; attempt = attempt; settled_at = settled_at; reply = reply } in
    let settled : Calls h (settlement t) between new reply = subst (λ (x : Outcome). Calls h (event.settle job.ticket x settled_at) between new reply) (sym is) settles in
    let took : entries_of old.number between.seen ≡ entries_of old.number old.seen ++ booked_as (event.take d taken_at) (Ok job.ticket) =
    take_adds h d taken_at old between (Ok job) takes in
    let number : between.number ≡ old.number = takes.takes.call.number ∙ takes.number in
    let then : entries_of old.number new.seen ≡ entries_of old.number between.seen ++ booked_as (settlement t) reply =
    subst (λ (n : ℕ). entries_of n new.seen ≡ entries_of n between.seen ++ booked_as (settlement t) reply) number
    (call_adds h (settlement t) between new reply settled) in record {
      turns = t ∷ [];
      attempts_are = refl;
      each = All-push (IsTurnWithin h d old new) [] t (All-nil (IsTurnWithin h d old new)) (record {
        begin = takes.begin;
        end = new;
        turn = record { between = between; takes = takes.takes; sends = sends; settles = settled };
        number = takes.number;
        after = takes.after;
        before = onward_same new.seen new.seen refl;
      });
      own = then ∙ ap (λ (w : List LogEntry). w ++ booked_as (settlement t) reply) took
          ∙ append_assoc (entries_of old.number old.seen) (booked_as (event.take d taken_at) (Ok job.ticket)) (booked_as (settlement t) reply)
          ∙ ap (λ (w : List LogEntry). entries_of old.number old.seen ++ w) (sym (append-nil (entries_in t)));
      number = settled.number ∙ number;
      onward = onward_then old.seen between.seen new.seen (take_onward h d taken_at old between (Ok job) takes) (call_onward h (settlement t) between new reply settled);
      legal = λ was. settled.legal;
    }

-- a turn within a part of what a seat went on by
within_more : (h : History) (d : ℕ) (old begin end new : SeatView) (t : StationTurn) → begin.number ≡ old.number → IsPrefix old.seen begin.seen → IsPrefix end.seen new.seen
    → IsTurnWithin h d begin end t → IsTurnWithin h d old new t
within_more h d old begin end new t number after before w = record {
  begin = w.begin;
  end = w.end;
  turn = w.turn;
  number = w.number ∙ number;
  after = onward_then old.seen begin.seen w.begin.seen after w.after;
  before = onward_then w.end.seen end.seen new.seen w.before before;
}

-- turns after others
pub turns_then : (h : History) (d : ℕ) (old mid new : SeatView) (made more : List Attempt) → DeliversInLog h d old mid made → DeliversInLog h d mid new more → DeliversInLog h d old new (made ++ more)
turns_then h d old mid new made more a b =
    let same : (w : Log) → entries_of mid.number w ≡ entries_of old.number w = λ w. ap (λ (n : ℕ). entries_of n w) a.number in
    let first : All (IsTurnWithin h d old new) a.turns = All-weaker (IsTurnWithin h d old mid) (IsTurnWithin h d old new)
    (λ t w. within_more h d old old mid new t refl (onward_same old.seen old.seen refl) b.onward w) a.turns a.each in
    let second : All (IsTurnWithin h d old new) b.turns = All-weaker (IsTurnWithin h d mid new) (IsTurnWithin h d old new)
    (λ t w. within_more h d old mid new new t a.number a.onward (onward_same new.seen new.seen refl) w) b.turns b.each in record {
      turns = a.turns ++ b.turns;
      attempts_are = map-append attempt_of a.turns b.turns ∙ (λ i. a.attempts_are i ++ b.attempts_are i);
      each = All-append (IsTurnWithin h d old new) a.turns b.turns first second;
      own = sym (same new.seen) ∙ b.own ∙ (λ i. same mid.seen i ++ flat_map entries_in b.turns)
          ∙ ap (λ (w : List LogEntry). w ++ flat_map entries_in b.turns) a.own
          ∙ append_assoc (entries_of old.number old.seen) (flat_map entries_in a.turns) (flat_map entries_in b.turns)
          ∙ ap (λ (w : List LogEntry). entries_of old.number old.seen ++ w) (sym (flat_map-append entries_in a.turns b.turns));
      number = b.number ∙ a.number;
      onward = onward_then old.seen mid.seen new.seen a.onward b.onward;
      legal = λ was. b.legal (a.legal was);
    }

pub no_more_turns : (h : History) (d : ℕ) (old mid new : SeatView) (made : List Attempt) → DeliversInLog h d old mid made → DeliversInLog h d mid new [] → DeliversInLog h d old new made
no_more_turns h d old mid new made a b = subst (λ (l : List Attempt). DeliversInLog h d old new l) (append-nil made) (turns_then h d old mid new made [] a b)
