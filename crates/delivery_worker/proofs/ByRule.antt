-- Takes by a rule: none, one, and takes after others.
use Rattle.std.proofs.Common.{◌≡◌, ℕ, List, [], ◌∷◌, ◌++◌, Result, Ok, Err, inl, inr, All, map, refl, sym, ap, ◌∙◌, subst, append_assoc}
use Rattle.std.specs.List.{flat_map}
use Rattle.std.proofs.lemmas.List.Elements.{All-append, All-cons, All-nil, All-weaker}
use mathlib.Core.List.{IsPrefix}
use Rattle.dest_queue.specs.declared.Outcome.{Outcome}
use Rattle.dest_queue.specs.declared.SettleRefusal.{SettleRefusal}
use Rattle.dest_queue.specs.declared.SlotState.{SlotState}
use Rattle.event_log.specs.History.{History}
use Rattle.event_log.specs.Event as event
use Rattle.event_log.specs.declared.entry.Entry.TheVariants as entry
use Rattle.event_log.specs.declared.entry.Ticket.{Ticket}
use Rattle.book_core.specs.declared.letter.Job.{Job}
use Rattle.ghost_log.specs.Seats.{entries_of}
use Rattle.book_lock.specs.Durable.{HasDurable}
use Rattle.book_lock.specs.Log.{Calls, Log, SeatView}
use Rattle.book_lock.specs.declared.log_entry.LogEntry.{LogEntry}
use Rattle.book_lock.specs.declared.log_entry.LogEntry.TheVariants as log
use Rattle.delivery_worker.specs.Taking.{IsByRule, MayBeSent, TakesByRule}
use Rattle.delivery_worker.specs.inner.Taking.{TakesAfterLook}
use Rattle.delivery_worker.specs.declared.taking.TakeRule.{TakeRule}
use Rattle.delivery_worker.specs.declared.taking.TakeRule.TheVariants.{Any, Durable}
use Rattle.delivery_worker.specs.Turns.{DeliversInLog, StationTurn, booked_as, entries_in}
use Rattle.delivery_worker.proofs.InLog.{call_adds, call_onward, no_turn, onward_then, take_adds, take_onward}

-- what is durable by a log is so by a longer one
has_more : (entries rest : Log) (below : ℕ) → HasDurable entries below → HasDurable (entries ++ rest) below
has_more entries rest below has = record {
  before = has.before;
  seat = has.seat;
  after = has.after ++ rest;
  is = ap (λ (l : Log). l ++ rest) has.is ∙ append_assoc has.before ((has.seat, log.Durable below) ∷ has.after) rest;
}

may_more : (r : TakeRule) (h : History) (s t : SeatView) (n : ℕ) → IsPrefix s.seen t.seen → MayBeSent r h s n → MayBeSent r h t n
may_more Any h s t n p m = tt
may_more Durable h s t n p m = record {
  book = m.book;
  logged = m.logged;
  holds = record {
    below = m.holds.below;
    arrived = m.holds.arrived;
    durable = elim m.holds.durable [
      | inl early ↦ inl early
      | inr has ↦ inr (subst (λ (l : Log). HasDurable l m.holds.below) p.1 (has_more s.seen p.0 m.holds.below has))
    ];
  };
}

by_more : (r : TakeRule) (h : History) (s t : SeatView) → IsPrefix s.seen t.seen → (x : LogEntry) → IsByRule r h s x → IsByRule r h t x
by_more r h s t p (log.Booked (entry.Arrival conn channel raw told)) m = tt
by_more r h s t p (log.Booked (entry.Take ticket now)) m = may_more r h s t ticket.number p m
by_more r h s t p (log.Booked (entry.Settle outcome ticket now state)) m = tt
by_more r h s t p (log.Booked (entry.Cancel number among mask)) m = tt
by_more r h s t p (log.Booked (entry.Deploy plan)) m = tt
by_more r h s t p (log.Pruned before) m = tt
by_more r h s t p (log.Durable below) m = tt

-- no turn, no take
no_entries : (turns : List StationTurn) → map (λ t. t.attempt) turns ≡ [] → flat_map entries_in turns ≡ []
no_entries [] is = refl
no_entries (t ∷ turns) is = absurd cc

pub none_taken : (r : TakeRule) (h : History) (d : ℕ) (old new : SeatView) → DeliversInLog h d old new [] → TakesByRule r h old new
none_taken r h d old new l = record {
  own = [];
  added = l.own ∙ ap (λ (w : List LogEntry). entries_of old.number old.seen ++ w) (no_entries l.turns l.attempts_are);
  each = All-nil (IsByRule r h new);
  number = l.number;
  onward = l.onward;
}

pub none_yet : (r : TakeRule) (h : History) (s : SeatView) → TakesByRule r h s s
none_yet r h s = none_taken r h 0 s s (no_turn h 0 s s refl)

-- a settlement is no take
settles_by : (r : TakeRule) (h : History) (s : SeatView) (ticket : Ticket) (o : Outcome) (now : ℕ) (reply : Result SlotState SettleRefusal)
    → All (IsByRule r h s) (booked_as (event.settle ticket o now) reply)
settles_by r h s ticket o now (Ok state) = All-cons (IsByRule r h s) (log.Booked (entry.Settle o ticket now state)) [] tt (All-nil (IsByRule r h s))
settles_by r h s ticket o now (Err refusal) = All-nil (IsByRule r h s)

-- a take and its settlement
pub one_taken : (r : TakeRule) (h : History) (d taken_at settled_at : ℕ) (old between new : SeatView) (job : Job) (o : Outcome) (reply : Result SlotState SettleRefusal)
    → TakesAfterLook h d taken_at old between (Ok job) → MayBeSent r h between job.ticket.number
    → Calls h (event.settle job.ticket o settled_at) between new reply → TakesByRule r h old new
one_taken r h d taken_at settled_at old between new job o reply takes may settles =
    let e = event.settle job.ticket o settled_at in
    let taken = booked_as (event.take d taken_at) (Ok job.ticket) in
    let number : between.number ≡ old.number = takes.takes.call.number ∙ takes.number in
    let onward : IsPrefix between.seen new.seen = call_onward h e between new reply settles in
    let then : entries_of old.number new.seen ≡ entries_of old.number between.seen ++ booked_as e reply =
    subst (λ (n : ℕ). entries_of n new.seen ≡ entries_of n between.seen ++ booked_as e reply) number (call_adds h e between new reply settles) in record {
      own = taken ++ booked_as e reply;
      added = then ∙ ap (λ (w : List LogEntry). w ++ booked_as e reply) (take_adds h d taken_at old between (Ok job) takes)
          ∙ append_assoc (entries_of old.number old.seen) taken (booked_as e reply);
      each = All-cons (IsByRule r h new) (log.Booked (entry.Take job.ticket taken_at)) (booked_as e reply)
          (may_more r h between new job.ticket.number onward may) (settles_by r h new job.ticket o settled_at reply);
      number = settles.number ∙ number;
      onward = onward_then old.seen between.seen new.seen (take_onward h d taken_at old between (Ok job) takes) onward;
    }

-- takes after others
pub taken_then : (r : TakeRule) (h : History) (old mid new : SeatView) → TakesByRule r h old mid → TakesByRule r h mid new → TakesByRule r h old new
taken_then r h old mid new a b =
    let same : (w : Log) → entries_of mid.number w ≡ entries_of old.number w = λ w. ap (λ (n : ℕ). entries_of n w) a.number in record {
      own = a.own ++ b.own;
      added = sym (same new.seen) ∙ b.added ∙ ap (λ (w : List LogEntry). w ++ b.own) (same mid.seen ∙ a.added)
          ∙ append_assoc (entries_of old.number old.seen) a.own b.own;
      each = All-append (IsByRule r h new) a.own b.own (All-weaker (IsByRule r h mid) (IsByRule r h new) (by_more r h mid new b.onward) a.own a.each) b.each;
      number = b.number ∙ a.number;
      onward = onward_then old.seen mid.seen new.seen a.onward b.onward;
    }
