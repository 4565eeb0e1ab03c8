-- What a take changes.
use Rattle.std.proofs.Common.{◌≡◌, ℕ, ◌+◌, ◌*◌, ◌-◌, ◌<◌, ◌≤◌, true, false, cond, Option, None, Some, Ok, Err, refl, sym, ◌∙◌, ap, subst, arith, nat_lt}
use Rattle.std.specs.Prelude.{slice_get, IfSome}
use Rattle.std.specs.Option.{option_map_or}
use Rattle.dest_queue.specs.declared.SlotState.{SlotState}
use Rattle.dest_queue.specs.declared.SlotState.TheVariants.{Waiting, InFlight, Delivered, Failed}
use Rattle.event_log.specs.declared.entry.Ticket.{Ticket}
use Rattle.event_log.specs.declared.entry.Entry.TheVariants.{Take}
use Rattle.event_log.specs.declared.refusal.TakeRefusal.TheVariants.{Idle, NotDue}
use Rattle.event_log.specs.History.{History, followed_by, is_for, plan_in_force, queue, slot, state}
use Rattle.event_log.specs.Answers.{attempts_max, front_answer, take_answer}
use Rattle.event_log.specs.Room.{is_in_flight, owed}
use Rattle.event_log.specs.inner.Room.{in_flight}
use Rattle.event_log.specs.inner.Legal.{IsSound, IsWithin}
use Rattle.event_log.proofs.Following.{state-followed_by}
use Rattle.event_log.proofs.Reading.{slot-exists}
use Rattle.event_log.proofs.Steps.{TakeStep}
use Rattle.event_log.proofs.Touching.{Touches, is_for-other, is_for-own, state-picked, touched-nothing, touched-owed, touched-sound, touched-total}

-- a slot of message n at d was taken: it waited
record IsTaken (d n : ℕ) (o : Option SlotState) (ticket : Ticket) : Type 0 where
  pub attempts : ℕ
  pub due : ℕ
  pub waited : o ≡ Some (Waiting attempts due)
  pub is : record { number = n; destination = d; attempt = attempts + 1 } ≡ ticket

-- only a slot that waits is taken
taken-waited : (d now n : ℕ) (o : Option SlotState) (ticket : Ticket) → front_answer d now n o ≡ Ok ticket → IsTaken d n o ticket
taken-waited d now n None ticket e = absurd cc
taken-waited d now n (Some (Waiting attempts due)) ticket e = elim (nat_lt now due) as (λ b. cond b (Err (NotDue due)) (Ok (record { number = n; destination = d; attempt = attempts + 1 })) ≡ Ok ticket → IsTaken d n (Some (Waiting attempts due)) ticket) [
  | true ↦ λ f. absurd cc
  | false ↦ λ f. record { attempts = attempts; due = due; waited = refl; is = cc }
] e
taken-waited d now n (Some (InFlight attempt)) ticket e = absurd cc
taken-waited d now n (Some Delivered) ticket e = absurd cc
taken-waited d now n (Some (Failed cause)) ticket e = absurd cc

-- a slot that is taken owes one entry less
owed-taken : (owes owes' max attempts : ℕ) → attempts < max → owes' + (2 * (max - attempts) + 1) ≡ owes + (2 * (max - (attempts + 1)) + 2) → owes' + 1 ≡ owes
owed-taken owes owes' max attempts left e = omega arith

-- what a slot that is taken owes falls by one at least
less-owed : (max attempts : ℕ) → attempts < max → 2 * (max - (attempts + 1)) + 2 + 1 ≤ 2 * (max - attempts) + 1
less-owed max attempts left = omega arith

module _ (h : History) (sound : IsSound h) (now : ℕ) (ticket : Ticket) (attempts due : ℕ) (waited : slot h ticket.number ticket.destination ≡ Some (Waiting attempts due)) (attempt : ticket.attempt ≡ attempts + 1) where
  -- the take touches its slot alone
  touches : Touches h (Take ticket now) ticket.number ticket.destination (Waiting attempts due) (InFlight ticket.attempt)
  touches = record {
    deploys_none = refl;
    brings = refl;
    keeps_none = λ key. refl;
    found = waited;
    leaves = ap (λ b. cond b (Some (InFlight ticket.attempt)) None) (is_for-own ticket);
    others = λ m k away. ap (λ b. cond b (Some (InFlight ticket.attempt)) None) (is_for-other ticket m k away);
  }

  -- an attempt is left
  allowed : attempts < attempts_max (plan_in_force h) ticket.destination
  allowed = subst (λ o. IfSome o (IsWithin (attempts_max (plan_in_force h) ticket.destination))) waited (sound.attempts ticket.number ticket.destination)

  -- what the take changes
  step : slice_get (queue h ticket.destination) 0 ≡ Some ticket.number → take_answer h ticket.destination now ≡ Ok ticket → TakeStep h now ticket
  step front may = record {
    attempts = attempts;
    due = due;
    waited = waited;
    attempt = attempt;
    allowed = allowed;
    exists = slot-exists h ticket.number ticket.destination (Waiting attempts due) waited;
    front = front;
    sound = touched-sound h (Take ticket now) ticket.number ticket.destination (Waiting attempts due) (InFlight ticket.attempt) touches sound (record { possible = tt; replied = may })
        (let left = allowed in omega arith)
        (subst (λ a. 2 * (attempts_max (plan_in_force h) ticket.destination - a) + 2 + 1 ≤ 2 * (attempts_max (plan_in_force h) ticket.destination - attempts) + 1) (sym attempt)
        (less-owed (attempts_max (plan_in_force h) ticket.destination) attempts allowed));
    nothing = touched-nothing h (Take ticket now) ticket.number ticket.destination (Waiting attempts due) (InFlight ticket.attempt) touches;
    state = λ n d. state-followed_by h (Take ticket now) n d ∙ state-picked (is_for n d ticket) (InFlight ticket.attempt) (state h n d);
    owed = owed-taken (owed h) (owed (followed_by h (Take ticket now))) (attempts_max (plan_in_force h) ticket.destination) attempts allowed
        (subst (λ a. owed (followed_by h (Take ticket now)) + (2 * (attempts_max (plan_in_force h) ticket.destination - attempts) + 1) ≡ owed h + (2 * (attempts_max (plan_in_force h) ticket.destination - a) + 2)) attempt
        (touched-owed h (Take ticket now) ticket.number ticket.destination (Waiting attempts due) (InFlight ticket.attempt) touches sound));
    in_flight = one-more (in_flight h) (in_flight (followed_by h (Take ticket now)))
        (touched-total h (Take ticket now) ticket.number ticket.destination (Waiting attempts due) (InFlight ticket.attempt) touches sound (λ d s. cond (is_in_flight s) 1 0));
  }
    where
      one-more : (flies flies' : ℕ) → flies' + 0 ≡ flies + 1 → flies' ≡ flies + 1
      one-more flies flies' e = omega arith

-- a take that is answered Ok takes the front, which waited
pub take-step : (h : History) → IsSound h → (d now : ℕ) (ticket : Ticket) → take_answer h d now ≡ Ok ticket → (ticket.destination ≡ d) × TakeStep h now ticket
take-step h sound d now ticket answered = by (slice_get (queue h d) 0) refl answered
  where
    by : (front : Option ℕ) → slice_get (queue h d) 0 ≡ front → option_map_or (λ n. front_answer d now n (slot h n d)) front (Err Idle) ≡ Ok ticket → (ticket.destination ≡ d) × TakeStep h now ticket
    by None front e = absurd cc
    by (Some n) front e =
        let one = taken-waited d now n (slot h n d) ticket e in
        subst (λ (t : Ticket). take_answer h d now ≡ Ok t → (t.destination ≡ d) × TakeStep h now t) one.is
        (λ may. (refl, step h sound now (record { number = n; destination = d; attempt = one.attempts + 1 }) one.attempts one.due one.waited refl front may)) answered
