-- What a settlement changes.
use Rattle.std.proofs.Common.{◌≡◌, ℕ, ◌+◌, ◌<◌, ◌≤◌, inl, inr, Bool, false, cond, Option, None, Some, Ok, Err, refl, sym, ◌∙◌, ap, subst, arith}
use Rattle.std.specs.Prelude.{IfSome}
use Rattle.std.proofs.lemmas.Bool.Decides.{eqb_tells}
use Rattle.dest_queue.specs.declared.SlotState.{SlotState}
use Rattle.dest_queue.specs.declared.SlotState.TheVariants.{Waiting, InFlight, Delivered, Failed}
use Rattle.dest_queue.specs.declared.FailCause.TheVariants.{Exhausted}
use Rattle.dest_queue.specs.declared.Outcome.{Outcome}
use Rattle.dest_queue.specs.declared.Outcome.TheVariants as outcomes
use Rattle.dest_queue.specs.declared.SettleRefusal.TheVariants.{NotInFlight}
use Rattle.dest_queue.specs.States.{state_after, slot_answer}
use Rattle.dest_queue.specs.inner.Kept.{IsKeepable}
use Rattle.dest_queue.proofs.Keepable.{after-keepable}
use Rattle.event_log.specs.declared.entry.Ticket.{Ticket}
use Rattle.event_log.specs.declared.entry.Entry.TheVariants.{Settle}
use Rattle.event_log.specs.History.{History, followed_by, is_for, plan_in_force, slot, state}
use Rattle.event_log.specs.Answers.{attempts_max, interval, settle_answer}
use Rattle.event_log.specs.Room.{is_in_flight, slot_owed}
use Rattle.event_log.specs.inner.Room.{in_flight}
use Rattle.event_log.specs.inner.Legal.{IsSound, IsWithin}
use Rattle.event_log.proofs.Following.{state-followed_by}
use Rattle.event_log.proofs.Reading.{slot-exists}
use Rattle.event_log.proofs.Steps.{SettleStep}
use Rattle.event_log.proofs.Touching.{Touches, is_for-other, is_for-own, state-picked, touched-nothing, touched-owed, touched-sound, touched-total}

-- only the attempt that is in flight is settled, and its outcome says how
answered-flew : (o : Option SlotState) (outcome : Outcome) (attempt now max interval : ℕ) (after : SlotState) → slot_answer o outcome attempt now max interval ≡ Ok after
    → (o ≡ Some (InFlight attempt)) × (after ≡ state_after outcome attempt now max interval)
answered-flew None outcome attempt now max interval after e = absurd cc
answered-flew (Some (Waiting a due)) outcome attempt now max interval after e = absurd cc
answered-flew (Some (InFlight a)) outcome attempt now max interval after e = elim (eqb_tells a attempt) [
  | inl w ↦
      let made : Ok (state_after outcome attempt now max interval) ≡ Ok after =
      ap (λ b. cond b (Ok (state_after outcome attempt now max interval)) (Err (NotInFlight (InFlight a)))) (sym w.0) ∙ e in
      (ap (λ n. Some (InFlight n)) w.1, cc)
  | inr w ↦
      let refused : Err (NotInFlight (InFlight a)) ≡ Ok after =
      ap (λ b. cond b (Ok (state_after outcome attempt now max interval)) (Err (NotInFlight (InFlight a)))) (sym w.0) ∙ e in absurd cc
]
answered-flew (Some Delivered) outcome attempt now max interval after e = absurd cc
answered-flew (Some (Failed cause)) outcome attempt now max interval after e = absurd cc

-- a slot that is settled: not in flight, within its attempts, and owing less than the attempt did
record IsLanded (max attempt : ℕ) (after : SlotState) : Type 0 where
  pub landed : is_in_flight after ≡ false
  pub within : IsWithin max after
  pub less : slot_owed max after + 1 ≤ slot_owed max (InFlight attempt)

-- an outcome lands its attempt
outcome-lands : (outcome : Outcome) (attempt now max interval : ℕ) → attempt ≤ max → IsLanded max attempt (state_after outcome attempt now max interval)
outcome-lands outcomes.Delivered attempt now max interval allowed = record { landed = refl; within = tt; less = omega arith }
outcome-lands outcomes.Rejected attempt now max interval allowed = record { landed = refl; within = tt; less = omega arith }
outcome-lands outcomes.Again attempt now max interval allowed = elim (eqb_tells attempt max) [
  | inl w ↦ subst (λ b. IsLanded max attempt (cond b (Failed Exhausted) (Waiting attempt (now + interval)))) (sym w.0) (record { landed = refl; within = tt; less = omega arith })
  | inr w ↦
      let apart = w.1 in
      subst (λ b. IsLanded max attempt (cond b (Failed Exhausted) (Waiting attempt (now + interval)))) (sym w.0) (record { landed = refl; within = omega arith; less = omega arith })
]

module _ (h : History) (sound : IsSound h) (ticket : Ticket) (outcome : Outcome) (now : ℕ) (after : SlotState) (flew : slot h ticket.number ticket.destination ≡ Some (InFlight ticket.attempt)) where
  -- the settlement touches its slot alone
  touches : Touches h (Settle outcome ticket now after) ticket.number ticket.destination (InFlight ticket.attempt) after
  touches = record {
    deploys_none = refl;
    brings = refl;
    keeps_none = λ key. refl;
    found = flew;
    leaves = ap (λ b. cond b (Some after) None) (is_for-own ticket);
    others = λ m k away. ap (λ b. cond b (Some after) None) (is_for-other ticket m k away);
  }

  -- the attempt was allowed
  allowed : ticket.attempt ≤ attempts_max (plan_in_force h) ticket.destination
  allowed = subst (λ o. IfSome o (IsWithin (attempts_max (plan_in_force h) ticket.destination))) flew (sound.attempts ticket.number ticket.destination)

  -- what the settlement changes
  step : after ≡ state_after outcome ticket.attempt now (attempts_max (plan_in_force h) ticket.destination) (interval (plan_in_force h) ticket.destination)
      → settle_answer h ticket outcome now ≡ Ok after → SettleStep h ticket outcome now after
  step after_is may =
      let landing : IsLanded (attempts_max (plan_in_force h) ticket.destination) ticket.attempt after =
      subst (IsLanded (attempts_max (plan_in_force h) ticket.destination) ticket.attempt) (sym after_is)
      (outcome-lands outcome ticket.attempt now (attempts_max (plan_in_force h) ticket.destination) (interval (plan_in_force h) ticket.destination) allowed) in
      record {
        flew = flew;
        after_is = after_is;
        landed = landing.landed;
        allowed = allowed;
        exists = slot-exists h ticket.number ticket.destination (InFlight ticket.attempt) flew;
        sound = touched-sound h (Settle outcome ticket now after) ticket.number ticket.destination (InFlight ticket.attempt) after touches sound (record { possible = tt; replied = may }) landing.within landing.less;
        nothing = touched-nothing h (Settle outcome ticket now after) ticket.number ticket.destination (InFlight ticket.attempt) after touches;
        state = λ n d. state-followed_by h (Settle outcome ticket now after) n d ∙ state-picked (is_for n d ticket) after (state h n d);
        owed = touched-owed h (Settle outcome ticket now after) ticket.number ticket.destination (InFlight ticket.attempt) after touches sound;
        in_flight = one-less (in_flight h) (in_flight (followed_by h (Settle outcome ticket now after))) (is_in_flight after) landing.landed
            (touched-total h (Settle outcome ticket now after) ticket.number ticket.destination (InFlight ticket.attempt) after touches sound (λ d s. cond (is_in_flight s) 1 0));
      }
    where
      from_zero : (a : ℕ) → a + 0 ≡ a
      from_zero a = omega arith

      one-less : (flies flies' : ℕ) (b : Bool) → b ≡ false → flies' + 1 ≡ flies + cond b 1 0 → flies' + 1 ≡ flies
      one-less flies flies' b down e = e ∙ (ap (λ c. flies + cond c 1 0) down ∙ from_zero flies)

-- a settlement that is answered Ok settles the attempt in flight
pub settle-step : (h : History) → IsSound h → (ticket : Ticket) (outcome : Outcome) (now : ℕ) (after : SlotState) → settle_answer h ticket outcome now ≡ Ok after → SettleStep h ticket outcome now after
settle-step h sound ticket outcome now after answered =
    let parts = answered-flew (slot h ticket.number ticket.destination) outcome ticket.attempt now (attempts_max (plan_in_force h) ticket.destination) (interval (plan_in_force h) ticket.destination) after answered in
    step h sound ticket outcome now after parts.0 parts.1 answered

-- the slot owes less than the attempt did
pub settle-less : (h : History) (ticket : Ticket) (outcome : Outcome) (now : ℕ) (after : SlotState) → IsSound h → settle_answer h ticket outcome now ≡ Ok after
    → slot_owed (attempts_max (plan_in_force h) ticket.destination) after + 1 ≤ slot_owed (attempts_max (plan_in_force h) ticket.destination) (InFlight ticket.attempt)
settle-less h ticket outcome now after sound answered =
    let step = settle-step h sound ticket outcome now after answered in
    subst (λ s. slot_owed (attempts_max (plan_in_force h) ticket.destination) s + 1 ≤ slot_owed (attempts_max (plan_in_force h) ticket.destination) (InFlight ticket.attempt)) (sym step.after_is)
    (outcome-lands outcome ticket.attempt now (attempts_max (plan_in_force h) ticket.destination) (interval (plan_in_force h) ticket.destination) step.allowed).less

-- the state that it leaves can be kept, where the attempts are few and the moment of a retry is near
pub settle-keepable : (h : History) (ticket : Ticket) (outcome : Outcome) (now : ℕ) (after : SlotState) → IsSound h → settle_answer h ticket outcome now ≡ Ok after
    → attempts_max (plan_in_force h) ticket.destination < 256 → now + interval (plan_in_force h) ticket.destination < 281474976710656 → IsKeepable after
settle-keepable h ticket outcome now after sound answered few near =
    let step = settle-step h sound ticket outcome now after answered in
    subst IsKeepable (sym step.after_is)
    (after-keepable outcome ticket.attempt now (attempts_max (plan_in_force h) ticket.destination) (interval (plan_in_force h) ticket.destination) (omega (arith, step.allowed)) near)
