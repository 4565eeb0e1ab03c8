-- What becomes of a message, as the book says it.
use Rattle.std.proofs.Common.{◌≡◌, ◌≢◌, ℕ, Bool, true, false, cond, List, [], ◌∷◌, Option, None, Some, Result, Ok, Err, IfOk, IfErr, OnErr, IsTrue, inl, inr, refl, sym, ◌∙◌, ap}
use Rattle.std.specs.Option.{option_map_or}
use Rattle.std.specs.Prelude.{IsErrOf, ◌↔◌}
use Rattle.std.specs.Result.{is_ok, result_map_both}
use Rattle.book_core.specs.declared.receipt.NotBooked.{NotBooked}
use Rattle.conn_core.specs.declared.booking.Unbooked.{Unbooked}
use Rattle.conn_core.specs.declared.booking.Unbooked.TheVariants.{Refused}
use Rattle.book_core.specs.declared.receipt.NotBooked.TheVariants.{Full, NoMemory, PlanChanged}
use Rattle.book_core.specs.Refusing.{arrive_refusal}
use Rattle.book_core.specs.declared.receipt.Receipt.{Receipt}
use Rattle.event_log.specs.declared.entry.Told.{Told}
use Rattle.event_log.specs.Answers.{arrival_answer}
use Rattle.event_log.specs.Event.{MemoryIsLast, Does, answer as event_answer, arrive}
use Rattle.event_log.specs.Event as event
use Rattle.event_log.specs.History.{History, plan_in_force}
use Rattle.event_log.specs.Room.{is_full}
use Rattle.event_log.proofs.Events.{arrival-full, arrival-room, arrival-told}
use Rattle.judge_core.specs.Judging.{Judgement}
use Rattle.plan_text.specs.Entries.{PlanEntry}
use Rattle.conn_core.specs.declared.block_outcome.BlockOutcome.{BlockOutcome}
use Rattle.conn_core.specs.declared.block_outcome.BlockOutcome.TheVariants.{Unreadable, Stray, Message}
use Rattle.conn_core.specs.Booking.{OutcomeAtBook}
use Rattle.conn_core.specs.inner.Outcomes.{MayBecome, MayHave}
use Rattle.conn_core.specs.inner.Booking.{receipts_of}
use Rattle.conn_core.specs.inner.Replies.{told_by}

-- the same refusal, of what was told
abbrev refused_by : Result Receipt NotBooked → Result Told Unbooked
refused_by (Ok receipt) = Ok receipt.told
refused_by (Err refusal) = Err (Refused refusal)

to_told : (r : Result Receipt NotBooked) (e : NotBooked) → IsErrOf r e → IsErrOf (refused_by r) (Refused e)
to_told (Ok receipt) e h = cc
to_told (Err refusal) e h = let same : refusal ≡ e = cc in rw same refl

of_told : (r : Result Receipt NotBooked) (e : NotBooked) → IsErrOf (refused_by r) (Refused e) → IsErrOf r e
of_told (Ok receipt) e h = cc
of_told (Err refusal) e h = let same : refusal ≡ e = cc in rw same refl

exactly_told : {P : Type 0} (r : Result Receipt NotBooked) (e : NotBooked) → (IsErrOf r e ↔ P) → (IsErrOf (refused_by r) (Refused e) ↔ P)
exactly_told r e both = (λ h. both.0 (of_told r e h), λ p. to_told r e (both.1 p))

module _ (book : History) (judged : Judgement) where
  -- a message that was booked
  pub answers_told : (r : Result Receipt NotBooked) → IfOk r (λ receipt. arrival_answer book judged.channel judged.raw ≡ Some receipt.told)
      → (IsErrOf r PlanChanged ↔ judged.plan ≢ plan_in_force book) → (IsErrOf r Full ↔ (judged.plan ≡ plan_in_force book) × IsTrue (is_full book judged.channel judged.raw))
      → IfOk r (λ receipt. OutcomeAtBook book judged (Ok receipt.told))
  answers_told (Ok receipt) told plan full = record { told = told; plan = exactly_told (Ok receipt) PlanChanged plan; full = exactly_told (Ok receipt) Full full; booked = λ place e. cc }
  answers_told (Err refusal) told plan full = tt

  -- one that was not
  pub answers_refused : (r : Result Receipt NotBooked)
      → (IsErrOf r PlanChanged ↔ judged.plan ≢ plan_in_force book) → (IsErrOf r Full ↔ (judged.plan ≡ plan_in_force book) × IsTrue (is_full book judged.channel judged.raw))
      → IfErr r (λ refusal. OutcomeAtBook book judged (Err (Refused refusal)))
  answers_refused (Ok receipt) plan full = tt
  answers_refused (Err refusal) plan full = record { told = tt; plan = exactly_told (Err refusal) PlanChanged plan; full = exactly_told (Err refusal) Full full; booked = λ place e. cc }

-- an arrival for which there is no room
was-full : (h : History) (conn channel : ℕ) (raw : List ℕ) → event_answer h (arrive conn channel raw) ≡ Err event.full → is_full h channel raw ≡ true
was-full h conn channel raw is = by (is_full h channel raw) (arrival_answer h channel raw) is
  where
    by : (b : Bool) (o : Option Told) → cond b (Err event.full) (option_map_or (λ t. Ok t) o (Err event.no_message)) ≡ Err event.full → b ≡ true
    by true o e = refl
    by false None e = absurd cc
    by false (Some t) e = absurd cc

-- what a call that does an arrival says of it
module _ (book new : History) (judged : Judgement) (conn : ℕ) where
  pub told_said : (r : Result Receipt NotBooked)
      → Does (arrive conn judged.channel judged.raw) book new (result_map_both (λ (receipt : Receipt). receipt.told) arrive_refusal r)
      → IfOk r (λ receipt. arrival_answer book judged.channel judged.raw ≡ Some receipt.told)
  told_said (Ok receipt) does = arrival-told book conn judged.channel judged.raw receipt.told does.replied
  told_said (Err refusal) does = tt

  pub full_said : (r : Result Receipt NotBooked)
      → Does (arrive conn judged.channel judged.raw) book new (result_map_both (λ (receipt : Receipt). receipt.told) arrive_refusal r)
      → MemoryIsLast (arrive conn judged.channel judged.raw) book (result_map_both (λ (receipt : Receipt). receipt.told) arrive_refusal r)
      → (IsErrOf r PlanChanged ↔ judged.plan ≢ plan_in_force book) → (IsErrOf r Full → judged.plan ≡ plan_in_force book)
      → IsErrOf r Full ↔ (judged.plan ≡ plan_in_force book) × IsTrue (is_full book judged.channel judged.raw)
  full_said (Ok receipt) does last plan same =
      (λ e. absurd cc, λ p. let none = sym p.1 ∙ arrival-room book conn judged.channel judged.raw receipt.told does.replied in absurd cc)
  full_said (Err NoMemory) does last plan same =
      (λ e. absurd cc, λ p. let none = sym (last refl) ∙ ap is_ok (arrival-full book conn judged.channel judged.raw p.1) in absurd cc)
  full_said (Err Full) does last plan same =
      let past : is_full book judged.channel judged.raw ≡ true = elim does.refused [
        | inl is ↦ was-full book conn judged.channel judged.raw is
        | inr other ↦ elim other [ inl x ↦ absurd cc | inr x ↦ absurd cc ]
      ] in
      (λ e. (same refl, past), λ p. refl)
  full_said (Err PlanChanged) does last plan same = (λ e. absurd cc, λ p. absurd (plan.0 refl p.0))

-- a message that was judged by the plan in force is not refused for another one
pub never_changed : (book : History) (judged : Judgement) (r : Result Receipt NotBooked) → r ≢ Err PlanChanged
    → judged.plan ≡ plan_in_force book → (IsErrOf r PlanChanged ↔ judged.plan ≢ plan_in_force book)
never_changed book judged (Ok receipt) never same = (λ e. absurd cc, λ other. absurd (other same))
never_changed book judged (Err refusal) never same =
    (λ e. let is : refusal ≡ PlanChanged = cc in absurd (never (ap Err is)), λ other. absurd (other same))

-- what holds of the one receipt, or of none, holds of the receipts that an outcome brings
pub booked_in : (P : List Receipt → Type 0) (o : Result Receipt Unbooked) → IfOk o (λ r. P (r ∷ [])) → OnErr o (P []) → P (receipts_of o)
booked_in P (Ok r) booked none = booked
booked_in P (Err unbooked) booked none = none

-- what may become of a message that was judged so, may become of it as it was received
pub may_become : (judges : PlanEntry → Type 0) (outcomes after : Judgement → Result Told Unbooked → Type 0) {channel : ℕ} {raw : List ℕ} (judged : Judgement) (o : BlockOutcome)
    → judges judged.plan → judged.channel ≡ channel → judged.raw ≡ raw → ((r : Result Told Unbooked) → after judged r → outcomes judged r) → MayHave (after judged) o
    → MayBecome judges outcomes channel raw o
may_become judges outcomes after judged Unreadable by_plan for_channel of_text same may = tt
may_become judges outcomes after judged Stray by_plan for_channel of_text same may = tt
may_become judges outcomes after judged (Message booked) by_plan for_channel of_text same may =
    record { judged = judged; by_plan = by_plan; for_channel = for_channel; of_text = of_text; may = same (told_by booked.outcome) may }
