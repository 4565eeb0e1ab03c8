-- Histories that are alike answer alike.
use Rattle.std.proofs.Common.{◌≡◌, ℕ, ◌+◌, Bool, true, false, cond, List, [], Option, None, Some, Result, Ok, Err, IfOk, refl, sym, ◌∙◌, ap, nat_lt, ◌&&◌, not, ◌==◌, length}
use Rattle.std.specs.Prelude.{find, is_some, slice_get}
use Rattle.std.specs.List.{range_with_len}
use Rattle.std.specs.Option.{option_map_or}
use Rattle.std.specs.Int.{bit_at}
use Rattle.judge_core.specs.Judging.{verdict as decided, is_bookable, key_of}
use Rattle.dest_queue.specs.declared.Outcome.{Outcome}
use Rattle.dest_queue.specs.States.{is_live, is_waiting, slot_answer}
use Rattle.plan_text.specs.Entries.{PlanEntry}
use Rattle.event_log.specs.declared.entry.Ticket.{Ticket}
use Rattle.event_log.specs.declared.entry.Told.TheVariants as told
use Rattle.event_log.specs.declared.refusal.CancelRefusal.TheVariants.{NoSuchMessage, NothingWaiting}
use Rattle.event_log.specs.declared.refusal.DeployRefusal.{DeployRefusal}
use Rattle.event_log.specs.declared.refusal.DeployRefusal.TheVariants.{ChannelsDiffer, DestinationInUse, TooMany}
use Rattle.dest_queue.specs.declared.SlotState.{SlotState}
use Rattle.dest_queue.specs.declared.SlotState.TheVariants.{Waiting, InFlight, Delivered, Failed}
use Rattle.event_log.specs.declared.refusal.TakeRefusal.{TakeRefusal}
use Rattle.event_log.specs.declared.refusal.TakeRefusal.TheVariants.{Idle}
use Rattle.event_log.specs.declared.refusal.TakeRefusal.TheVariants as take_refusal
use Rattle.hl7_head.specs.declared.ack.Cause.TheVariants.{IdReused}
use Rattle.event_log.specs.History.{History, control_id_of, is_queued, message_at, message_count, plan_in_force, queue, slot}
use Rattle.event_log.specs.Alike.{RepliesAlike, Aside, IsAlike, IsMet, SendsAlike}
use Rattle.event_log.specs.Answers.{arrival_answer, attempts_max, cancel_answer, front_answer, interval, known, mask_where, settle_answer, take_answer, told_again, told_by, waits_among}
use Rattle.event_log.specs.Deployment.{deploy_answer, is_lost, same_channels, stays}
use Rattle.event_log.specs.Event as event
use Rattle.event_log.specs.Event.{Event}
use Rattle.event_log.specs.Room.{is_over_limit}
use Rattle.event_log.proofs.Events.{arrival_by, deployment_by}
use Rattle.event_log.proofs.Reading.{front-lives}

-- the front that was taken
pub record Taken (h : History) (d : ℕ) (ticket : Ticket) : Type 0 where
  pub front : slice_get (queue h d) 0 ≡ Some ticket.number
  pub there : ticket.destination ≡ d

pub taken : (h : History) (d now : ℕ) (ticket : Ticket) → take_answer h d now ≡ Ok ticket → Taken h d ticket
taken h d now ticket is = by (slice_get (queue h d) 0) refl is
  where
    at : (n : ℕ) (s : Option SlotState) → front_answer d now n s ≡ Ok ticket → (n ≡ ticket.number) × (ticket.destination ≡ d)
    at n None is = absurd cc
    at n (Some (Waiting attempts due)) is = elim (nat_lt now due) as (λ b. cond b (Err (take_refusal.NotDue due)) (Ok (record { number = n; destination = d; attempt = attempts + 1 })) ≡ Ok ticket → (n ≡ ticket.number) × (ticket.destination ≡ d)) [
      | true ↦ λ e. absurd cc
      | false ↦ λ e. let same : ◌≡◌ {A = Ticket} (record { number = n; destination = d; attempt = attempts + 1 }) ticket = cc in (ap (λ t. t.number) same, sym (ap (λ t. t.destination) same))
    ] is
    at n (Some (InFlight attempt)) is = absurd cc
    at n (Some Delivered) is = absurd cc
    at n (Some (Failed cause)) is = absurd cc

    by : (o : Option ℕ) → slice_get (queue h d) 0 ≡ o → option_map_or (λ n. front_answer d now n (slot h n d)) o (Err Idle) ≡ Ok ticket → Taken h d ticket
    by None first is = absurd cc
    by (Some n) first is = let e = at n (slot h n d) is in record { front = first ∙ ap (λ x. Some x) e.0; there = e.1 }

module _ (aside : Aside) (h k : History) (alike : IsAlike aside h k) where
  -- a message that stands in a queue isn't left aside
  pub queued-outside : (n d : ℕ) → is_queued h d n ≡ true → aside.messages n ≡ false
  queued-outside n d queued = by (aside.messages n) (alike.settled n d)
    where
      by : (b : Bool) → (b ≡ true → is_queued h d n ≡ false) → b ≡ false
      by true settled = let no = settled refl in absurd cc
      by false settled = refl

  -- nor is a queue's front
  pub front-outside : (n d : ℕ) → slice_get (queue h d) 0 ≡ Some n → aside.messages n ≡ false
  front-outside n d front = let lives = front-lives h d n front in queued-outside n d (ap (λ o. option_map_or is_live o false) lives.1 ∙ lives.2)

  pub take-alike : (d now : ℕ) → take_answer k d now ≡ take_answer h d now
  take-alike d now = ap (λ ns. option_map_or (λ n. front_answer d now n (slot k n d)) (slice_get ns 0) (Err Idle)) (alike.queues d) ∙ by (slice_get (queue h d) 0) refl
    where
      by : (o : Option ℕ) → slice_get (queue h d) 0 ≡ o → option_map_or (λ n. front_answer d now n (slot k n d)) o (Err Idle) ≡ option_map_or (λ n. front_answer d now n (slot h n d)) o (Err Idle)
      by None is = refl
      by (Some n) is = ap (front_answer d now n) (alike.slots n d (front-outside n d is))

  -- and sends the same
  sends-alike : (d now : ℕ) → IfOk (take_answer h d now) (SendsAlike h k)
  sends-alike d now = by (take_answer h d now) refl
    where
      by : (r : Result Ticket TakeRefusal) → take_answer h d now ≡ r → IfOk r (SendsAlike h k)
      by (Err e) is = tt
      by (Ok ticket) is =
          let apart = front-outside ticket.number d (taken h d now ticket is).front in
          record {
            id = ap (λ o. option_map_or (λ m. control_id_of m.raw) o []) (alike.message ticket.number apart);
            text = ap (λ o. option_map_or (λ x. x.payload) (find (λ x. x.destination == ticket.destination) (option_map_or (λ m. m.deliveries) o [])) []) (alike.message ticket.number apart);
            destination = ap (λ plan. slice_get plan.destinations ticket.destination) alike.plan;
          }

  settle-alike : (ticket : Ticket) (outcome : Outcome) (now : ℕ) → aside.messages ticket.number ≡ false → settle_answer k ticket outcome now ≡ settle_answer h ticket outcome now
  settle-alike ticket outcome now apart =
      ap (λ plan. slot_answer (slot k ticket.number ticket.destination) outcome ticket.attempt now (attempts_max plan ticket.destination) (interval plan ticket.destination)) alike.plan
      ∙ ap (λ s. slot_answer s outcome ticket.attempt now (attempts_max (plan_in_force h) ticket.destination) (interval (plan_in_force h) ticket.destination))
      (alike.slots ticket.number ticket.destination apart)

  -- a message waits at the same destinations
  waits-alike : (n among : ℕ) → aside.messages n ≡ false → mask_where (waits_among k n among) ≡ mask_where (waits_among h n among)
  waits-alike n among apart = ap mask_where (λ i d. (bit_at among d == 1) && option_map_or is_waiting (alike.slots n d apart i) false)

  cancel-alike : (n among : ℕ) → aside.messages n ≡ false → cancel_answer k n among ≡ cancel_answer h n among
  cancel-alike n among apart =
      ap (λ b. cond b (cond (mask_where (waits_among k n among) == 0) (Err NothingWaiting) (Ok (mask_where (waits_among k n among)))) (Err NoSuchMessage)) (ap is_some (alike.message n apart))
      ∙ ap (λ mask. cond (is_some (message_at h n)) (cond (mask == 0) (Err NothingWaiting) (Ok mask)) (Err NoSuchMessage)) (waits-alike n among apart)

  deploy-alike : (plan : PlanEntry) → deploy_answer k plan ≡ deploy_answer h plan
  unfolding deploy_answer
  deploy-alike plan =
      let lost : is_lost k plan ≡ is_lost h plan = λ i d. nat_lt 0 (length (alike.queues d i)) && not (stays (slice_get (alike.plan i).destinations d) (slice_get plan.destinations d)) in
      λ i. cond (same_channels (alike.plan i) plan) (option_map_or (λ d. Some (DestinationInUse d)) (find (lost i) (range_with_len 0 32)) (cond (nat_lt (alike.deployments i) 1000) None (Some TooMany))) (Some ChannelsDiffer)

  answer-alike : (channel : ℕ) (raw : List ℕ) → aside.keys (key_of channel raw) ≡ false → arrival_answer k channel raw ≡ arrival_answer h channel raw
  unfolding arrival_answer
  answer-alike channel raw apart =
      (λ i. cond (is_bookable raw) (option_map_or (λ place. Some (told_again k raw place)) (alike.keys (key_of channel raw) apart i) (told_by (alike.messages i) (decided (alike.plan i) channel raw))) None)
      ∙ ap (λ o. cond (is_bookable raw) o None) (by (known h (key_of channel raw)) refl)
    where
      by : (o : Option ℕ) → known h (key_of channel raw) ≡ o
          → option_map_or (λ place. Some (told_again k raw place)) o (told_by (message_count h) (decided (plan_in_force h) channel raw))
          ≡ option_map_or (λ place. Some (told_again h raw place)) o (told_by (message_count h) (decided (plan_in_force h) channel raw))
      by None is = refl
      by (Some place) is = ap (λ b. Some (cond b (told.Repeat place) (told.Refused IdReused))) (alike.bytes (key_of channel raw) raw place apart is)

  -- an arrival and a deployment have room in both, or are refused by both
  arrival-alike : (conn channel : ℕ) (raw : List ℕ) → IsMet aside h k (event.arrive conn channel raw) → event.answer k (event.arrive conn channel raw) ≡ event.answer h (event.arrive conn channel raw)
  arrival-alike conn channel raw met =
      ap (λ b. arrival_by b (arrival_answer k channel raw)) met.its_room ∙ ap (arrival_by false) (answer-alike channel raw met.apart) ∙ sym (ap (λ b. arrival_by b (arrival_answer h channel raw)) met.room)

  deployment-alike : (plan : PlanEntry) → IsMet aside h k (event.deploy plan) → event.answer k (event.deploy plan) ≡ event.answer h (event.deploy plan)
  deployment-alike plan met =
      ap (λ o. deployment_by o (is_over_limit k 0)) (deploy-alike plan)
      ∙ by (deploy_answer h plan) (is_over_limit h 0) (is_over_limit k 0) met.room (λ none. met.its_room (deploy-alike plan ∙ none))
    where
      by : (o : Option DeployRefusal) (past its_past : Bool) → (o ≡ None → past ≡ false) → (o ≡ None → its_past ≡ false) → deployment_by o its_past ≡ deployment_by o past
      by None past its_past room its_room = ap (deployment_by None) (its_room refl ∙ sym (room refl))
      by (Some refusal) past its_past room its_room = refl

  -- an event that names nothing left aside, and for which both have room, gets the same reply
  pub answers-alike : (e : Event) → IsMet aside h k e → RepliesAlike h k e
  answers-alike (event.arrive conn channel raw) met = record { replied = arrival-alike conn channel raw met; sends = tt }
  answers-alike (event.take d now) met = record { replied = take-alike d now; sends = sends-alike d now }
  answers-alike (event.settle ticket outcome now) met = record { replied = settle-alike ticket outcome now met.apart; sends = tt }
  answers-alike (event.cancel n among) met = record { replied = cancel-alike n among met.apart; sends = tt }
  answers-alike (event.deploy plan) met = record { replied = deployment-alike plan met; sends = tt }
