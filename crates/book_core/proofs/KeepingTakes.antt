-- A book is kept by a take.
use Rattle.std.proofs.Common.{◌≡◌, ℕ, ◌+◌, ◌-◌, ◌<◌, ◌≤◌, true, false, cond, ◌==◌, ◌||◌, inl, inr, List, [], ◌∷◌, Option, None, Some, Ok, Err, refl, sym, ◌∙◌, ap, arith, length, length-append, subst}
use Rattle.std.specs.Prelude.{IfSome, find, option_and_then, slice_get}
use Rattle.std.specs.Option.{option_map, option_map_or}
use Rattle.std.proofs.lemmas.Option.{same_Some}
use Rattle.plan_text.specs.Entries.{IsDestination, PlanEntry, IsPlan}
use Rattle.judge_core.specs.declared.delivery.Delivery.{Delivery}
use Rattle.judge_core.proofs.Routing.{All-slice_get}
use Rattle.row_store.specs.declared.Row.{Row}
use Rattle.row_store.specs.Rows.{item_at}
use Rattle.row_store.specs.inner.Rows.{changed_at}
use Rattle.dest_queue.specs.declared.SlotState.{SlotState}
use Rattle.dest_queue.specs.declared.SlotState.TheVariants.{Waiting, InFlight, Delivered, Failed}
use Rattle.dest_queue.specs.declared.slots.Queued.{Queued}
use Rattle.dest_queue.specs.inner.Queues.{front_state, put}
use Rattle.dest_queue.specs.States.{is_live}
use Rattle.dup_index.specs.inner.Known.{Known}
use Rattle.stat_count.specs.Statistics.{Statistics, destination_at}
use Rattle.stat_count.specs.inner.Statistics.{on_destination, taken_one}
use Rattle.event_log.specs.declared.entry.Ticket.{Ticket}
use Rattle.event_log.specs.declared.entry.Entry.TheVariants.{Take}
use Rattle.event_log.specs.declared.refusal.TakeRefusal.TheVariants.{Idle}
use Rattle.event_log.specs.History.{History, control_id, deliveries, followed_by, names, plan_in_force, queue, slot}
use Rattle.event_log.specs.Answers.{attempts_max, front_answer, take_answer}
use Rattle.event_log.specs.Room.{owed}
use Rattle.event_log.specs.inner.Legal.{IsWithin}
use Rattle.event_log.proofs.Reading.{queue-outside, slot-inside, slot-state}
use Rattle.event_log.proofs.Steps.{TakeStep}
use Rattle.event_log.proofs.Taking.{take-step}
use Rattle.book_core.specs.declared.letter.Outbound.{Outbound}
use Rattle.book_core.specs.inner.Parts.{IsKept}
use Rattle.book_core.proofs.CountedSteps.{counted-take, take-waits}
use Rattle.book_core.proofs.RowSteps.{rows-settled}
use Rattle.book_core.proofs.Rows.{kept-front_state, row-of}

-- deliveries that name d have one for d
find-named : (d : ℕ) (ds : List Delivery) → find (λ x. x.destination == d) ds ≡ None → names d ds ≡ false
find-named d [] none = refl
find-named d (x ∷ ds) none = elim (x.destination == d) as (λ b. cond b (Some x) (find (λ y. y.destination == d) ds) ≡ None → (b || names d ds) ≡ false)
    [ true ↦ λ e. absurd cc | false ↦ λ e. find-named d ds e ] none

-- so their payload for d is found
pub payload-found : (d : ℕ) (ds : List Delivery) → names d ds ≡ true → option_map (λ x. x.payload) (find (λ x. x.destination == d) ds) ≡ None → ⊥
payload-found d ds named none =
    elim (find (λ x. x.destination == d) ds) as (λ o. find (λ x. x.destination == d) ds ≡ o → option_map (λ x. x.payload) o ≡ None → ⊥) [
      | None ↦ λ e n. let no = find-named d ds e in absurd cc
      | Some x ↦ λ e n. absurd cc
    ] refl none

-- the payload that was found
pub payload-is : (o : Option Delivery) (text : List ℕ) → option_map (λ x. x.payload) o ≡ Some text → option_map_or (λ x. x.payload) o [] ≡ text
payload-is None text e = absurd cc
payload-is (Some x) text e = same_Some x.payload text e

-- the attempts of a plan are at most a hundred
pub few-attempts : (plan : PlanEntry) (d : ℕ) → IsPlan plan → attempts_max plan d ≤ 100
few-attempts plan d good =
    elim (slice_get plan.destinations d) as (λ o. slice_get plan.destinations d ≡ o → option_map_or (λ x. x.attempts) o 0 ≤ 100)
    [ None ↦ λ e. omega arith | Some x ↦ λ e. (All-slice_get IsDestination plan.destinations d x e good.each_destination).attempts ] refl

module _ (h : History) (rows : List (Row (Queued Outbound))) (index : List Known) (tally : Statistics) (flights room : ℕ) (kept : IsKept h rows index tally flights room) where
  -- an empty queue, or none that is linked
  pub front-none : (d now : ℕ) → d < 32 → front_state d rows ≡ None → take_answer h d now ≡ Err Idle
  front-none d now within none =
      elim (slice_get (queue h d) 0) as (λ o. option_and_then {U = ℕ × SlotState} (λ n. option_map {U = ℕ × SlotState} (λ state. (n, state)) (slot h n d)) o ≡ None → option_map_or (λ n. front_answer d now n (slot h n d)) o (Err Idle) ≡ Err Idle) [
        | None ↦ λ e. refl
        | Some n ↦ λ e. elim (slot h n d) as (λ s. option_map {U = ℕ × SlotState} (λ state. (n, state)) s ≡ None → front_answer d now n s ≡ Err Idle) [ None ↦ λ e. refl | Some s ↦ λ e. absurd cc ] e
      ] (sym (kept-front_state h rows kept.rows_agree d within) ∙ none)

  pub front-outside : (d now : ℕ) → 32 ≤ d → take_answer h d now ≡ Err Idle
  front-outside d now outside = ap (λ (q : List ℕ). option_map_or (λ n. front_answer d now n (slot h n d)) (slice_get q 0) (Err Idle)) (queue-outside h kept.sound d outside)

  -- the front and its slot
  pub front-is : (d number : ℕ) (state : SlotState) → d < 32 → front_state d rows ≡ Some (number, state) → (slice_get (queue h d) 0 ≡ Some number) × (slot h number d ≡ Some state)
  front-is d number state within front =
      elim (slice_get (queue h d) 0) as (λ o. option_and_then {U = ℕ × SlotState} (λ n. option_map {U = ℕ × SlotState} (λ state. (n, state)) (slot h n d)) o ≡ Some (number, state) → (o ≡ Some number) × (slot h number d ≡ Some state)) [
        | None ↦ λ e. absurd cc
        | Some n ↦ λ e. elim (slot h n d) as (λ s. slot h n d ≡ s → option_map {U = ℕ × SlotState} (λ state. (n, state)) s ≡ Some (number, state) → (Some n ≡ Some number) × (slot h number d ≡ Some state)) [
          | None ↦ λ is e. absurd cc
          | Some s ↦ λ is e.
              let pair : (n, s) ≡ (number, state) = same_Some {A = ℕ × SlotState} (n, s) (number, state) e in
              (ap (λ (p : ℕ × SlotState). Some p.0) pair, ap (λ (p : ℕ × SlotState). slot h p.0 d) (sym pair) ∙ (is ∙ ap (λ (p : ℕ × SlotState). Some p.1) pair))
        ] refl e
      ] (sym (kept-front_state h rows kept.rows_agree d within) ∙ front)

  pub asked-take : (d now number : ℕ) (state : SlotState) → d < 32 → front_state d rows ≡ Some (number, state) → take_answer h d now ≡ front_answer d now number (Some state)
  asked-take d now number state within front =
      let is = front-is d number state within front in
      ap (λ o. option_map_or (λ n. front_answer d now n (slot h n d)) o (Err Idle)) is.0 ∙ ap (front_answer d now number) is.1

  -- what is sent of a message
  pub kept-letter : (n : ℕ) (message : Queued Outbound) → item_at n rows ≡ Some message → (message.content.control_id ≡ control_id h n) × (message.content.deliveries ≡ deliveries h n)
  kept-letter n message found = elim (row-of h rows kept.rows_agree n) [
    | inl w ↦ let is : w.0.item ≡ message = same_Some {A = Queued Outbound} w.0.item message (sym w.3 ∙ found) in
        (ap (λ (m : Queued Outbound). m.content.control_id) (sym is) ∙ (w.2.control_id ∙ ap (control_id h) w.1), ap (λ (m : Queued Outbound). m.content.deliveries) (sym is) ∙ (w.2.deliveries ∙ ap (deliveries h) w.1))
    | inr w ↦ let none = w.0 in absurd cc
  ]

  -- a message that names a destination has a row
  pub letter-exists : (n d : ℕ) → names d (deliveries h n) ≡ true → item_at n rows ≡ None → ⊥
  letter-exists n d named none = elim (row-of h rows kept.rows_agree n) [
    | inl w ↦ let found = w.3 in absurd cc
    | inr w ↦ let nothing : deliveries h n ≡ [] = ap (λ m. option_map_or (λ m. m.deliveries) m []) w.1 in
        let no : names d (deliveries h n) ≡ false = ap (names d) nothing in absurd cc
  ]

  -- a slot's attempts are below a hundred
  pub front-within : (d number : ℕ) (state : SlotState) → slot h number d ≡ Some state → IsWithin 100 state
  front-within d number state is = weaker state (subst (λ o. IfSome o (IsWithin (attempts_max (plan_in_force h) d))) is (kept.sound.attempts number d))
    where
      weaker : (s : SlotState) → IsWithin (attempts_max (plan_in_force h) d) s → IsWithin 100 s
      weaker (Waiting attempts due) w = let most = few-attempts (plan_in_force h) d kept.sound.plan in omega (arith, most, w)
      weaker (InFlight attempt) w = let most = few-attempts (plan_in_force h) d kept.sound.plan in omega (arith, most, w)
      weaker Delivered w = tt
      weaker (Failed cause) w = tt

  module _ (d now : ℕ) (ticket : Ticket) (asked : take_answer h d now ≡ Ok ticket) where
    pub place : ticket.destination ≡ d
    place = (take-step h kept.sound d now ticket asked).0

    pub taking : TakeStep h now ticket
    taking = (take-step h kept.sound d now ticket asked).1

    waited : slot h ticket.number d ≡ Some (Waiting taking.attempts taking.due)
    waited = ap (slot h ticket.number) (sym place) ∙ taking.waited

    pub taken-inside : d < 32
    taken-inside = slot-inside h kept.sound ticket.number d (Waiting taking.attempts taking.due) waited

    pub taken-waits : 0 < (destination_at d tally).waiting
    taken-waits = subst (λ e. 0 < (destination_at e tally).waiting) place (take-waits h now ticket tally taking kept.sound.opening (rw place taken-inside) kept.are_counted).0

    pub taken-attempts : (destination_at d tally).attempts ≤ 1001000000
    taken-attempts = subst (λ e. (destination_at e tally).attempts ≤ 1001000000) place (omega (arith, (take-waits h now ticket tally taking kept.sound.opening (rw place taken-inside) kept.are_counted).1, kept.sound.room, kept.bound, kept.sound.opening.places_few, kept.sound.opening.prunings_few))

    pub taken-less : 1 ≤ owed h
    taken-less = omega (arith, taking.owed)

    pub taken-owed : owed h - 1 ≡ owed (followed_by h (Take ticket now))
    taken-owed = omega (arith, taking.owed)

    pub taken-within : length h.entries + 1 + owed (followed_by h (Take ticket now)) ≤ h.opening.events_max
    taken-within = omega (arith, taking.sound.room, length-append h.entries (Take ticket now ∷ []))

    -- the message names d
    pub taken-named : names d (deliveries h ticket.number) ≡ true
    taken-named = (slot-state h ticket.number d (Waiting taking.attempts taking.due) waited).0

    pub kept-taken : (room' : ℕ) → flights + 1 ≤ room'
        → IsKept (followed_by h (Take ticket now)) (changed_at ticket.number (put d (InFlight ticket.attempt)) rows) index (on_destination d taken_one tally) (flights + 1) room'
    kept-taken room' left = subst (λ e. IsKept (followed_by h (Take ticket now)) (changed_at ticket.number (put e (InFlight ticket.attempt)) rows) index (on_destination e taken_one tally) (flights + 1) room') place (
        let named = slot-state h ticket.number ticket.destination (Waiting taking.attempts taking.due) taking.waited in record {
          sound = taking.sound;
          rows_agree = rows-settled h _ refl ticket.number ticket.destination (InFlight ticket.attempt) taking.nothing.accepted taking.state named.0 (ap is_live named.1) rows kept.rows_agree;
          keys_agree = λ key. kept.keys_agree key ∙ sym (taking.nothing.known key);
          are_counted = counted-take h now ticket tally taking (rw place taken-inside) kept.are_counted;
          flights_are = omega (arith, taking.in_flight, kept.flights_are);
          reserved = omega (arith, taking.in_flight, kept.flights_are);
          bound = kept.bound;
        })
