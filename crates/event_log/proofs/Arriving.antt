-- An arrival that may be booked next.
use Rattle.std.proofs.Common.{◌≡◌, ◌≢◌, ℕ, ◌+◌, ◌<◌, ◌≤◌, Bool, true, false, cond, inl, inr, List, [], ◌∷◌, ◌++◌, length, Option, None, Some, refl, sym, ◌∙◌, ap, subst, arith, suc, zero, add-zero, length-append}
use Rattle.std.specs.Prelude.{All, IfSome, nat_lt, slice_get, if◌then◌else◌, option_to_list}
use Rattle.std.specs.Option.{option_map_or}
use Rattle.std.proofs.lemmas.Bool.{cases_eq}
use Rattle.std.proofs.lemmas.Bool.Decides.{eqb_tells, nat_tests}
use Rattle.std.proofs.lemmas.List.Elements.{All-head, All-tail}
use Rattle.hl7_head.specs.declared.ack.Cause.TheVariants.{IdReused}
use Rattle.plan_text.specs.Entries.{PlanEntry, DestinationEntry, IsDestination, IsPlan}
use Rattle.judge_core.specs.declared.delivery.Delivery.{Delivery}
use Rattle.judge_core.specs.declared.judged.Verdict.{Verdict}
use Rattle.judge_core.specs.declared.judged.Verdict.TheVariants as verdict
use Rattle.judge_core.specs.Delivering.{destinations_of}
use Rattle.judge_core.specs.inner.Delivering.{AreDeliveries}
use Rattle.judge_core.specs.Judging.{verdict as decided, deliveries_of, is_bookable, key_of}
use Rattle.judge_core.proofs.Verdicts.{deliveries-verdict, lead-named}
use Rattle.dest_queue.specs.declared.SlotState.{SlotState}
use Rattle.dest_queue.specs.declared.SlotState.TheVariants.{Waiting}
use Rattle.event_log.specs.declared.entry.Entry.TheVariants.{Arrival}
use Rattle.event_log.specs.declared.entry.Told.{Told}
use Rattle.event_log.specs.declared.entry.Told.TheVariants as told
use Rattle.event_log.specs.History.{History, accepted, accepted_by, accepted_under, deliveries, followed_by, message_count, names, plan_in_force, slot, state}
use Rattle.event_log.specs.Answers.{arrival_answer, attempts_max, brings_at, known, told_by}
use Rattle.event_log.specs.Room.{is_full, is_in_flight, message_total, owed, own, committed_by_new, slot_owed, slots_added, total}
use Rattle.event_log.specs.inner.Room.{in_flight}
use Rattle.event_log.specs.inner.Legal.{IsSound, IsWithin}
use Rattle.event_log.proofs.Adding.{fresh, fresh-in_flight, fresh-owed}
use Rattle.event_log.proofs.Events.{Arrivable, arrivable-follows}
use Rattle.event_log.proofs.Following.{accepted-followed_by, accepted-kept, deliveries-same, funext, known-followed_by, legal-followed_by, message-newest, message-older, message_count-longer, message_count-same, plan-kept, slot-same, state-followed_by}
use Rattle.event_log.proofs.Steps.{ArrivalStep, IsNumbered}
use Rattle.event_log.proofs.Totals.{total-grown, total-same}

-- ---- the answer

-- only a message that is judged is told that it was accepted, and with the next number
judged-number : (v : Verdict) (count number : ℕ) → told_by count v ≡ Some (told.Accepted number) → number ≡ count
judged-number verdict.Unreadable count number is = absurd cc
judged-number verdict.Stray count number is = absurd cc
judged-number (verdict.Refuse cause) count number is = absurd cc
judged-number verdict.Filtered count number is = absurd cc
judged-number (verdict.Accept deliveries) count number is = cc

-- a message whose key is known isn't accepted
again-number : (same : Bool) (place count number : ℕ) → Some (if same then told.Repeat place else told.Refused IdReused) ≡ Some (told.Accepted number) → number ≡ count
again-number true place count number is = absurd cc
again-number false place count number is = absurd cc

-- an answer that a message was accepted gives it the next number
told-number : (bookable : Bool) (seen : Option ℕ) (same : ℕ → Bool) (v : Verdict) (count number : ℕ)
    → (if bookable then option_map_or (λ place. Some (if same place then told.Repeat place else told.Refused IdReused)) seen (told_by count v) else None) ≡ Some (told.Accepted number) → number ≡ count
told-number false seen same v count number is = absurd cc
told-number true None same v count number is = judged-number v count number is
told-number true (Some place) same v count number is = again-number (same place) place count number is

-- an accepted message gets the next number
pub accepted-number : (h : History) (channel : ℕ) (raw : List ℕ) (number : ℕ) → arrival_answer h channel raw ≡ Some (told.Accepted number) → number ≡ message_count h
unfolding arrival_answer
accepted-number h channel raw number is =
    told-number (is_bookable raw) (known h (key_of channel raw)) (brings_at h raw) (decided (plan_in_force h) channel raw) (message_count h) number is

-- ---- the slots of a new message

-- a destination that deliveries name is as they all are
names-all : (P : ℕ → Type 0) (ds : List Delivery) (d : ℕ) → All P (destinations_of ds) → names d ds ≡ true → P d
names-all P [] d all here = absurd cc
names-all P (x ∷ ds) d all here = elim (eqb_tells x.destination d) [
  | inl w ↦ subst P w.1 (All-head P x.destination (destinations_of ds) all)
  | inr w ↦ names-all P ds d (All-tail P x.destination (destinations_of ds) all) (rw w.0 at here)
]

-- a destination of the plan is tried at least once
tried : (xs : List DestinationEntry) (d : ℕ) → All IsDestination xs → d < length xs → 0 < option_map_or (λ x. x.attempts) (slice_get xs d) 0
tried [] d all inside = absurd (omega arith)
tried (x ∷ xs) zero all inside = let first = (All-head IsDestination x xs all).tried in omega arith
tried (x ∷ xs) (suc d) all inside = tried xs d (All-tail IsDestination x xs all) (omega arith)

-- a slot of a new message has an attempt left
fresh-within : (plan : PlanEntry) (ds : List Delivery) (d : ℕ) → IsPlan plan → All (λ d. d < length plan.destinations) (destinations_of ds) → IfSome (fresh ds d) (IsWithin (attempts_max plan d))
fresh-within plan ds d good lead =
    elim (names d ds) as (λ b. names d ds ≡ b → IfSome (cond b (Some (Waiting 0 0)) None) (IsWithin (attempts_max plan d)))
    [ true ↦ λ here. tried plan.destinations d good.each_destination (names-all (λ d. d < length plan.destinations) ds d lead here) | false ↦ λ here. tt ] refl

-- ---- the arrival

-- there is room for an entry and what it owes
room-left : (count more bound old new own : ℕ) → nat_lt bound (count + old + 1 + own) ≡ false → more ≡ count + 1 → new ≡ old + own → more + new ≤ bound
room-left count more bound old new own enough longer owes =
    let le : count + old + 1 + own ≤ bound = grind (arith, nat_tests) in omega arith

module _ (h : History) (sound : IsSound h) (conn channel : ℕ) (raw : List ℕ) (reply : Told) (may : Arrivable h channel raw reply) where
  -- it owes what its slots owe
  own-is : own h channel raw ≡ committed_by_new (plan_in_force h) (slots_added (plan_in_force h) channel raw reply)
  own-is = ap (λ o. option_map_or (λ told. committed_by_new (plan_in_force h) (slots_added (plan_in_force h) channel raw told)) o 0) may.answered

  -- the entry and what it owes fit
  room-after : owed (followed_by h (Arrival conn channel raw reply)) ≡ owed h + own h channel raw → length (h.entries ++ Arrival conn channel raw reply ∷ []) + owed (followed_by h (Arrival conn channel raw reply)) ≤ h.opening.events_max
  unfolding is_full
  room-after owes =
      room-left (length h.entries) (length (h.entries ++ Arrival conn channel raw reply ∷ [])) h.opening.events_max (owed h) (owed (followed_by h (Arrival conn channel raw reply))) (own h channel raw)
      may.room (length-append h.entries (Arrival conn channel raw reply ∷ [])) owes

  -- the plan in force stays
  plan-after : plan_in_force (followed_by h (Arrival conn channel raw reply)) ≡ plan_in_force h
  plan-after = plan-kept h (Arrival conn channel raw reply) refl

  -- what is owed, by the plan in force before it
  owed-after : owed (followed_by h (Arrival conn channel raw reply)) ≡ total (λ d. slot_owed (attempts_max (plan_in_force h) d)) (followed_by h (Arrival conn channel raw reply))
  owed-after = ap (λ p. total (λ d. slot_owed (attempts_max p d)) (followed_by h (Arrival conn channel raw reply))) plan-after

  -- no slot's state changes
  state-after : (n d : ℕ) → state (followed_by h (Arrival conn channel raw reply)) n d ≡ state h n d
  state-after n d = state-followed_by h (Arrival conn channel raw reply) n d

  -- what an arrival changes, by what it does to the messages
  step-when : IsNumbered (message_count h) reply
      → ((n : ℕ) → AreDeliveries (deliveries (followed_by h (Arrival conn channel raw reply)) n))
      → ((n d : ℕ) → IfSome (slot (followed_by h (Arrival conn channel raw reply)) n d) (IsWithin (attempts_max (plan_in_force h) d)))
      → message_count h ≤ message_count (followed_by h (Arrival conn channel raw reply))
      → owed (followed_by h (Arrival conn channel raw reply)) ≡ owed h + own h channel raw
      → in_flight (followed_by h (Arrival conn channel raw reply)) ≡ in_flight h
      → ArrivalStep h conn channel raw reply
  step-when numbered goes within more owes flight = record {
    numbered = numbered;
    sound = record {
      opening = sound.opening;
      plan = subst IsPlan (sym plan-after) sound.plan;
      legal = legal-followed_by h (Arrival conn channel raw reply) sound.legal (arrivable-follows h conn channel raw reply may);
      deliveries = goes;
      attempts = λ n d. subst (λ p. IfSome (slot (followed_by h (Arrival conn channel raw reply)) n d) (IsWithin (attempts_max p d))) (sym plan-after) (within n d);
      to_come = λ n d beyond. state-after n d ∙ sound.to_come n d (omega arith);
      room = room-after owes;
    };
    accepted = accepted-followed_by h (Arrival conn channel raw reply);
    known = known-followed_by h (Arrival conn channel raw reply);
    state = state-after;
    owed = owes;
    in_flight = flight;
  }

  -- an arrival that brings no message
  module _ (none : accepted_by (plan_in_force h) (Arrival conn channel raw reply) ≡ None) (nothing : slots_added (plan_in_force h) channel raw reply ≡ []) where
    -- the messages are those before
    same-messages : accepted (followed_by h (Arrival conn channel raw reply)) ≡ accepted h
    same-messages = accepted-kept h (Arrival conn channel raw reply) none

    -- there are as many
    same-count : message_count (followed_by h (Arrival conn channel raw reply)) ≡ message_count h
    same-count = message_count-same h (followed_by h (Arrival conn channel raw reply)) refl same-messages

    -- no slot changes
    slot-kept : (n d : ℕ) → slot (followed_by h (Arrival conn channel raw reply)) n d ≡ slot h n d
    slot-kept n d =
        slot-same h (followed_by h (Arrival conn channel raw reply)) refl same-messages n d
        ∙ ap (λ s. cond (names d (deliveries h n)) (Some s) None) (state-after n d)

    -- no sum over slots changes
    total-kept : (weight : ℕ → SlotState → ℕ) → total weight (followed_by h (Arrival conn channel raw reply)) ≡ total weight h
    total-kept weight = total-same weight h (followed_by h (Arrival conn channel raw reply)) same-count (λ m below d. slot-kept m d)

    -- as much is owed as before
    owed-kept : owed (followed_by h (Arrival conn channel raw reply)) ≡ owed h + own h channel raw
    owed-kept =
        let own-none : own h channel raw ≡ 0 = own-is ∙ ap (committed_by_new (plan_in_force h)) nothing in
        owed-after ∙ total-kept (λ d. slot_owed (attempts_max (plan_in_force h) d)) ∙ rw own-none (sym (add-zero (owed h)))

    -- such an arrival leaves all slots as they are
    step-kept : IsNumbered (message_count h) reply → ArrivalStep h conn channel raw reply
    step-kept numbered =
        step-when numbered
        (λ n. subst AreDeliveries (sym (deliveries-same h (followed_by h (Arrival conn channel raw reply)) refl same-messages n)) (sound.deliveries n))
        (λ n d. subst (λ o. IfSome o (IsWithin (attempts_max (plan_in_force h) d))) (sym (slot-kept n d)) (sound.attempts n d))
        (omega (arith, same-count)) owed-kept (total-kept (λ d state. if is_in_flight state then 1 else 0))

  -- an arrival that brings a message
  module _ (some : accepted_by (plan_in_force h) (Arrival conn channel raw reply) ≡ Some (accepted_under (plan_in_force h) channel raw))
      (adds : slots_added (plan_in_force h) channel raw reply ≡ destinations_of (deliveries_of (decided (plan_in_force h) channel raw))) where
    -- it comes after the messages before
    more-messages : accepted (followed_by h (Arrival conn channel raw reply)) ≡ accepted h ++ accepted_under (plan_in_force h) channel raw ∷ []
    more-messages = accepted-followed_by h (Arrival conn channel raw reply) ∙ ap (λ o. accepted h ++ option_to_list o) some

    -- there is one more
    more-count : message_count (followed_by h (Arrival conn channel raw reply)) ≡ message_count h + 1
    more-count = message_count-longer h (followed_by h (Arrival conn channel raw reply)) refl (accepted_under (plan_in_force h) channel raw) more-messages

    -- its deliveries
    new-goes : AreDeliveries (deliveries_of (decided (plan_in_force h) channel raw))
    new-goes = deliveries-verdict (plan_in_force h) channel raw sound.plan may.fits.plain

    -- they go to destinations of the plan
    new-lead : All (λ d. d < length (plan_in_force h).destinations) (destinations_of (deliveries_of (decided (plan_in_force h) channel raw)))
    new-lead = lead-named (plan_in_force h) channel raw sound.plan

    -- the other messages go where they went
    deliveries-old : (n : ℕ) → n ≢ message_count h → deliveries (followed_by h (Arrival conn channel raw reply)) n ≡ deliveries h n
    deliveries-old n apart =
        ap (λ o. option_map_or (λ m. m.deliveries) o []) (message-older h (followed_by h (Arrival conn channel raw reply)) refl (accepted_under (plan_in_force h) channel raw) more-messages n apart)

    -- the new message goes by its deliveries
    deliveries-new : (n : ℕ) → n ≡ message_count h → deliveries (followed_by h (Arrival conn channel raw reply)) n ≡ deliveries_of (decided (plan_in_force h) channel raw)
    deliveries-new n same =
        ap (deliveries (followed_by h (Arrival conn channel raw reply))) same
        ∙ ap (λ o. option_map_or (λ m. m.deliveries) o []) (message-newest h (followed_by h (Arrival conn channel raw reply)) refl (accepted_under (plan_in_force h) channel raw) more-messages)

    -- the slots of other messages stay
    slot-old : (n : ℕ) → n ≢ message_count h → (d : ℕ) → slot (followed_by h (Arrival conn channel raw reply)) n d ≡ slot h n d
    slot-old n apart d =
        ap (λ xs. cond (names d xs) (Some (state (followed_by h (Arrival conn channel raw reply)) n d)) None) (deliveries-old n apart)
        ∙ ap (λ s. cond (names d (deliveries h n)) (Some s) None) (state-after n d)

    -- the slots of the new message wait for their first attempt
    slot-new : (n : ℕ) → n ≡ message_count h → (d : ℕ) → slot (followed_by h (Arrival conn channel raw reply)) n d ≡ fresh (deliveries_of (decided (plan_in_force h) channel raw)) d
    slot-new n same d =
        ap (λ xs. cond (names d xs) (Some (state (followed_by h (Arrival conn channel raw reply)) n d)) None) (deliveries-new n same)
        ∙ ap (λ s. cond (names d (deliveries_of (decided (plan_in_force h) channel raw))) (Some s) None) (state-after n d ∙ sound.to_come n d (omega arith))

    -- a sum over slots grows by the new slots
    total-more : (weight : ℕ → SlotState → ℕ) → total weight (followed_by h (Arrival conn channel raw reply)) ≡ total weight h + message_total weight (fresh (deliveries_of (decided (plan_in_force h) channel raw)))
    total-more weight =
        total-grown weight h (followed_by h (Arrival conn channel raw reply)) more-count (λ m below d. slot-old m (λ same. omega arith) d)
        ∙ ap (λ slots. total weight h + message_total weight slots)
        (funext (slot (followed_by h (Arrival conn channel raw reply)) (message_count h)) (fresh (deliveries_of (decided (plan_in_force h) channel raw))) (slot-new (message_count h) refl))

    -- what is owed grows by what the new slots owe
    owed-more : owed (followed_by h (Arrival conn channel raw reply)) ≡ owed h + own h channel raw
    owed-more =
        owed-after ∙ total-more (λ d. slot_owed (attempts_max (plan_in_force h) d))
        ∙ ap (λ t. owed h + t) (fresh-owed (plan_in_force h) (deliveries_of (decided (plan_in_force h) channel raw)) new-goes ∙ sym (own-is ∙ ap (committed_by_new (plan_in_force h)) adds))

    -- no attempt comes under way
    flight-more : in_flight (followed_by h (Arrival conn channel raw reply)) ≡ in_flight h
    flight-more =
        total-more (λ d state. if is_in_flight state then 1 else 0)
        ∙ ap (λ t. in_flight h + t) (fresh-in_flight (deliveries_of (decided (plan_in_force h) channel raw))) ∙ add-zero (in_flight h)

    -- what holds of the messages before and of the new one holds of all
    each : (P : List Delivery → Type 0) → ((n : ℕ) → P (deliveries h n)) → P (deliveries_of (decided (plan_in_force h) channel raw)) → (n : ℕ) → P (deliveries (followed_by h (Arrival conn channel raw reply)) n)
    each P old new n = elim (cases_eq n (message_count h)) [ inl same ↦ subst P (sym (deliveries-new n same)) new | inr apart ↦ subst P (sym (deliveries-old n apart)) (old n) ]

    -- each slot that waits has an attempt left
    within-more : (n d : ℕ) → IfSome (slot (followed_by h (Arrival conn channel raw reply)) n d) (IsWithin (attempts_max (plan_in_force h) d))
    within-more n d = elim (cases_eq n (message_count h)) [
      | inl same ↦ subst (λ o. IfSome o (IsWithin (attempts_max (plan_in_force h) d))) (sym (slot-new n same d)) (fresh-within (plan_in_force h) (deliveries_of (decided (plan_in_force h) channel raw)) d sound.plan new-lead)
      | inr apart ↦ subst (λ o. IfSome o (IsWithin (attempts_max (plan_in_force h) d))) (sym (slot-old n apart d)) (sound.attempts n d)
    ]

    -- such an arrival adds its slots, which wait
    step-more : IsNumbered (message_count h) reply → ArrivalStep h conn channel raw reply
    step-more numbered =
        step-when numbered (each AreDeliveries sound.deliveries new-goes)
        within-more (omega (arith, more-count)) owed-more flight-more

-- an arrival that may be booked next
pub arrival-step : (h : History) → IsSound h → (conn channel : ℕ) (raw : List ℕ) (reply : Told) → Arrivable h channel raw reply → ArrivalStep h conn channel raw reply
arrival-step h sound conn channel raw (told.Accepted number) may = step-more h sound conn channel raw (told.Accepted number) may refl refl (accepted-number h channel raw number may.answered)
arrival-step h sound conn channel raw told.Filtered may = step-kept h sound conn channel raw told.Filtered may refl refl tt
arrival-step h sound conn channel raw (told.Refused cause) may = step-kept h sound conn channel raw (told.Refused cause) may refl refl tt
arrival-step h sound conn channel raw (told.Repeat place) may = step-kept h sound conn channel raw (told.Repeat place) may refl refl tt
