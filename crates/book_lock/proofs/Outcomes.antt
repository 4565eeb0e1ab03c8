-- What the slots of a book say of its log, entry by entry.
use Rattle.std.proofs.Common.{◌≡◌, ◌≢◌, ◌⊎◌, ℕ, zero, suc, ◌+◌, ◌<◌, ◌≤◌, ◌==◌, ◌&&◌, inl, inr, Bool, true, false, cond, List, [], ◌∷◌, ◌++◌, slice_get, Option, None, Some, refl, sym, ◌∙◌, ap, subst, arith}
use Rattle.std.specs.Prelude.{option_to_list}
use Rattle.std.specs.Int.{bit_at}
use Rattle.std.specs.Option.{option_map_or}
use Rattle.std.proofs.lemmas.Bool.Decides.{eqb_tells}
use Rattle.std.proofs.lemmas.List.{append-nil}
use Rattle.std.proofs.lemmas.Option.{same_Some}
use Rattle.dest_queue.specs.declared.FailCause.TheVariants.{Cancelled, Exhausted}
use Rattle.dest_queue.specs.declared.Outcome.{Outcome}
use Rattle.dest_queue.specs.declared.Outcome.TheVariants as outcomes
use Rattle.dest_queue.specs.declared.SlotState.{SlotState}
use Rattle.dest_queue.specs.declared.SlotState.TheVariants.{Waiting, InFlight, Delivered, Failed}
use Rattle.dest_queue.specs.States.{is_live, is_waiting, state_after}
use Rattle.event_log.specs.declared.entry.Entry.{Entry}
use Rattle.event_log.specs.declared.entry.Entry.TheVariants.{Arrival, Take, Settle, Cancel, Deploy}
use Rattle.event_log.specs.declared.entry.Ticket.{Ticket}
use Rattle.event_log.specs.Answers.{attempts_max, interval, waits}
use Rattle.event_log.specs.Counting.{destination_counts}
use Rattle.event_log.specs.Folding.{folded, prune_answer, pruned}
use Rattle.event_log.specs.History.{Accepted, History, accepted, accepted_by, followed_by, is_for, is_queued, message_at, message_count, names, plan_in_force, slot, state}
use Rattle.event_log.specs.Legal.{MayFollow}
use Rattle.event_log.specs.inner.Legal.{IsSound}
use Rattle.event_log.proofs.Arriving.{arrival-step}
use Rattle.event_log.proofs.Beginning.{begun-sound}
use Rattle.event_log.proofs.Cancelling.{cancel-step}
use Rattle.event_log.proofs.Deploying.{deploy-step}
use Rattle.event_log.proofs.Events.{arrivable, deployable}
use Rattle.event_log.proofs.Fitting.{sound-followed_by}
use Rattle.event_log.proofs.FoldedAlike.{message-gone, message-kept, quiet, same-count, slot-kept}
use Rattle.event_log.proofs.FoldedCounts.{folded-counts}
use Rattle.event_log.proofs.FoldedGood.{folded-good}
use Rattle.event_log.proofs.Following.{message-older, message-same, message_count-push}
use Rattle.event_log.proofs.OneMore.{lt-tells}
use Rattle.event_log.proofs.Reading.{message-beyond, slot-beyond, slot-exists, slot-state}
use Rattle.event_log.proofs.Settling.{settle-step}
use Rattle.event_log.proofs.Taking.{take-step}
use Rattle.event_log.proofs.Touching.{is_for-own}
use Rattle.book_core.proofs.ThreeSums.{were-taken}
use Rattle.book_lock.specs.declared.log_entry.LogEntry.{LogEntry}
use Rattle.book_lock.specs.declared.log_entry.LogEntry.TheVariants as log
use Rattle.book_lock.specs.Log.{IsLegalLog, Linearizes, Log, MayComeNext, SeatView, after_log, with_entry}
use Rattle.book_lock.specs.Outcomes.{IsAccountedFor, IsUnsettled, SettledAs, SettlesAt}
use Rattle.book_lock.specs.inner.Sound.{IsSoundBook}

-- ---- soundness

-- a book that is pruned stays sound
pruned_sound : (h : History) (bound : ℕ) → IsSoundBook h → prune_answer h bound ≡ None → IsSoundBook (pruned bound h)
pruned_sound h bound is may =
    let taken : (d : ℕ) → d < 32 → (destination_counts h d).inflight + (destination_counts h d).delivered ≤ (destination_counts h d).attempts = were-taken h is.sound in record {
      sound = begun-sound (folded bound h) (folded-good h is.sound bound may is.few (folded-counts h is.sound bound may is.few taken) taken);
      few = is.few;
    }

-- so does one with an entry that may come next
sound_next : (h : History) (x : LogEntry) → IsSoundBook h → MayComeNext h x → IsSoundBook (with_entry h x)
sound_next h (log.Booked e) is may = record { sound = sound-followed_by h e is.sound may; few = is.few }
sound_next h (log.Pruned before) is may = pruned_sound h before is may
sound_next h (log.Durable below) is may = is

-- ---- tests

true_or_false : (b : Bool) → (b ≡ true) ⊎ (b ≡ false)
true_or_false true = inl refl
true_or_false false = inr refl

eq_numbers : (a b : ℕ) → (a == b) ≡ true → a ≡ b
eq_numbers a b is = elim (eqb_tells a b) [ inl w ↦ w.1 | inr w ↦ let no = w.0 in absurd cc ]

both_true : (a b : Bool) → (a && b) ≡ true → (a ≡ true) × (b ≡ true)
both_true true b is = (refl, is)
both_true false b is = absurd cc

more_numbers : (n a b c : ℕ) → b ≡ a + c → n < a → n < b
more_numbers n a b c is below = omega arith

-- the ticket of an attempt to deliver message n to d
abbrev ticket_at : ℕ → ℕ → ℕ → Ticket
ticket_at n d attempt = record { number = n; destination = d; attempt = attempt }

ticket_is : (ticket : Ticket) (n d a : ℕ) → ticket.number ≡ n → ticket.destination ≡ d → ticket.attempt ≡ a → ticket ≡ ticket_at n d a
ticket_is ticket n d a number destination attempt = λ i. record { number = number i; destination = destination i; attempt = attempt i }

-- a ticket for a slot names it
for_parts : (n d : ℕ) (ticket : Ticket) → is_for n d ticket ≡ true → (ticket.number ≡ n) × (ticket.destination ≡ d)
for_parts n d ticket is =
    let both = both_true (ticket.number == n) (ticket.destination == d) is in (eq_numbers ticket.number n both.0, eq_numbers ticket.destination d both.1)

-- only the outcome Delivered leaves a slot delivered
delivered_outcome : (outcome : Outcome) (attempt now max interval : ℕ) → state_after outcome attempt now max interval ≡ Delivered → outcome ≡ outcomes.Delivered
delivered_outcome outcomes.Delivered attempt now max interval is = refl
delivered_outcome outcomes.Rejected attempt now max interval is = absurd cc
delivered_outcome outcomes.Again attempt now max interval is = absurd (by (attempt == max) is)
  where
    by : (b : Bool) → cond b (Failed Exhausted) (Waiting attempt (now + interval)) ≡ Delivered → ⊥
    by true e = cc
    by false e = cc

-- no outcome leaves a slot in flight
lands : (outcome : Outcome) (attempt now max interval b : ℕ) → state_after outcome attempt now max interval ≡ InFlight b → ⊥
lands outcomes.Delivered attempt now max interval b is = cc
lands outcomes.Rejected attempt now max interval b is = cc
lands outcomes.Again attempt now max interval b is = by (attempt == max) is
  where
    by : (c : Bool) → cond c (Failed Exhausted) (Waiting attempt (now + interval)) ≡ InFlight b → ⊥
    by true e = cc
    by false e = cc

-- a slot that waits
record IsWaiting (o : Option SlotState) : Type 0 where
  attempts : ℕ
  due : ℕ
  is : o ≡ Some (Waiting attempts due)

waits_so : (o : Option SlotState) → option_map_or is_waiting o false ≡ true → IsWaiting o
waits_so None is = absurd cc
waits_so (Some (Waiting attempts due)) is = record { attempts = attempts; due = due; is = refl }
waits_so (Some (InFlight attempt)) is = absurd cc
waits_so (Some Delivered) is = absurd cc
waits_so (Some (Failed cause)) is = absurd cc

-- ---- one slot

slot_at : (h : History) (m n e d : ℕ) → m ≡ n → e ≡ d → slot h m e ≡ slot h n d
slot_at h m n e d number destination = λ i. slot h (number i) (destination i)

-- a forgotten message has no slot
slot_none : (h : History) (n d : ℕ) → message_at h n ≡ None → slot h n d ≡ None
slot_none h n d none = λ i. cond (names d (option_map_or (λ (m : Accepted). m.deliveries) (none i) [])) (Some (state h n d)) None

-- a slot is as it was where its message and its state are
slot_still : (h k : History) (n d : ℕ) → message_at k n ≡ message_at h n → state k n d ≡ state h n d → slot k n d ≡ slot h n d
slot_still h k n d same still = λ i. cond (names d (option_map_or (λ (m : Accepted). m.deliveries) (same i) [])) (Some (still i)) None

-- a slot of which the state alone changes
slot_moved : (h k : History) (n d : ℕ) (was to : SlotState) → message_at k n ≡ message_at h n → state k n d ≡ to → slot h n d ≡ Some was → slot k n d ≡ Some to
slot_moved h k n d was to same moved there =
    (λ i. cond (names d (option_map_or (λ (m : Accepted). m.deliveries) (same i) [])) (Some (moved i)) None)
    ∙ ap (λ b. cond b (Some to) None) (slot-state h n d was there).0

-- an arrival leaves the messages before it
message_before : (h : History) (e : Entry) (o : Option Accepted) → accepted (followed_by h e) ≡ accepted h ++ option_to_list o → (n : ℕ) → n < message_count h → message_at (followed_by h e) n ≡ message_at h n
message_before h e None longer n before = message-same h (followed_by h e) refl (longer ∙ append-nil (accepted h)) n
message_before h e (Some m) longer n before = message-older h (followed_by h e) refl m longer n (λ same. omega arith)

-- a message that came stays one that came
came_next : (h : History) (x : LogEntry) → IsSound h → MayComeNext h x → (n : ℕ) → n < message_count h → n < message_count (with_entry h x)
came_next h (log.Booked e) sound may n came =
    more_numbers n (message_count h) (message_count (followed_by h e)) (option_map_or (λ m. 1) (accepted_by (plan_in_force h) e) 0) (message_count-push h e) came
came_next h (log.Pruned before) sound may n came = subst (λ c. n < c) (sym (same-count h sound before may)) came
came_next h (log.Durable below) sound may n came = came

-- one that is forgotten stays so
gone_next : (h : History) (x : LogEntry) → IsSound h → MayComeNext h x → (n : ℕ) → n < message_count h → message_at h n ≡ None → message_at (with_entry h x) n ≡ None
gone_next h (log.Booked (Arrival conn channel raw reply)) sound may n came gone =
    let e : Entry = Arrival conn channel raw reply in
    let step = arrival-step h sound conn channel raw reply (arrivable h conn channel raw reply may) in
    message_before h e (accepted_by (plan_in_force h) e) step.accepted n came ∙ gone
gone_next h (log.Booked (Take ticket now)) sound may n came gone =
    message-same h (followed_by h (Take ticket now)) refl (take-step h sound ticket.destination now ticket may.replied).1.nothing.accepted n ∙ gone
gone_next h (log.Booked (Settle outcome ticket now after)) sound may n came gone =
    message-same h (followed_by h (Settle outcome ticket now after)) refl (settle-step h sound ticket outcome now after may.replied).nothing.accepted n ∙ gone
gone_next h (log.Booked (Cancel number among mask)) sound may n came gone =
    message-same h (followed_by h (Cancel number among mask)) refl (cancel-step h sound number among mask may.replied).nothing.accepted n ∙ gone
gone_next h (log.Booked (Deploy plan)) sound may n came gone =
    message-same h (followed_by h (Deploy plan)) refl (deploy-step h sound plan (deployable h plan may)).nothing.accepted n ∙ gone
gone_next h (log.Pruned before) sound may n came gone = elim (lt-tells n before) [
  | inl w ↦ message-gone h sound before may n w.1
  | inr w ↦ message-kept h sound before may n w.1 ∙ gone
]
gone_next h (log.Durable below) sound may n came gone = gone

-- a new message waits for its first attempt
new_waits : (h : History) (x : LogEntry) → IsSound h → MayComeNext h x → (n d : ℕ) (s : SlotState) → message_count h ≤ n → slot (with_entry h x) n d ≡ Some s → s ≡ Waiting 0 0
new_waits h (log.Booked e) sound may n d s new there = by e may there
  where
    none : (e : Entry) → accepted (followed_by h e) ≡ accepted h → slot (followed_by h e) n d ≡ None
    none e same = slot_none (followed_by h e) n d (message-same h (followed_by h e) refl same n ∙ message-beyond h n new)

    by : (e : Entry) → MayFollow h e → slot (followed_by h e) n d ≡ Some s → s ≡ Waiting 0 0
    by (Arrival conn channel raw reply) may there =
        let step = arrival-step h sound conn channel raw reply (arrivable h conn channel raw reply may) in
        sym (slot-state (followed_by h (Arrival conn channel raw reply)) n d s there).1 ∙ (step.state n d ∙ sound.to_come n d new)
    by (Take ticket now) may there = let gone = none (Take ticket now) (take-step h sound ticket.destination now ticket may.replied).1.nothing.accepted in absurd cc
    by (Settle outcome ticket now after) may there = let gone = none (Settle outcome ticket now after) (settle-step h sound ticket outcome now after may.replied).nothing.accepted in absurd cc
    by (Cancel number among mask) may there = let gone = none (Cancel number among mask) (cancel-step h sound number among mask may.replied).nothing.accepted in absurd cc
    by (Deploy plan) may there = let gone = none (Deploy plan) (deploy-step h sound plan (deployable h plan may)).nothing.accepted in absurd cc
new_waits h (log.Pruned before) sound may n d s new there =
    let gone = slot-beyond (pruned before h) n d (subst (λ c. c ≤ n) (sym (same-count h sound before may)) new) in absurd cc
new_waits h (log.Durable below) sound may n d s new there =
    let gone = slot-beyond h n d new in absurd cc

-- What an entry makes of the slot of message n at d: nothing; its message is forgotten, which was not to be delivered to d
-- any more; an attempt is taken, or settled; or it is cancelled.
data SlotChange (h : History) (x : LogEntry) (n d : ℕ) : Type 0 where
  unmoved : slot (with_entry h x) n d ≡ slot h n d → SlotChange h x n d
  dropped : message_at (with_entry h x) n ≡ None → is_queued h d n ≡ false → SlotChange h x n d
  started : (attempts due now : ℕ) → x ≡ log.Booked (Take (ticket_at n d (attempts + 1)) now)
      → slot h n d ≡ Some (Waiting attempts due) → slot (with_entry h x) n d ≡ Some (InFlight (attempts + 1)) → SlotChange h x n d
  ended : (attempt now max interval : ℕ) (outcome : Outcome) (after : SlotState) → x ≡ log.Booked (Settle outcome (ticket_at n d attempt) now after)
      → after ≡ state_after outcome attempt now max interval → slot h n d ≡ Some (InFlight attempt) → slot (with_entry h x) n d ≡ Some after → SlotChange h x n d
  called_off : (attempts due : ℕ) → slot h n d ≡ Some (Waiting attempts due) → slot (with_entry h x) n d ≡ Some (Failed Cancelled) → SlotChange h x n d

-- each entry makes one of these of the slot of a message that came
slot_change : (h : History) (x : LogEntry) → IsSound h → MayComeNext h x → (n d : ℕ) → n < message_count h → SlotChange h x n d
slot_change h (log.Booked (Arrival conn channel raw reply)) sound may n d came =
    let e : Entry = Arrival conn channel raw reply in
    let step = arrival-step h sound conn channel raw reply (arrivable h conn channel raw reply may) in
    unmoved (slot_still h (followed_by h e) n d (message_before h e (accepted_by (plan_in_force h) e) step.accepted n came) (step.state n d))
slot_change h (log.Booked (Take ticket now)) sound may n d came =
    let k = followed_by h (Take ticket now) in
    let step = (take-step h sound ticket.destination now ticket may.replied).1 in
    let same = message-same h k refl step.nothing.accepted n in
    elim (true_or_false (is_for n d ticket)) [
      | inl is ↦
          let own = for_parts n d ticket is in
          let waited : slot h n d ≡ Some (Waiting step.attempts step.due) = sym (slot_at h ticket.number n ticket.destination d own.0 own.1) ∙ step.waited in
          let moved : state k n d ≡ InFlight (step.attempts + 1)
          = step.state n d ∙ (ap (λ b. cond b (InFlight ticket.attempt) (state h n d)) is ∙ ap (λ a. InFlight a) step.attempt) in
          started step.attempts step.due now (ap (λ (t : Ticket). log.Booked (Take t now)) (ticket_is ticket n d (step.attempts + 1) own.0 own.1 step.attempt))
          waited (slot_moved h k n d (Waiting step.attempts step.due) (InFlight (step.attempts + 1)) same moved waited)
      | inr other ↦ unmoved (slot_still h k n d same (step.state n d ∙ ap (λ b. cond b (InFlight ticket.attempt) (state h n d)) other))
    ]
slot_change h (log.Booked (Settle outcome ticket now after)) sound may n d came =
    let k = followed_by h (Settle outcome ticket now after) in
    let step = settle-step h sound ticket outcome now after may.replied in
    let same = message-same h k refl step.nothing.accepted n in
    elim (true_or_false (is_for n d ticket)) [
      | inl is ↦
          let own = for_parts n d ticket is in
          let flew : slot h n d ≡ Some (InFlight ticket.attempt) = sym (slot_at h ticket.number n ticket.destination d own.0 own.1) ∙ step.flew in
          let moved : state k n d ≡ after = step.state n d ∙ ap (λ b. cond b after (state h n d)) is in
          ended ticket.attempt now (attempts_max (plan_in_force h) ticket.destination) (interval (plan_in_force h) ticket.destination) outcome after
          (ap (λ (t : Ticket). log.Booked (Settle outcome t now after)) (ticket_is ticket n d ticket.attempt own.0 own.1 refl))
          step.after_is flew (slot_moved h k n d (InFlight ticket.attempt) after same moved flew)
      | inr other ↦ unmoved (slot_still h k n d same (step.state n d ∙ ap (λ b. cond b after (state h n d)) other))
    ]
slot_change h (log.Booked (Cancel number among mask)) sound may n d came =
    let k = followed_by h (Cancel number among mask) in
    let step = cancel-step h sound number among mask may.replied in
    let same = message-same h k refl step.nothing.accepted n in
    elim (true_or_false ((number == n) && (bit_at mask d == 1))) [
      | inl is ↦
          let both = both_true (number == n) (bit_at mask d == 1) is in
          let here : waits h number d ≡ waits h n d = ap (λ m. waits h m d) (eq_numbers number n both.0) in
          let waited = both_true (bit_at among d == 1) (waits h number d) (sym (step.bits d) ∙ both.1) in
          let waiting = waits_so (slot h n d) (sym here ∙ waited.1) in
          let moved : state k n d ≡ Failed Cancelled = step.state n d ∙ ap (λ b. cond b (Failed Cancelled) (state h n d)) is in
          called_off waiting.attempts waiting.due waiting.is (slot_moved h k n d (Waiting waiting.attempts waiting.due) (Failed Cancelled) same moved waiting.is)
      | inr other ↦ unmoved (slot_still h k n d same (step.state n d ∙ ap (λ b. cond b (Failed Cancelled) (state h n d)) other))
    ]
slot_change h (log.Booked (Deploy plan)) sound may n d came =
    let k = followed_by h (Deploy plan) in
    let step = deploy-step h sound plan (deployable h plan may) in
    unmoved (slot_still h k n d (message-same h k refl step.nothing.accepted n) (step.state n d))
slot_change h (log.Pruned before) sound may n d came = elim (lt-tells n before) [
  | inl w ↦ dropped (message-gone h sound before may n w.1) (quiet h sound before may n d w.1)
  | inr w ↦ unmoved (slot-kept h sound before may n d w.1)
]
slot_change h (log.Durable below) sound may n d came = unmoved refl

-- ---- one entry

-- an entry that settles an attempt for message n at d as delivered
record IsDelivery (n d : ℕ) (x : LogEntry) : Type 0 where
  attempt : ℕ
  now : ℕ
  after : SlotState
  is : x ≡ log.Booked (Settle outcomes.Delivered (ticket_at n d attempt) now after)

-- a slot that is delivered after an entry was so before it, or the entry settles it so
delivered_by : (h : History) (x : LogEntry) → IsSound h → MayComeNext h x → (n d : ℕ) → slot (with_entry h x) n d ≡ Some Delivered → (slot h n d ≡ Some Delivered) ⊎ IsDelivery n d x
delivered_by h x sound may n d there = elim (lt-tells n (message_count h)) [
  | inl w ↦ by (slot_change h x sound may n d w.1)
  | inr w ↦ let new : Delivered ≡ Waiting 0 0 = new_waits h x sound may n d Delivered w.1 there in absurd cc
]
  where
    by : SlotChange h x n d → (slot h n d ≡ Some Delivered) ⊎ IsDelivery n d x
    by (unmoved same) = inl (sym same ∙ there)
    by (dropped gone quiet) = let none = slot_none (with_entry h x) n d gone in absurd cc
    by (started attempts due now is waited then) = absurd cc
    by (ended attempt now max interval outcome after is after_is flew then) =
        let so : after ≡ Delivered = same_Some after Delivered (sym then ∙ there) in
        inr (record {
          attempt = attempt;
          now = now;
          after = after;
          is = is ∙ ap (λ (o : Outcome). log.Booked (Settle o (ticket_at n d attempt) now after)) (delivered_outcome outcome attempt now max interval (sym after_is ∙ so));
        })
    by (called_off attempts due waited then) = absurd cc

-- a slot in flight stays so with an entry that doesn't settle its ticket
flies_on : (h : History) (x : LogEntry) → IsSound h → MayComeNext h x → (n d a : ℕ) → slot h n d ≡ Some (InFlight a)
    → ((now : ℕ) (outcome : Outcome) (after : SlotState) → x ≢ log.Booked (Settle outcome (ticket_at n d a) now after)) → slot (with_entry h x) n d ≡ Some (InFlight a)
flies_on h x sound may n d a flies other = by (slot_change h x sound may n d (slot-exists h n d (InFlight a) flies))
  where
    by : SlotChange h x n d → slot (with_entry h x) n d ≡ Some (InFlight a)
    by (unmoved same) = same ∙ flies
    by (dropped gone quiet) = let live : is_queued h d n ≡ true = ap (λ o. option_map_or is_live o false) flies in absurd cc
    by (started attempts due now is waited then) = absurd cc
    by (ended attempt now max interval outcome after is after_is flew then) =
        let same : attempt ≡ a = cc in
        absurd (other now outcome after (is ∙ ap (λ b. log.Booked (Settle outcome (ticket_at n d b) now after)) same))
    by (called_off attempts due waited then) = absurd cc

-- a take leaves its slot in flight
take_flies : (h : History) (n d a now : ℕ) → IsSound h → MayFollow h (Take (ticket_at n d a) now) → slot (followed_by h (Take (ticket_at n d a) now)) n d ≡ Some (InFlight a)
take_flies h n d a now sound may =
    let k = followed_by h (Take (ticket_at n d a) now) in
    let step = (take-step h sound d now (ticket_at n d a) may.replied).1 in
    let moved : state k n d ≡ InFlight a = step.state n d ∙ ap (λ b. cond b (InFlight a) (state h n d)) (is_for-own (ticket_at n d a)) in
    slot_moved h k n d (Waiting step.attempts step.due) (InFlight a) (message-same h k refl step.nothing.accepted n) moved step.waited

-- a settlement leaves its slot as its outcome says
settle_lands : (h : History) (n d a now : ℕ) (outcome : Outcome) (after : SlotState) → IsSound h → MayFollow h (Settle outcome (ticket_at n d a) now after)
    → slot (followed_by h (Settle outcome (ticket_at n d a) now after)) n d ≡ Some (state_after outcome a now (attempts_max (plan_in_force h) d) (interval (plan_in_force h) d))
settle_lands h n d a now outcome after sound may =
    let k = followed_by h (Settle outcome (ticket_at n d a) now after) in
    let step = settle-step h sound (ticket_at n d a) outcome now after may.replied in
    let moved : state k n d ≡ after = step.state n d ∙ ap (λ b. cond b after (state h n d)) (is_for-own (ticket_at n d a)) in
    slot_moved h k n d (InFlight a) after (message-same h k refl step.nothing.accepted n) moved step.flew ∙ ap (λ s. Some s) step.after_is

-- a message that came and is forgotten
record IsGone (h : History) (n : ℕ) : Type 0 where
  came : n < message_count h
  gone : message_at h n ≡ None

-- a slot that is delivered stays so until its message is forgotten
done_on : (h : History) (x : LogEntry) → IsSound h → MayComeNext h x → (n d : ℕ) → (slot h n d ≡ Some Delivered) ⊎ IsGone h n → (slot (with_entry h x) n d ≡ Some Delivered) ⊎ IsGone (with_entry h x) n
done_on h x sound may n d (inl done) =
    let came = slot-exists h n d Delivered done in by came (slot_change h x sound may n d came)
  where
    by : n < message_count h → SlotChange h x n d → (slot (with_entry h x) n d ≡ Some Delivered) ⊎ IsGone (with_entry h x) n
    by came (unmoved same) = inl (same ∙ done)
    by came (dropped gone quiet) = inr (record { came = came_next h x sound may n came; gone = gone })
    by came (started attempts due now is waited then) = absurd cc
    by came (ended attempt now max interval outcome after is after_is flew then) = absurd cc
    by came (called_off attempts due waited then) = absurd cc
done_on h x sound may n d (inr gone) = inr (record { came = came_next h x sound may n gone.came; gone = gone_next h x sound may n gone.came gone.gone })

-- ---- the log

legal_first : (h : History) (x : ℕ × LogEntry) (xs : Log) → IsLegalLog h (x ∷ xs) → MayComeNext h x.1
legal_first h x xs legal = legal.each 0 x refl

legal_rest : (h : History) (x : ℕ × LogEntry) (xs : Log) → IsLegalLog h (x ∷ xs) → IsLegalLog (with_entry h x.1) xs
legal_rest h x xs legal = record { each = λ k y at. legal.each (suc k) y at }

-- the entry of an item
entry_is : (x : ℕ × LogEntry) (seat : ℕ) (y : LogEntry) → Some x ≡ Some (seat, y) → x.1 ≡ y
entry_is x seat y at = ap (λ (z : ℕ × LogEntry). z.1) (same_Some x (seat, y) at)

-- an item of its seat and its entry
item_is : (x : ℕ × LogEntry) (y : LogEntry) → x.1 ≡ y → Some x ≡ Some (x.0, y)
item_is x y is = ap (λ (z : LogEntry). Some (x.0, z)) is

-- a settlement in the rest of a log is one in the log, one index later
later_at : (x : ℕ × LogEntry) (xs : Log) (k : ℕ) (ticket : Ticket) (outcome : Outcome) → SettlesAt xs k ticket outcome → SettlesAt (x ∷ xs) (suc k) ticket outcome
later_at x xs k ticket outcome s = record { seat = s.seat; now = s.now; state = s.state; is = s.is }

rest_at : (x : ℕ × LogEntry) (xs : Log) (k : ℕ) (ticket : Ticket) (outcome : Outcome) → SettlesAt (x ∷ xs) (suc k) ticket outcome → SettlesAt xs k ticket outcome
rest_at x xs k ticket outcome s = record { seat = s.seat; now = s.now; state = s.state; is = s.is }

-- no entry of a log settles the ticket
abbrev NoneSettles : Log → Ticket → Type 0
NoneSettles entries ticket = (k : ℕ) (outcome : Outcome) → SettlesAt entries k ticket outcome → ⊥

none_rest : (x : ℕ × LogEntry) (xs : Log) (ticket : Ticket) → NoneSettles (x ∷ xs) ticket → NoneSettles xs ticket
none_rest x xs ticket none k outcome s = none (suc k) outcome (later_at x xs k ticket outcome s)

none_more : (x : ℕ × LogEntry) (xs : Log) (ticket : Ticket) → ((seat now : ℕ) (outcome : Outcome) (after : SlotState) → Some x ≢ Some (seat, log.Booked (Settle outcome ticket now after)))
    → NoneSettles xs ticket → NoneSettles (x ∷ xs) ticket
none_more x xs ticket apart none zero outcome s = apart s.seat s.now outcome s.state s.is
none_more x xs ticket apart none (suc k) outcome s = none k outcome (rest_at x xs k ticket outcome s)

-- a take of the rest of a log that no later entry settles
unsettled_later : (x : ℕ × LogEntry) (xs : Log) (ticket : Ticket) → IsUnsettled xs ticket → IsUnsettled (x ∷ xs) ticket
unsettled_later x xs ticket u = record { index = suc u.index; seat = u.seat; now = u.now; taken = u.taken; unsettled = none }
  where
    none : (later : ℕ) (outcome : Outcome) → suc u.index < later → SettlesAt (x ∷ xs) later ticket outcome → ⊥
    none zero outcome after s = absurd (omega arith)
    none (suc k) outcome after s = u.unsettled k outcome (omega arith) (rest_at x xs k ticket outcome s)

-- and the first of a log
unsettled_first : (x : ℕ × LogEntry) (xs : Log) (ticket : Ticket) (now : ℕ) → x.1 ≡ log.Booked (Take ticket now) → NoneSettles xs ticket → IsUnsettled (x ∷ xs) ticket
unsettled_first x xs ticket now is none = record { index = zero; seat = x.0; now = now; taken = item_is x (log.Booked (Take ticket now)) is; unsettled = after_first }
  where
    after_first : (later : ℕ) (outcome : Outcome) → zero < later → SettlesAt (x ∷ xs) later ticket outcome → ⊥
    after_first zero outcome after s = absurd (omega arith)
    after_first (suc k) outcome after s = none k outcome (rest_at x xs k ticket outcome s)

-- a slot that is delivered after a log was so before it, or a seat settled it so
delivered_log : (h : History) (entries : Log) → IsSoundBook h → IsLegalLog h entries → (n d : ℕ) → slot (after_log h entries) n d ≡ Some Delivered
    → (slot h n d ≡ Some Delivered) ⊎ SettledAs entries n d outcomes.Delivered
delivered_log h [] sound legal n d there = inl there
delivered_log h (x ∷ xs) sound legal n d there =
    let may = legal_first h x xs legal in
    rest may (delivered_log (with_entry h x.1) xs (sound_next h x.1 sound may) (legal_rest h x xs legal) n d there)
  where
    rest : MayComeNext h x.1 → (slot (with_entry h x.1) n d ≡ Some Delivered) ⊎ SettledAs xs n d outcomes.Delivered → (slot h n d ≡ Some Delivered) ⊎ SettledAs (x ∷ xs) n d outcomes.Delivered
    rest may (inr s) = inr (record {
      index = suc s.index;
      ticket = s.ticket;
      settles = later_at x xs s.index s.ticket outcomes.Delivered s.settles;
      message = s.message;
      destination = s.destination;
    })
    rest may (inl now) = elim (delivered_by h x.1 sound.sound may n d now) [
      | inl before ↦ inl before
      | inr here ↦ inr (record {
        index = zero;
        ticket = ticket_at n d here.attempt;
        settles = record { seat = x.0; now = here.now; state = here.after; is = item_is x (log.Booked (Settle outcomes.Delivered (ticket_at n d here.attempt) here.now here.after)) here.is };
        message = refl;
        destination = refl;
      })
    ]

-- a slot that is delivered stays so, through a log, until its message is forgotten
done_log : (h : History) (entries : Log) → IsSoundBook h → IsLegalLog h entries → (n d : ℕ) → (slot h n d ≡ Some Delivered) ⊎ IsGone h n → (slot (after_log h entries) n d ≡ Some Delivered) ⊎ IsGone (after_log h entries) n
done_log h [] sound legal n d done = done
done_log h (x ∷ xs) sound legal n d done =
    let may = legal_first h x xs legal in
    done_log (with_entry h x.1) xs (sound_next h x.1 sound may) (legal_rest h x xs legal) n d (done_on h x.1 sound.sound may n d done)

-- a slot that was settled as delivered is so after the log, if its message isn't forgotten
settled_log : (h : History) (entries : Log) → IsSoundBook h → IsLegalLog h entries → (k n d a seat now : ℕ) (after : SlotState)
    → slice_get entries k ≡ Some (seat, log.Booked (Settle outcomes.Delivered (ticket_at n d a) now after)) → (slot (after_log h entries) n d ≡ Some Delivered) ⊎ IsGone (after_log h entries) n
settled_log h [] sound legal k n d a seat now after at = absurd cc
settled_log h (x ∷ xs) sound legal zero n d a seat now after at =
    let may = legal_first h x xs legal in
    let is = entry_is x seat (log.Booked (Settle outcomes.Delivered (ticket_at n d a) now after)) at in
    let done = settle_lands h n d a now outcomes.Delivered after sound.sound (subst (MayComeNext h) is may) in
    done_log (with_entry h x.1) xs (sound_next h x.1 sound may) (legal_rest h x xs legal) n d
    (inl (subst (λ (y : LogEntry). slot (with_entry h y) n d ≡ Some Delivered) (sym is) done))
settled_log h (x ∷ xs) sound legal (suc k) n d a seat now after at =
    let may = legal_first h x xs legal in
    settled_log (with_entry h x.1) xs (sound_next h x.1 sound may) (legal_rest h x xs legal) k n d a seat now after at

-- a slot in flight stays so with a log that doesn't settle its ticket
flies_log : (h : History) (entries : Log) → IsSoundBook h → IsLegalLog h entries → (n d a : ℕ) → slot h n d ≡ Some (InFlight a) → NoneSettles entries (ticket_at n d a)
    → slot (after_log h entries) n d ≡ Some (InFlight a)
flies_log h [] sound legal n d a flies none = flies
flies_log h (x ∷ xs) sound legal n d a flies none =
    let may = legal_first h x xs legal in
    let one = flies_on h x.1 sound.sound may n d a flies (λ now outcome after is.
    none zero outcome (record { seat = x.0; now = now; state = after; is = item_is x (log.Booked (Settle outcome (ticket_at n d a) now after)) is })) in
    flies_log (with_entry h x.1) xs (sound_next h x.1 sound may) (legal_rest h x xs legal) n d a one (none_rest x xs (ticket_at n d a) none)

-- a ticket that was taken at an index of a log, and settled at no later one, is in flight
unsettled_log : (h : History) (entries : Log) → IsSoundBook h → IsLegalLog h entries → (k n d a seat now : ℕ) → slice_get entries k ≡ Some (seat, log.Booked (Take (ticket_at n d a) now))
    → ((later : ℕ) (outcome : Outcome) → k < later → SettlesAt entries later (ticket_at n d a) outcome → ⊥) → slot (after_log h entries) n d ≡ Some (InFlight a)
unsettled_log h [] sound legal k n d a seat now at none = absurd cc
unsettled_log h (x ∷ xs) sound legal zero n d a seat now at none =
    let may = legal_first h x xs legal in
    let is = entry_is x seat (log.Booked (Take (ticket_at n d a) now)) at in
    let flies = take_flies h n d a now sound.sound (subst (MayComeNext h) is may) in
    flies_log (with_entry h x.1) xs (sound_next h x.1 sound may) (legal_rest h x xs legal) n d a
    (subst (λ (y : LogEntry). slot (with_entry h y) n d ≡ Some (InFlight a)) (sym is) flies)
    (λ k outcome s. none (suc k) outcome (omega arith) (later_at x xs k (ticket_at n d a) outcome s))
unsettled_log h (x ∷ xs) sound legal (suc k) n d a seat now at none =
    let may = legal_first h x xs legal in
    unsettled_log (with_entry h x.1) xs (sound_next h x.1 sound may) (legal_rest h x xs legal) k n d a seat now at
    (λ j outcome after s. none (suc j) outcome (omega arith) (later_at x xs j (ticket_at n d a) outcome s))

-- a slot that is in flight after a log was so before it, and no entry settled its ticket; or it was taken and not settled
flying_log : (h : History) (entries : Log) → IsSoundBook h → IsLegalLog h entries → (n d a : ℕ) → slot (after_log h entries) n d ≡ Some (InFlight a)
    → (slot h n d ≡ Some (InFlight a)) × NoneSettles entries (ticket_at n d a) ⊎ IsUnsettled entries (ticket_at n d a)
flying_log h [] sound legal n d a there = inl (there, none)
  where
    none : NoneSettles [] (ticket_at n d a)
    none k outcome s = let is = s.is in absurd cc
flying_log h (x ∷ xs) sound legal n d a there =
    let may = legal_first h x xs legal in
    rest may (flying_log (with_entry h x.1) xs (sound_next h x.1 sound may) (legal_rest h x xs legal) n d a there)
  where
    by : MayComeNext h x.1 → slot (with_entry h x.1) n d ≡ Some (InFlight a) → NoneSettles xs (ticket_at n d a) → SlotChange h x.1 n d
        → (slot h n d ≡ Some (InFlight a)) × NoneSettles (x ∷ xs) (ticket_at n d a) ⊎ IsUnsettled (x ∷ xs) (ticket_at n d a)
    by may now none (unmoved same) = inl (sym same ∙ now, none_more x xs (ticket_at n d a) apart none)
      where
        apart : (seat moment : ℕ) (outcome : Outcome) (after : SlotState) → Some x ≢ Some (seat, log.Booked (Settle outcome (ticket_at n d a) moment after))
        apart seat moment outcome after at =
            let is = entry_is x seat (log.Booked (Settle outcome (ticket_at n d a) moment after)) at in
            let left = settle_lands h n d a moment outcome after sound.sound (subst (MayComeNext h) is may) in
            let flies = subst (λ (y : LogEntry). slot (with_entry h y) n d ≡ Some (InFlight a)) is now in
            let max = attempts_max (plan_in_force h) d in
            let wait = interval (plan_in_force h) d in
            lands outcome a moment max wait a (same_Some (state_after outcome a moment max wait) (InFlight a) (sym left ∙ flies))
    by may now none (dropped gone quiet) = let no = slot_none (with_entry h x.1) n d gone in absurd cc
    by may now none (started attempts due moment is waited then) =
        let same : attempts + 1 ≡ a = cc in
        inr (unsettled_first x xs (ticket_at n d a) moment (is ∙ ap (λ b. log.Booked (Take (ticket_at n d b) moment)) same) none)
    by may now none (ended attempt moment max wait outcome after is after_is flew then) =
        absurd (lands outcome attempt moment max wait a (sym after_is ∙ same_Some after (InFlight a) (sym then ∙ now)))
    by may now none (called_off attempts due waited then) = absurd cc

    rest : MayComeNext h x.1 → (slot (with_entry h x.1) n d ≡ Some (InFlight a)) × NoneSettles xs (ticket_at n d a) ⊎ IsUnsettled xs (ticket_at n d a)
        → (slot h n d ≡ Some (InFlight a)) × NoneSettles (x ∷ xs) (ticket_at n d a) ⊎ IsUnsettled (x ∷ xs) (ticket_at n d a)
    rest may (inr u) = inr (unsettled_later x xs (ticket_at n d a) u)
    rest may (inl now) = elim (lt-tells n (message_count h)) [
      | inl w ↦ by may now.0 now.1 (slot_change h x.1 sound.sound may n d w.1)
      | inr w ↦ let new : InFlight a ≡ Waiting 0 0 = new_waits h x.1 sound.sound may n d (InFlight a) w.1 now.0 in absurd cc
    ]

-- ---- the end

-- one history accounts for the slots of its book
pub accounted : (opening book : History) (seats : ℕ) (seen : List SeatView) → IsSoundBook opening → Linearizes opening seats seen book → IsAccountedFor opening seats seen book
accounted opening book seats seen sound l = record {
  one_history = l;
  delivered = λ n d there. delivered_log opening l.entries sound l.is_book.legal n d (ap (λ (h : History). slot h n d) (sym l.is_book.is) ∙ there);
  settled = λ n d s. forgotten n d (settled_log opening l.entries sound l.is_book.legal s.index n d s.ticket.attempt s.settles.seat s.settles.now s.settles.state (named n d s));
  in_flight = λ ticket there.
      kept ticket (flying_log opening l.entries sound l.is_book.legal ticket.number ticket.destination ticket.attempt
      (ap (λ (h : History). slot h ticket.number ticket.destination) (sym l.is_book.is) ∙ there));
  unsettled = λ ticket left.
      ap (λ (h : History). slot h ticket.number ticket.destination) l.is_book.is
      ∙ unsettled_log opening l.entries sound l.is_book.legal left.index ticket.number ticket.destination ticket.attempt left.seat left.now left.taken left.unsettled;
}
  where
    named : (n d : ℕ) (s : SettledAs l.entries n d outcomes.Delivered)
        → slice_get l.entries s.index ≡ Some (s.settles.seat, log.Booked (Settle outcomes.Delivered (ticket_at n d s.ticket.attempt) s.settles.now s.settles.state))
    named n d s = s.settles.is
        ∙ ap (λ (t : Ticket). Some (s.settles.seat, log.Booked (Settle outcomes.Delivered t s.settles.now s.settles.state))) (ticket_is s.ticket n d s.ticket.attempt s.message s.destination refl)

    forgotten : (n d : ℕ) → (slot (after_log opening l.entries) n d ≡ Some Delivered) ⊎ IsGone (after_log opening l.entries) n → (slot book n d ≡ Some Delivered) ⊎ (message_at book n ≡ None)
    forgotten n d (inl done) = inl (ap (λ (h : History). slot h n d) l.is_book.is ∙ done)
    forgotten n d (inr gone) = inr (ap (λ (h : History). message_at h n) l.is_book.is ∙ gone.gone)

    kept : (ticket : Ticket) → (slot opening ticket.number ticket.destination ≡ Some (InFlight ticket.attempt)) × NoneSettles l.entries ticket ⊎ IsUnsettled l.entries ticket
        → (slot opening ticket.number ticket.destination ≡ Some (InFlight ticket.attempt)) ⊎ IsUnsettled l.entries ticket
    kept ticket (inl was) = inl was.0
    kept ticket (inr u) = inr u

-- it is that very history
pub accounted_by : (opening book : History) (seats : ℕ) (seen : List SeatView) (sound : IsSoundBook opening) (l : Linearizes opening seats seen book) → (accounted opening book seats seen sound l).one_history ≡ l
unfolding accounted
accounted_by opening book seats seen sound l = refl
