-- Histories that are alike stay alike with each event that they answer, and with every list of events.
use Rattle.std.proofs.Common.{◌≡◌, ◌≢◌, ℕ, ◌+◌, ◌<◌, inl, inr, Bool, true, false, cond, ◌==◌, ◌&&◌, nat_lt, List, [], ◌∷◌, length, Option, None, Some, Result, Ok, Err, refl, sym, ◌∙◌, ap, subst, arith}
use Rattle.std.specs.Prelude.{find, is_some}
use Rattle.std.specs.List.{AllByRecursion, position_or_len}
use Rattle.std.specs.Option.{option_map, option_map_or}
use Rattle.std.specs.Int.{bit_at}
use Rattle.std.proofs.lemmas.Bool.Decides.{eqb_tells, nat_tests}
use Rattle.std.proofs.lemmas.List.Elements.{recursion_from_All}
use Rattle.dest_queue.specs.declared.SlotState.{SlotState}
use Rattle.dest_queue.specs.declared.SlotState.TheVariants.{Waiting, InFlight, Delivered, Failed}
use Rattle.dest_queue.specs.declared.FailCause.TheVariants.{Cancelled}
use Rattle.dest_queue.specs.declared.Outcome.{Outcome}
use Rattle.dest_queue.specs.States.{is_live, slot_answer}
use Rattle.event_log.specs.declared.entry.Entry.{Entry}
use Rattle.event_log.specs.declared.entry.Entry.TheVariants.{Arrival, Take, Settle, Cancel, Deploy}
use Rattle.event_log.specs.declared.entry.Ticket.{Ticket}
use Rattle.event_log.specs.declared.refusal.CancelRefusal.TheVariants.{NoSuchMessage, NothingWaiting}
use Rattle.event_log.specs.History.{History, Remembered, followed_by, is_for, is_queued, message_at, next_place, plan_in_force, slot, state_by}
use Rattle.event_log.specs.Alike.{AllReplyAlike, AreMet, Aside, IsAlike, IsMet}
use Rattle.event_log.specs.Answers.{attempts_max, cancel_answer, has_key, interval, keeps, known, known_before, mask_where, settle_answer, take_answer, waits_among}
use Rattle.event_log.specs.inner.Legal.{IsSound}
use Rattle.event_log.specs.Event as event
use Rattle.event_log.specs.Event.{Event, Refusal, Reply, after, entry_of, next, run}
use Rattle.event_log.proofs.AnsweringAlike.{answers-alike, front-outside, taken}
use Rattle.event_log.proofs.Reading.{front-exists, front-lives, message-exists, slot-exists}
use Rattle.event_log.proofs.StayingAlike.{Moves, Orderly, added-alike, moved-alike}

-- ---- what is sound is orderly

-- an arrival that is found stands where all do
pub found-within : (key : List ℕ) (opened : ℕ) (rs : List Remembered) (place : ℕ) → AllByRecursion (λ r. r.place < opened) rs → option_map (λ r. r.place) (find (has_key key) rs) ≡ Some place → place < opened
found-within key opened [] place within is = absurd cc
found-within key opened (r ∷ rs) place within is = by (has_key key r) (λ e. found-within key opened rs place within.1 e) is
  where
    by : (b : Bool) → (option_map (λ r. r.place) (find (has_key key) rs) ≡ Some place → place < opened) → option_map (λ r. r.place) (cond b (Some r) (find (has_key key) rs)) ≡ Some place → place < opened
    by true rest is = let same : r.place ≡ place = cc in let first = within.0 in omega arith
    by false rest is = rest is

-- a key is known at a place before the next
pub known-inside : (h : History) → AllByRecursion (λ r. r.place < h.opening.places) h.opening.remembered → (key : List ℕ) (place : ℕ) → known h key ≡ Some place → place < next_place h
known-inside h within key place is = by (known_before h.opening key) (position_or_len (keeps key) h.entries) refl is
  where
    at : (b : Bool) (q : ℕ) → nat_lt q (length h.entries) ≡ b → option_map (λ k. h.opening.places + k) (cond b (Some q) None) ≡ Some place → place < next_place h
    at true q inside is = let same : h.opening.places + q ≡ place = cc in let low : q < length h.entries = grind (arith, nat_tests) in omega arith
    at false q inside is = absurd cc

    by : (o : Option ℕ) (q : ℕ) → known_before h.opening key ≡ o → option_map_or (λ p. Some p) o (option_map (λ k. h.opening.places + k) (cond (nat_lt q (length h.entries)) (Some q) None)) ≡ Some place
        → place < next_place h
    by (Some p) q was is = let low = found-within key h.opening.places h.opening.remembered p within was in let same : p ≡ place = cc in omega arith
    by None q was is = at (nat_lt q (length h.entries)) q refl is

pub sound-orderly : (h : History) → IsSound h → Orderly h
sound-orderly h sound =
    let within = recursion_from_All (λ r. r.place < h.opening.places) h.opening.remembered sound.opening.places_within in
    record { places = within; inside = known-inside h within; to_come = sound.to_come }

-- ---- the entry of an answer

-- the attempt that was settled
settled-flew : (o : Option SlotState) (outcome : Outcome) (attempt now max interval : ℕ) (s : SlotState) → slot_answer o outcome attempt now max interval ≡ Ok s → (a : ℕ) × (o ≡ Some (InFlight a))
settled-flew None outcome attempt now max interval s is = absurd cc
settled-flew (Some (InFlight a)) outcome attempt now max interval s is = (a, refl)
settled-flew (Some (Waiting a due)) outcome attempt now max interval s is = absurd cc
settled-flew (Some Delivered) outcome attempt now max interval s is = absurd cc
settled-flew (Some (Failed cause)) outcome attempt now max interval s is = absurd cc

-- a ticket is for its own message and destination alone
for-other : (n d : ℕ) (ticket : Ticket) → n ≢ ticket.number → is_for n d ticket ≡ false
for-other n d ticket apart = elim (eqb_tells ticket.number n) [ inl w ↦ absurd (apart (sym w.1)) | inr w ↦ rw w.0 refl ]

for-there : (n d : ℕ) (ticket : Ticket) → is_for n d ticket ≡ true → ticket.destination ≡ d
for-there n d ticket is = elim (eqb_tells ticket.destination d) [ inl w ↦ w.1 | inr w ↦ absurd (no (ticket.number == n) (ap (λ b. (ticket.number == n) && b) (sym w.0) ∙ is)) ]
  where
    no : (b : Bool) → (b && false) ≡ true → ⊥
    no true e = absurd cc
    no false e = absurd cc

picked : (b : Bool) (x s : SlotState) → cond b (Some x) None ≡ Some s → b ≡ true
picked true x s is = refl
picked false x s is = absurd cc

-- a message that has a live slot stands in that queue
queued-live : (h : History) (n d : ℕ) (s : SlotState) → slot h n d ≡ Some s → is_live s ≡ true → is_queued h d n ≡ true
queued-live h n d s is live = ap (λ o. option_map_or is_live o false) is ∙ live

take-moves : (aside : Aside) (h k : History) → IsAlike aside h k → (d now : ℕ) (ticket : Ticket) → take_answer h d now ≡ Ok ticket → Moves aside h (Take ticket now) ticket.number
take-moves aside h k alike d now ticket is =
    let t = taken h d now ticket is in
    let lives = front-lives h d ticket.number t.front in
    record {
      brings = λ plan. refl;
      others = λ n d' apart. ap (λ b. cond b (Some (InFlight ticket.attempt)) None) (for-other n d' ticket apart);
      exists = front-exists h d ticket.number t.front;
      apart = front-outside aside h k alike ticket.number d t.front;
      lived = λ d' s leaves live.
          let there = for-there ticket.number d' ticket (picked (is_for ticket.number d' ticket) (InFlight ticket.attempt) s leaves) in
          subst (λ x. is_queued h x ticket.number ≡ true) (sym t.there ∙ there) (queued-live h ticket.number d lives.0 lives.1 lives.2);
    }

settle-moves : (aside : Aside) (h : History) (ticket : Ticket) (outcome : Outcome) (now : ℕ) (after : SlotState) → aside.messages ticket.number ≡ false → settle_answer h ticket outcome now ≡ Ok after
    → Moves aside h (Settle outcome ticket now after) ticket.number
settle-moves aside h ticket outcome now after apart is =
    let flew = settled-flew (slot h ticket.number ticket.destination) outcome ticket.attempt now (attempts_max (plan_in_force h) ticket.destination) (interval (plan_in_force h) ticket.destination) after is in
    record {
      brings = λ plan. refl;
      others = λ n d' apart. ap (λ b. cond b (Some after) None) (for-other n d' ticket apart);
      exists = slot-exists h ticket.number ticket.destination (InFlight flew.0) flew.1;
      apart = apart;
      lived = λ d' s leaves live.
          let there = for-there ticket.number d' ticket (picked (is_for ticket.number d' ticket) after s leaves) in
          subst (λ x. is_queued h x ticket.number ≡ true) there (queued-live h ticket.number ticket.destination (InFlight flew.0) flew.1 refl);
    }

cancel-moves : (aside : Aside) (h : History) (n among mask : ℕ) → aside.messages n ≡ false → cancel_answer h n among ≡ Ok mask → Moves aside h (Cancel n among mask) n
cancel-moves aside h n among mask apart is = record {
  brings = λ plan. refl;
  others = λ m d other. elim (eqb_tells n m) [ inl w ↦ absurd (other (sym w.1)) | inr w ↦ rw w.0 refl ];
  exists = message-exists h n (by (is_some (message_at h n)) is);
  apart = apart;
  lived = λ d s leaves live. failed ((n == n) && (bit_at mask d == 1)) s leaves live;
}
  where
    by : (b : Bool) → cond b (cond (mask_where (waits_among h n among) == 0) (Err NothingWaiting) (Ok (mask_where (waits_among h n among)))) (Err NoSuchMessage) ≡ Ok mask → b ≡ true
    by true e = refl
    by false e = absurd cc

    failed : {A : Type 0} → (b : Bool) (s : SlotState) → cond b (Some (Failed Cancelled)) None ≡ Some s → is_live s ≡ true → A
    failed true s leaves live = let same : Failed Cancelled ≡ s = cc in let no : is_live s ≡ false = ap is_live (sym same) in absurd cc
    failed false s leaves live = absurd cc

-- ---- one event

-- two histories that are alike and orderly
pub record Both (aside : Aside) (h k : History) : Type 0 where
  pub alike : IsAlike aside h k
  pub orderly : Orderly h
  pub its_orderly : Orderly k

both : (aside : Aside) (h k : History) → IsAlike aside h k × Orderly h × Orderly k → Both aside h k
both aside h k w = record { alike = w.0; orderly = w.1; its_orderly = w.2 }

module _ (aside : Aside) (h k : History) (now_both : Both aside h k) where
  -- an event with the same reply is booked by both, or by none
  booked-both : (e : Event) → event.answer k e ≡ event.answer h e
      → ((reply : Reply e) → event.answer h e ≡ Ok reply → Both aside (followed_by h (entry_of e reply)) (followed_by k (entry_of e reply)))
      → Both aside (next h e) (next k e)
  booked-both e same books = subst (λ r. Both aside (next h e) (after k e r)) (sym same) (by (event.answer h e) refl)
    where
      by : (r : Result (Reply e) (Refusal e)) → event.answer h e ≡ r → Both aside (after h e r) (after k e r)
      by (Ok reply) is = books reply is
      by (Err refusal) is = now_both

  -- an entry that touches no slot
  added-both : (x : Entry) → ((n d : ℕ) → state_by n d x ≡ None) → Both aside (followed_by h x) (followed_by k x)
  added-both x leaves = both aside (followed_by h x) (followed_by k x) (added-alike aside h k now_both.alike now_both.orderly now_both.its_orderly x leaves)

  -- an entry that leaves slots of one message in another state
  moved-both : (x : Entry) (n : ℕ) → Moves aside h x n → Both aside (followed_by h x) (followed_by k x)
  moved-both x n moves = both aside (followed_by h x) (followed_by k x) (moved-alike aside h k now_both.alike now_both.orderly now_both.its_orderly x n moves)

  -- each event is booked by both, or by none
  pub next-both : (e : Event) → IsMet aside h k e → Both aside (next h e) (next k e)
  next-both e met = booked-both e (answers-alike aside h k now_both.alike e met).replied (books e met)
    where
      books : (e : Event) → IsMet aside h k e → (reply : Reply e) → event.answer h e ≡ Ok reply → Both aside (followed_by h (entry_of e reply)) (followed_by k (entry_of e reply))
      books (event.arrive conn channel raw) met told is = added-both (Arrival conn channel raw told) (λ n d. refl)
      books (event.take d now) met ticket is = moved-both (Take ticket now) ticket.number (take-moves aside h k now_both.alike d now ticket is)
      books (event.settle ticket outcome now) met state is = moved-both (Settle outcome ticket now state) ticket.number (settle-moves aside h ticket outcome now state met.apart is)
      books (event.cancel n among) met mask is = moved-both (Cancel n among mask) n (cancel-moves aside h n among mask met.apart is)
      books (event.deploy plan) met done is = added-both (Deploy plan) (λ n d. refl)

-- ---- every list of events

pub run-both : (aside : Aside) (h k : History) → Both aside h k → (es : List Event) → AreMet aside h k es → Both aside (run h es) (run k es)
run-both aside h k now_both [] met = now_both
run-both aside h k now_both (e ∷ es) met = run-both aside (next h e) (next k e) (next-both aside h k now_both e met.0) es met.1

pub answers-both : (aside : Aside) (h k : History) → Both aside h k → (es : List Event) → AreMet aside h k es → AllReplyAlike h k es
answers-both aside h k now_both [] met = tt
answers-both aside h k now_both (e ∷ es) met =
    let here = met.0 in
    (answers-alike aside h k now_both.alike e here, answers-both aside (next h e) (next k e) (next-both aside h k now_both e here) es met.1)

pub sound-both : (aside : Aside) (h k : History) → IsSound h → IsSound k → IsAlike aside h k → Both aside h k
sound-both aside h k sound its_sound alike = record { alike = alike; orderly = sound-orderly h sound; its_orderly = sound-orderly k its_sound }
