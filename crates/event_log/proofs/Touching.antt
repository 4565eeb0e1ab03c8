-- An entry that changes the state of one slot, and nothing else.
use Rattle.std.proofs.Common.{◌≡◌, ◌≢◌, ℕ, ◌+◌, ◌<◌, ◌≤◌, inl, inr, Bool, true, false, cond, List, [], ◌∷◌, ◌++◌, length, None, Some, refl, sym, ◌∙◌, ap, subst, arith, length-append}
use Rattle.std.specs.Prelude.{IfSome}
use Rattle.std.specs.Option.{option_map_or}
use Rattle.std.proofs.lemmas.Bool.{eq-eqb}
use Rattle.std.proofs.lemmas.Bool.Decides.{eqb_tells}
use Rattle.plan_text.specs.Entries.{IsPlan}
use Rattle.judge_core.specs.inner.Delivering.{AreDeliveries}
use Rattle.dest_queue.specs.declared.SlotState.{SlotState}
use Rattle.event_log.specs.declared.entry.Ticket.{Ticket}
use Rattle.event_log.specs.declared.entry.Entry.{Entry}
use Rattle.event_log.specs.History.{History, accepted, accepted_by, deliveries, deployed_by, followed_by, is_for, message_count, names, plan_in_force, slot, state, state_by}
use Rattle.event_log.specs.Answers.{attempts_max, keeps}
use Rattle.event_log.specs.Room.{message_total, owed, slot_owed, total}
use Rattle.event_log.specs.Legal.{MayFollow}
use Rattle.event_log.specs.inner.Legal.{IsSound, IsWithin}
use Rattle.event_log.proofs.Following.{accepted-kept, known-kept, legal-followed_by, message_count-same, deliveries-same, plan-kept, slot-same, state-followed_by}
use Rattle.event_log.proofs.Reading.{slot-exists, slot-inside, slot-state}
use Rattle.event_log.proofs.Steps.{BringsNothing}
use Rattle.event_log.proofs.Totals.{message-changed, total-changed}

-- an entry leaves the slot of message n at d in that state, and touches no other
pub record Touches (h : History) (e : Entry) (n d : ℕ) (was is : SlotState) : Type 0 where
  pub deploys_none : deployed_by e ≡ None
  pub brings : accepted_by (plan_in_force h) e ≡ None
  pub keeps_none : (key : List ℕ) → keeps key e ≡ false
  pub found : slot h n d ≡ Some was
  pub leaves : state_by n d e ≡ Some is
  pub others : (m k : ℕ) → (m ≡ n → k ≢ d) → state_by m k e ≡ None

-- the state that an entry for one slot leaves
pub state-picked : (b : Bool) (is was : SlotState) → option_map_or (λ s. s) (cond b (Some is) None) was ≡ cond b is was
state-picked true is was = refl
state-picked false is was = refl

-- a ticket is for its own slot
pub is_for-own : (ticket : Ticket) → is_for ticket.number ticket.destination ticket ≡ true
is_for-own ticket = rw (eq-eqb ticket.number ticket.number refl, eq-eqb ticket.destination ticket.destination refl) refl

-- a ticket is for no slot but its own
pub is_for-other : (ticket : Ticket) (m k : ℕ) → (m ≡ ticket.number → k ≢ ticket.destination) → is_for m k ticket ≡ false
is_for-other ticket m k away = elim (eqb_tells ticket.number m) [
  | inl v ↦ elim (eqb_tells ticket.destination k) [ inl w ↦ absurd (away (sym v.1) (sym w.1)) | inr w ↦ rw (v.0, w.0) refl ]
  | inr v ↦ rw v.0 refl
]

-- a sum changes by its one part that does
sums : (t t' m m' b a was is : ℕ) → t' + m ≡ t + m' → m' + b ≡ m + a → b ≡ was → a ≡ is → t' + was ≡ t + is
sums t t' m m' b a was is whole part before after = omega arith

-- the room that is left, where what is owed falls by one at least
room-kept : (held longer owes owed' before after most : ℕ) → longer ≡ held + 1 → owed' + before ≡ owes + after → after + 1 ≤ before → held + owes ≤ most → longer + owed' ≤ most
room-kept held longer owes owed' before after most one changes less room = omega arith

module _ (h : History) (e : Entry) (n d : ℕ) (was is : SlotState) (touches : Touches h e n d was is) where
  -- the plan in force is as it was
  plan : plan_in_force (followed_by h e) ≡ plan_in_force h
  plan = plan-kept h e touches.deploys_none

  -- the messages are as they were
  same : accepted (followed_by h e) ≡ accepted h
  same = accepted-kept h e touches.brings

  -- it brings no message, and no key
  pub touched-nothing : BringsNothing h e
  touched-nothing = record { accepted = same; known = λ key. known-kept h e key (touches.keeps_none key) }

  -- the slot is as the entry leaves it
  pub touched-slot : slot (followed_by h e) n d ≡ Some is
  touched-slot =
      let was_there = slot-state h n d was touches.found in
      slot-same h (followed_by h e) refl same n d
      ∙ (ap (λ b. cond b (Some (state (followed_by h e) n d)) None) was_there.0
      ∙ ap (λ s. Some s) (state-followed_by h e n d ∙ ap (λ o. option_map_or (λ s. s) o (state h n d)) touches.leaves))

  -- another slot's state is as it was
  untouched-state : (m k : ℕ) → (m ≡ n → k ≢ d) → state (followed_by h e) m k ≡ state h m k
  untouched-state m k away = state-followed_by h e m k ∙ ap (λ o. option_map_or (λ s. s) o (state h m k)) (touches.others m k away)

  -- another slot is as it was
  pub untouched-slot : (m k : ℕ) → (m ≡ n → k ≢ d) → slot (followed_by h e) m k ≡ slot h m k
  untouched-slot m k away = slot-same h (followed_by h e) refl same m k ∙ ap (λ s. cond (names k (deliveries h m)) (Some s) None) (untouched-state m k away)

  module _ (sound : IsSound h) where
    -- a sum over all slots changes by that slot
    pub touched-total : (weight : ℕ → SlotState → ℕ) → total weight (followed_by h e) + weight d was ≡ total weight h + weight d is
    touched-total weight =
        sums (total weight h) (total weight (followed_by h e)) (message_total weight (slot h n)) (message_total weight (slot (followed_by h e) n))
        (option_map_or (weight d) (slot h n d) 0) (option_map_or (weight d) (slot (followed_by h e) n d) 0) (weight d was) (weight d is)
        (total-changed weight h (followed_by h e) n (message_count-same h (followed_by h e) refl same) (slot-exists h n d was touches.found) (λ m apart k. untouched-slot m k (λ e. absurd (apart e))))
        (message-changed weight (slot h n) (slot (followed_by h e) n) d (slot-inside h sound n d was touches.found) (λ k apart. untouched-slot n k (λ _. apart)))
        (ap (λ o. option_map_or (weight d) o 0) touches.found) (ap (λ o. option_map_or (weight d) o 0) touched-slot)

    -- what is owed changes by what that slot owes
    pub touched-owed : owed (followed_by h e) + slot_owed (attempts_max (plan_in_force h) d) was ≡ owed h + slot_owed (attempts_max (plan_in_force h) d) is
    touched-owed =
        ap (λ p. total (λ k. slot_owed (attempts_max p k)) (followed_by h e) + slot_owed (attempts_max (plan_in_force h) d) was) plan
        ∙ touched-total (λ k. slot_owed (attempts_max (plan_in_force h) k))

    -- the history stays sound where the entry may follow, its state is within the plan's attempts, and owes less
    pub touched-sound : MayFollow h e → IsWithin (attempts_max (plan_in_force h) d) is
        → slot_owed (attempts_max (plan_in_force h) d) is + 1 ≤ slot_owed (attempts_max (plan_in_force h) d) was → IsSound (followed_by h e)
    touched-sound may within less = record {
      opening = sound.opening;
      plan = subst IsPlan (sym plan) sound.plan;
      legal = legal-followed_by h e sound.legal may;
      deliveries = λ m. subst AreDeliveries (sym (deliveries-same h (followed_by h e) refl same m)) (sound.deliveries m);
      attempts = λ m k. subst (λ p. IfSome (slot (followed_by h e) m k) (IsWithin (attempts_max p k))) (sym plan) (elim (eqb_tells m n) [
        | inl v ↦ elim (eqb_tells k d) [
          | inl w ↦
              let here : slot (followed_by h e) m k ≡ Some is = rw (v.1, w.1) touched-slot in
              subst (λ o. IfSome o (IsWithin (attempts_max (plan_in_force h) k))) (sym here) (subst (λ j. IsWithin (attempts_max (plan_in_force h) j) is) (sym w.1) within)
          | inr w ↦ as_before m k (λ _. w.1)
        ]
        | inr v ↦ as_before m k (λ e. absurd (v.1 e))
      ]);
      to_come = λ m k beyond.
          let later : message_count h ≤ m = rw (message_count-same h (followed_by h e) refl same) at beyond in
          let exists = slot-exists h n d was touches.found in
          untouched-state m k (λ e. absurd (passed m n (message_count h) later exists e)) ∙ sound.to_come m k later;
      room = room-kept (length h.entries) (length (h.entries ++ e ∷ [])) (owed h) (owed (followed_by h e)) (slot_owed (attempts_max (plan_in_force h) d) was)
          (slot_owed (attempts_max (plan_in_force h) d) is) h.opening.events_max (length-append h.entries (e ∷ [])) touched-owed less sound.room;
    }
      where
        as_before : (m k : ℕ) → (m ≡ n → k ≢ d) → IfSome (slot (followed_by h e) m k) (IsWithin (attempts_max (plan_in_force h) k))
        as_before m k away = subst (λ o. IfSome o (IsWithin (attempts_max (plan_in_force h) k))) (sym (untouched-slot m k away)) (sound.attempts m k)

        passed : (m n count : ℕ) → count ≤ m → n < count → m ≡ n → ⊥
        passed m n count later exists e = omega arith
