-- What an entry that may be booked next leaves sound, and the room that it needs.
use Rattle.std.proofs.Common.{◌≡◌, ℕ, ◌+◌, ◌≤◌, List, [], ◌∷◌, length, take, None, Some, Ok, refl, sym, ap, subst, arith, suc, zero, length-append}
use Rattle.std.specs.Prelude.{slice_get}
use Rattle.dest_queue.specs.declared.SlotState.{SlotState}
use Rattle.dest_queue.specs.declared.Outcome.{Outcome}
use Rattle.event_log.specs.declared.entry.Ticket.{Ticket}
use Rattle.event_log.specs.declared.entry.Entry.{Entry}
use Rattle.event_log.specs.declared.entry.Entry.TheVariants.{Arrival, Take, Settle, Cancel, Deploy}
use Rattle.event_log.specs.History.{History, followed_by, next_place}
use Rattle.event_log.specs.Answers.{cancel_answer, settle_answer, take_answer}
use Rattle.event_log.specs.Legal.{IsLegal, MayFollow}
use Rattle.event_log.specs.inner.Legal.{IsGoodOpening, IsSound}
use Rattle.event_log.specs.Room.{owed}
use Rattle.event_log.proofs.Arriving.{arrival-step}
use Rattle.event_log.proofs.Cancelling.{cancel-owes, cancel-step}
use Rattle.event_log.proofs.Deploying.{deploy-step}
use Rattle.event_log.proofs.Following.{follows-since, take-whole}
use Rattle.event_log.proofs.Beginning.{begun-sound}
use Rattle.event_log.proofs.Replaying.{take-more}
use Rattle.event_log.proofs.Settling.{settle-less, settle-step}
use Rattle.event_log.proofs.Events.{arrivable, deployable}
use Rattle.event_log.proofs.Taking.{take-step}

-- a sound history stays sound with an entry that may follow
pub sound-followed_by : (h : History) (e : Entry) → IsSound h → MayFollow h e → IsSound (followed_by h e)
sound-followed_by h (Arrival conn channel raw reply) sound may = (arrival-step h sound conn channel raw reply (arrivable h conn channel raw reply may)).sound
sound-followed_by h (Take ticket now) sound may = (take-step h sound ticket.destination now ticket may.replied).1.sound
sound-followed_by h (Settle outcome ticket now state) sound may = (settle-step h sound ticket outcome now state may.replied).sound
sound-followed_by h (Cancel number among mask) sound may = (cancel-step h sound number among mask may.replied).sound
sound-followed_by h (Deploy plan) sound may = (deploy-step h sound plan (deployable h plan may)).sound

-- the first items, where there is no other
pub take-past : {A : Type 0} (xs : List A) (k : ℕ) → slice_get xs k ≡ None → take (suc k) xs ≡ take k xs
take-past [] zero none = refl
take-past [] (suc k) none = refl
take-past (y ∷ xs) zero none = absurd cc
take-past (y ∷ xs) (suc k) none = ap (λ zs. y ∷ zs) (take-past xs k none)

-- the history with its first entries alone
abbrev first : History → ℕ → History
first h k = record { opening = h.opening; entries = take k h.entries }

-- a legal history is sound as far as it was booked
pub sound-before : (h : History) → IsGoodOpening h.opening → IsLegal h → (k : ℕ) → IsSound (first h k)
sound-before h good legal zero = begun-sound h.opening good
sound-before h good legal (suc k) =
    let earlier = sound-before h good legal k in
    elim (slice_get h.entries k) as (λ o. slice_get h.entries k ≡ o → IsSound (first h (suc k))) [
      | None ↦ λ none. subst (λ es. IsSound (record { opening = h.opening; entries = es })) (sym (take-past h.entries k none)) earlier
      | Some e ↦ λ got. subst (λ es. IsSound (record { opening = h.opening; entries = es })) (sym (take-more h.entries k e got)) (sound-followed_by (first h k) e earlier (follows-since h legal k e got))
    ] refl

-- a legal history is sound
pub sound-legal : (h : History) → IsGoodOpening h.opening → IsLegal h → IsSound h
sound-legal h good legal = subst (λ es. IsSound (record { opening = h.opening; entries = es })) (take-whole h.entries) (sound-before h good legal (length h.entries))

-- the next place is one later
next-more : (h : History) (e : Entry) → next_place (followed_by h e) ≡ next_place h + 1
next-more h e = omega (arith, length-append h.entries (e ∷ []))

-- one more entry, of which at least one was owed
fits : (count more before after : ℕ) → more ≡ count + 1 → after + 1 ≤ before → more + after ≤ count + before
fits count more before after longer less = omega arith

-- a take uses one entry that was owed
pub take-fits : (h : History) (d now : ℕ) (ticket : Ticket) → IsSound h → take_answer h d now ≡ Ok ticket → next_place (followed_by h (Take ticket now)) + owed (followed_by h (Take ticket now)) ≤ next_place h + owed h
take-fits h d now ticket sound is =
    let step = (take-step h sound d now ticket is).1 in
    fits (next_place h) (next_place (followed_by h (Take ticket now))) (owed h) (owed (followed_by h (Take ticket now))) (next-more h (Take ticket now)) (omega (arith, step.owed))

-- so does a settlement
pub settle-fits : (h : History) (ticket : Ticket) (outcome : Outcome) (now : ℕ) (state : SlotState) → IsSound h → settle_answer h ticket outcome now ≡ Ok state
    → next_place (followed_by h (Settle outcome ticket now state)) + owed (followed_by h (Settle outcome ticket now state)) ≤ next_place h + owed h
settle-fits h ticket outcome now state sound is =
    let step = settle-step h sound ticket outcome now state is in
    let less = settle-less h ticket outcome now state sound is in
    fits (next_place h) (next_place (followed_by h (Settle outcome ticket now state))) (owed h) (owed (followed_by h (Settle outcome ticket now state)))
    (next-more h (Settle outcome ticket now state)) (omega (arith, step.owed, less))

-- and a cancellation
pub cancel-fits : (h : History) (number among mask : ℕ) → IsSound h → cancel_answer h number among ≡ Ok mask → next_place (followed_by h (Cancel number among mask)) + owed (followed_by h (Cancel number among mask)) ≤ next_place h + owed h
cancel-fits h number among mask sound is =
    let step = cancel-step h sound number among mask is in
    let some = cancel-owes h sound number among mask is in
    fits (next_place h) (next_place (followed_by h (Cancel number among mask))) (owed h) (owed (followed_by h (Cancel number among mask))) (next-more h (Cancel number among mask)) (omega (arith, step.owed, some))
