-- What the slots of a new message owe.
use Rattle.std.proofs.Common.{◌≡◌, ◌≢◌, ℕ, ◌+◌, ◌*◌, ◌<◌, Bool, true, false, cond, ◌==◌, List, [], ◌∷◌, Option, None, Some, refl, sym, ◌∙◌, ap, arith, suc}
use Rattle.std.specs.Prelude.{All, AllPairs, sum_by, if◌then◌else◌}
use Rattle.std.specs.List.{range_with_len}
use Rattle.std.specs.Option.{option_map_or}
use Rattle.std.proofs.lemmas.Bool.Decides.{nat_tests}
use Rattle.std.proofs.lemmas.List.Elements.{All-head, All-tail}
use Rattle.std.proofs.lemmas.List.Sums.{sum_by-cons}
use Rattle.plan_text.specs.Entries.{PlanEntry}
use Rattle.judge_core.specs.declared.delivery.Delivery.{Delivery}
use Rattle.judge_core.specs.Delivering.{destinations_of}
use Rattle.judge_core.specs.inner.Delivering.{AreDeliveries}
use Rattle.dest_queue.specs.declared.SlotState.{SlotState}
use Rattle.dest_queue.specs.declared.SlotState.TheVariants.{Waiting}
use Rattle.event_log.specs.History.{names}
use Rattle.event_log.specs.Answers.{attempts_max}
use Rattle.event_log.specs.Room.{is_in_flight, message_total, committed_by_new, slot_owed}
use Rattle.event_log.proofs.Totals.{sum-alike, sum-changed}

-- the slots of a message that has just come: each waits for its first attempt
abbrev pub fresh : List Delivery → ℕ → Option SlotState
fresh deliveries d = cond (names d deliveries) (Some (Waiting 0 0)) None

-- deliveries that all go elsewhere don't name d
unnamed : (d : ℕ) (deliveries : List Delivery) → All (λ x. d ≢ x.destination) deliveries → names d deliveries ≡ false
unnamed d [] elsewhere = refl
unnamed d (x ∷ deliveries) elsewhere =
    let apart = All-head (λ x. d ≢ x.destination) x deliveries elsewhere in
    let differs : (x.destination == d) ≡ false = grind (arith, nat_tests) in
    rw differs (unnamed d deliveries (All-tail (λ x. d ≢ x.destination) x deliveries elsewhere))

-- one more delivery names its destination
names-here : (x : Delivery) (deliveries : List Delivery) → names x.destination (x ∷ deliveries) ≡ true
names-here x deliveries = let same : (x.destination == x.destination) ≡ true = grind (arith, nat_tests) in rw same refl

-- and no other
names-elsewhere : (d : ℕ) (x : Delivery) (deliveries : List Delivery) → d ≢ x.destination → names d (x ∷ deliveries) ≡ names d deliveries
names-elsewhere d x deliveries apart = let differs : (x.destination == d) ≡ false = grind (arith, nat_tests) in rw differs refl

-- the sum with one more term, where the old one was nothing
one-more : (new old was is rest sum : ℕ) → new + was ≡ old + is → was ≡ 0 → old ≡ rest → sum ≡ is + rest → new ≡ sum
one-more new old was is rest sum changed nothing before more = omega arith

-- the sum of a weight over new slots is its sum over the deliveries
fresh-total : (weight : ℕ → SlotState → ℕ) (deliveries : List Delivery) → All (λ x. x.destination < 32) deliveries → AllPairs (λ x y. x.destination ≢ y.destination) deliveries
    → sum_by (λ d. option_map_or (weight d) (fresh deliveries d) 0) (range_with_len 0 32) ≡ sum_by (λ x. weight x.destination (Waiting 0 0)) deliveries
fresh-total weight [] within once = refl
fresh-total weight (x ∷ deliveries) within once =
    let below : x.destination < 32 = All-head (λ x. x.destination < 32) x deliveries within in
    let apart : All (λ y. x.destination ≢ y.destination) deliveries = λ k d inside. once 0 (suc k) d (omega arith) (omega arith) in
    let was : option_map_or (weight x.destination) (fresh deliveries x.destination) 0 ≡ 0 = rw (unnamed x.destination deliveries apart) refl in
    let is : weight x.destination (Waiting 0 0) ≡ option_map_or (weight x.destination) (fresh (x ∷ deliveries) x.destination) 0 = ap (λ b. option_map_or (weight x.destination) (cond b (Some (Waiting 0 0)) None) 0) (sym (names-here x deliveries)) in
    one-more (sum_by (λ d. option_map_or (weight d) (fresh (x ∷ deliveries) d) 0) (range_with_len 0 32)) (sum_by (λ d. option_map_or (weight d) (fresh deliveries d) 0) (range_with_len 0 32))
    (option_map_or (weight x.destination) (fresh deliveries x.destination) 0) (option_map_or (weight x.destination) (fresh (x ∷ deliveries) x.destination) 0)
    (sum_by (λ y. weight y.destination (Waiting 0 0)) deliveries) (sum_by (λ y. weight y.destination (Waiting 0 0)) (x ∷ deliveries))
    (sum-changed (λ d. option_map_or (weight d) (fresh deliveries d) 0) (λ d. option_map_or (weight d) (fresh (x ∷ deliveries) d) 0) x.destination
    (λ d elsewhere. ap (λ b. option_map_or (weight d) (cond b (Some (Waiting 0 0)) None) 0) (names-elsewhere d x deliveries elsewhere)) 0 32 (omega arith) below)
    was
    (fresh-total weight deliveries (All-tail (λ x. x.destination < 32) x deliveries within) (λ i j d lower inside. once (suc i) (suc j) d (omega arith) (omega arith)))
    (sum_by-cons (λ y. weight y.destination (Waiting 0 0)) x deliveries ∙ ap (λ w. w + sum_by (λ y. weight y.destination (Waiting 0 0)) deliveries) is)

-- what deliveries owe, one by one, is what their destinations owe
own-owed : (plan : PlanEntry) (deliveries : List Delivery) → sum_by (λ x. slot_owed (attempts_max plan x.destination) (Waiting 0 0)) deliveries ≡ committed_by_new plan (destinations_of deliveries)
own-owed plan [] = refl
own-owed plan (x ∷ deliveries) =
    let rest = own-owed plan deliveries in
    omega (
      arith,
      rest,
      sum_by-cons (λ x. slot_owed (attempts_max plan x.destination) (Waiting 0 0)) x deliveries,
      sum_by-cons (λ d. 2 * attempts_max plan d + 1) x.destination (destinations_of deliveries),
    )

-- the slots of a new message owe what the message owes
pub fresh-owed : (plan : PlanEntry) (deliveries : List Delivery) → AreDeliveries deliveries
    → message_total (λ d. slot_owed (attempts_max plan d)) (λ d. cond (names d deliveries) (Some (Waiting 0 0)) None) ≡ committed_by_new plan (destinations_of deliveries)
fresh-owed plan deliveries good = fresh-total (λ d. slot_owed (attempts_max plan d)) deliveries good.within good.once ∙ own-owed plan deliveries

-- no attempt of a new message is under way
pub fresh-in_flight : (deliveries : List Delivery) → message_total (λ d state. if is_in_flight state then 1 else 0) (λ d. cond (names d deliveries) (Some (Waiting 0 0)) None) ≡ 0
fresh-in_flight deliveries =
    sum-alike (λ d. 0) (λ d. option_map_or (λ state. if is_in_flight state then 1 else 0) (fresh deliveries d) 0) 0 32
    (λ d low below. none (names d deliveries))
  where
    -- no new slot counts
    none : (named : Bool) → ◌≡◌ {A = ℕ} (option_map_or (λ state. if is_in_flight state then 1 else 0) (cond named (Some (Waiting 0 0)) None) 0) 0
    none true = refl
    none false = refl
