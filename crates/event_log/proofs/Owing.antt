-- What the new slots of a message owe is a small number.
use Rattle.std.proofs.Common.{◌≡◌, ◌≢◌, ℕ, ◌+◌, ◌*◌, ◌<◌, ◌≤◌, true, ◌==◌, inl, inr, List, [], ◌∷◌, ◌++◌, length, sym, ◌∙◌, ap, take, get_or, arith}
use Rattle.std.specs.Prelude.{All, AllPairs}
use Rattle.std.specs.List.{list_any}
use Rattle.std.proofs.lemmas.Bool.Decides.{eqb_tells, Decides-eqb}
use Rattle.std.proofs.lemmas.List.{get_or-map, length-map, map_more}
use Rattle.std.proofs.lemmas.List.Elements.{All-head, All-tail}
use Rattle.std.proofs.lemmas.List.Sums.{sum_by_push}
use Rattle.std.proofs.lemmas.Map.Made.{IsDistinct-from_AllPairs}
use Rattle.std.proofs.lemmas.Map.Steps.{length-le_from_distinct_below}
use Rattle.plan_text.specs.Entries.{PlanEntry}
use Rattle.judge_core.specs.declared.delivery.Delivery.{Delivery}
use Rattle.judge_core.specs.Delivering.{destinations_of}
use Rattle.event_log.specs.Answers.{attempts_max}
use Rattle.event_log.specs.Room.{committed_by_new}

-- destinations are apart where their deliveries are
once-apart : (deliveries : List Delivery) → AllPairs (λ x y. x.destination ≢ y.destination) deliveries → AllPairs (λ d e. d ≢ e) (destinations_of deliveries)
once-apart deliveries once i j d before inside =
    let nothing : Delivery = record { destination = d; payload = [] } in
    let high : j < length deliveries = omega (arith, length-map deliveries (λ (x : Delivery). x.destination)) in
    let low : i < length deliveries = omega arith in
    rw (get_or-map (λ (x : Delivery). x.destination) deliveries i nothing d low, get_or-map (λ (x : Delivery). x.destination) deliveries j nothing d high) (once i j nothing before high)

-- each of the destinations is one of 32
among-below : (q : ℕ) (deliveries : List Delivery) → All (λ x. x.destination < 32) deliveries → list_any (λ d. q == d) (destinations_of deliveries) ≡ true → q < 32
among-below q [] within among = absurd (cc)
among-below q (x ∷ deliveries) within among =
    let here : x.destination < 32 = All-head (λ x. x.destination < 32) x deliveries within in
    elim (eqb_tells q x.destination) [
      | inl w ↦ let same = w.1 in omega arith
      | inr w ↦ let differs = w.0 in among-below q deliveries (All-tail (λ x. x.destination < 32) x deliveries within) (rw differs at among)
    ]

-- a message goes to 32 destinations at most
pub few-deliveries : (deliveries : List Delivery) → All (λ x. x.destination < 32) deliveries → AllPairs (λ x y. x.destination ≢ y.destination) deliveries → length deliveries ≤ 32
few-deliveries deliveries within once =
    let few = length-le_from_distinct_below (destinations_of deliveries) 32 (IsDistinct-from_AllPairs Decides-eqb (destinations_of deliveries) (once-apart deliveries once)) (λ q among. among-below q deliveries within among) in
    omega (arith, length-map deliveries (λ (x : Delivery). x.destination))

-- one more delivery owes its part
pub committed_by_new-more : (plan : PlanEntry) (deliveries : List Delivery) (i : ℕ) (x : Delivery) → i < length deliveries → x ≡ get_or deliveries i x
    → committed_by_new plan (destinations_of (take (i + 1) deliveries)) ≡ committed_by_new plan (destinations_of (take i deliveries)) + (2 * attempts_max plan x.destination + 1)
committed_by_new-more plan deliveries i x inside is =
    ap (committed_by_new plan) (map_more (λ y. y.destination) deliveries i x inside ∙ ap (λ y. destinations_of (take i deliveries) ++ y.destination ∷ []) (sym is))
    ∙ sum_by_push (λ d. 2 * attempts_max plan d + 1) (destinations_of (take i deliveries)) x.destination
