-- One more delivery, as at a step of a loop over deliveries.
use Rattle.std.proofs.Common.{◌≡◌, ◌≢◌, ℕ, ◌+◌, ◌*◌, ◌<◌, ◌%◌, ◌^◌, true, ◌==◌, ◌||◌, inl, inr, List, [], ◌∷◌, ◌++◌, length, sym, ◌∙◌, ap, take, get_or, bit_or, w32}
use Rattle.std.specs.Int.{bit_at}
use Rattle.std.proofs.Math.Bool.{or-true, or-false}
use Rattle.std.proofs.lemmas.List.{map-append, map_more}
use Rattle.std.proofs.lemmas.List.Folds.{list_any_more}
use Rattle.std.proofs.lemmas.Nat.Bits.{bit_at_set_same, bit_at_set_other}
use Rattle.std.proofs.lemmas.Bool.{eq-eqb}
use Rattle.std.proofs.lemmas.Bool.Decides.{eqb_tells}
use Rattle.judge_core.specs.declared.delivery.Delivery.{Delivery}
use Rattle.judge_core.specs.Delivering.{destinations_of}
use Rattle.dest_queue.specs.declared.SlotState.TheVariants.{Waiting}
use Rattle.dest_queue.specs.inner.Slots.{new_slot}
use Rattle.dest_queue.specs.inner.SlotsBy.{slots_by}
use Rattle.event_log.specs.History.{names}

module _ (deliveries : List Delivery) (i : ℕ) (x : Delivery) (inside : i < length deliveries) (is : x ≡ get_or deliveries i x) where
  -- one more destination
  pub destinations-more : destinations_of (take (i + 1) deliveries) ≡ destinations_of (take i deliveries) ++ x.destination ∷ []
  destinations-more = map_more (λ y. y.destination) deliveries i x inside ∙ ap (λ y. destinations_of (take i deliveries) ++ y.destination ∷ []) (sym is)

  -- d is named by one of them, or by the next
  names-more : (d : ℕ) → names d (take (i + 1) deliveries) ≡ (names d (take i deliveries) || (x.destination == d))
  names-more d = list_any_more (λ y. y.destination == d) deliveries i x inside ∙ ap (λ y. names d (take i deliveries) || (y.destination == d)) (sym is)

  -- the next names its destination
  names-here : (d : ℕ) → d ≡ x.destination → names d (take (i + 1) deliveries) ≡ true
  names-here d e = names-more d ∙ (ap (λ b. names d (take i deliveries) || b) (eq-eqb x.destination d (sym e)) ∙ or-true (names d (take i deliveries)))

  -- and no other
  names-elsewhere : (d : ℕ) → d ≢ x.destination → names d (take (i + 1) deliveries) ≡ names d (take i deliveries)
  names-elsewhere d differs = elim (eqb_tells x.destination d) [
    | inl w ↦ absurd (differs (sym w.1))
    | inr w ↦ names-more d ∙ (ap (λ b. names d (take i deliveries) || b) w.0 ∙ or-false (names d (take i deliveries)))
  ]

  -- a mask gains its bit
  pub mask-more : (mask : ℕ) → x.destination < 32 → ((d : ℕ) → d < 32 → (bit_at mask d == 1) ≡ names d (take i deliveries))
      → (d : ℕ) → d < 32 → (bit_at (bit_or mask (1 * 2 ^ x.destination % 2 ^ 32)) d == 1) ≡ names d (take (i + 1) deliveries)
  mask-more mask within so_far d below = elim (eqb_tells d x.destination) [
    | inl w ↦
        ap (λ k. bit_at (bit_or mask (1 * 2 ^ x.destination % 2 ^ 32)) k == 1) w.1
        ∙ (ap (λ b. b == 1) (bit_at_set_same w32 mask x.destination within) ∙ sym (names-here d w.1))
    | inr w ↦ ap (λ b. b == 1) (bit_at_set_other w32 mask x.destination within d w.1) ∙ (so_far d below ∙ sym (names-elsewhere d w.1))
  ]

  -- slots that wait gain one that waits
  pub slots-more : slots_by (λ _. Waiting 0 0) (destinations_of (take (i + 1) deliveries)) ≡ slots_by (λ _. Waiting 0 0) (destinations_of (take i deliveries)) ++ new_slot x.destination ∷ []
  slots-more = ap (slots_by (λ _. Waiting 0 0)) destinations-more ∙ map-append new_slot (destinations_of (take i deliveries)) (x.destination ∷ [])
