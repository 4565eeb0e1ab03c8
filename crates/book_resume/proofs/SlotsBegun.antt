-- The slots of a message at an opening are those that are remembered.
use Rattle.std.proofs.Common.{◌≡◌, ◌≢◌, ℕ, ◌<◌, true, false, cond, ◌==◌, inl, inr, List, [], ◌∷◌, length, map, get_or, None, Some, refl, sym, ◌∙◌, ap, subst, arith, suc}
use Rattle.std.specs.Prelude.{AllPairs}
use Rattle.std.specs.List.{AllByRecursion}
use Rattle.std.specs.Option.{option_map_or}
use Rattle.std.proofs.lemmas.Bool.Decides.{eqb_tells, nat_tests}
use Rattle.judge_core.specs.declared.delivery.Delivery.{Delivery}
use Rattle.judge_core.specs.Delivering.{destinations_of}
use Rattle.dest_queue.specs.declared.SlotState.{SlotState}
use Rattle.dest_queue.specs.declared.SlotState.TheVariants.{Waiting}
use Rattle.dest_queue.specs.declared.slots.Slot.{Slot}
use Rattle.dest_queue.specs.inner.SlotsBy.{slots_by}
use Rattle.dest_queue.specs.Slots.{state_at}
use Rattle.event_log.specs.History.{names}

-- the state of a slot among those that are remembered
abbrev pub state_in : List Slot → ℕ → SlotState
state_in slots d = option_map_or (λ s. s) (state_at d slots) (Waiting 0 0)

-- no destination is named twice
abbrev Apart : List ℕ → Type 0
Apart [] = Unit {0}
Apart (d ∷ ds) = AllByRecursion (λ e. d ≢ e) ds × Apart ds

-- slots with one for each destination that is named have a state where one is named
pub slot-named : (d : ℕ) (slots : List Slot) (ds : List Delivery) → map (λ s. s.destination) slots ≡ destinations_of ds
    → cond (names d ds) (Some (state_in slots d)) None ≡ state_at d slots
slot-named d [] [] same = refl
slot-named d [] (x ∷ ds) same = absurd cc
slot-named d (s ∷ slots) [] same = absurd cc
slot-named d (s ∷ slots) (x ∷ ds) same =
    let head : s.destination ≡ x.destination = cc in
    let tail : map (λ s. s.destination) slots ≡ destinations_of ds = cc in
    elim (eqb_tells x.destination d) [
      | inl w ↦ let own : (s.destination == d) ≡ true = ap (λ (y : ℕ). y == d) head ∙ w.0 in rw (own, w.0) refl
      | inr w ↦ let other : (s.destination == d) ≡ false = ap (λ (y : ℕ). y == d) head ∙ w.0 in rw (other, w.0) (slot-named d slots ds tail)
    ]

apart-deliveries : (ds : List Delivery) → AllPairs (λ x y. x.destination ≢ y.destination) ds → Apart (destinations_of ds)
apart-deliveries [] once = tt
apart-deliveries (x ∷ ds) once = (
  others ds (λ j inside y. once 0 (suc j) y (omega arith) (omega arith)),
  apart-deliveries ds (λ i j y before inside. once (suc i) (suc j) y (omega arith) (omega arith)),
)
  where
    others : (es : List Delivery) → ((j : ℕ) → j < length es → (y : Delivery) → x.destination ≢ (get_or es j y).destination)
        → AllByRecursion (λ e. x.destination ≢ e) (destinations_of es)
    others [] each = tt
    others (e ∷ es) each = (each 0 (omega arith) e, others es (λ j inside y. each (suc j) (omega arith) y))

-- slots of which none is named twice are given by the states that they have
slots-by : (slots : List Slot) → Apart (map (λ s. s.destination) slots) → slots ≡ slots_by (state_in slots) (map (λ s. s.destination) slots)
slots-by [] apart = refl
slots-by (s ∷ slots) apart =
    let own : (s.destination == s.destination) ≡ true = grind (arith, nat_tests) in
    let first : state_in (s ∷ slots) s.destination ≡ s.state = rw own refl in
    let rest = slots-by slots apart.1 ∙ alike (map (λ x. x.destination) slots) apart.0 in
    λ i. record { destination = s.destination; state = sym first i } ∷ rest i
  where
    alike : (ds : List ℕ) → AllByRecursion (λ e. s.destination ≢ e) ds → slots_by (state_in slots) ds ≡ slots_by (state_in (s ∷ slots)) ds
    alike [] apart = refl
    alike (d ∷ ds) apart =
        let differs = apart.0 in
        let other : (s.destination == d) ≡ false = grind (arith, nat_tests) in
        let here : state_in slots d ≡ state_in (s ∷ slots) d = rw other refl in
        let rest = alike ds apart.1 in
        λ i. record { destination = d; state = here i } ∷ rest i

-- the slots of deliveries, none of which is named twice
pub slots-of : (slots : List Slot) (ds : List Delivery) → map (λ s. s.destination) slots ≡ destinations_of ds
    → AllPairs (λ x y. x.destination ≢ y.destination) ds → slots ≡ slots_by (state_in slots) (destinations_of ds)
slots-of slots ds same once =
    slots-by slots (subst Apart (sym same) (apart-deliveries ds once)) ∙ ap (slots_by (state_in slots)) same
