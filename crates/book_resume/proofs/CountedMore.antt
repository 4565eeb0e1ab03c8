-- The counters of a destination with one more arrival.
use Rattle.std.proofs.Common.{◌≡◌, ℕ, ◌+◌, ◌<◌, Bool, false, cond, List, [], ◌∷◌, ◌++◌, length, get_or, map, take, Option, None, Some, refl, sym, ◌∙◌, ap, arith}
use Rattle.std.specs.List.{range_with_len}
use Rattle.std.specs.Option.{option_map_or}
use Rattle.std.proofs.lemmas.List.{map-append}
use Rattle.std.proofs.lemmas.List.Sums.{sum_by_more}
use Rattle.dest_queue.specs.declared.SlotState.{SlotState}
use Rattle.dest_queue.specs.declared.SlotState.TheVariants.{Waiting, InFlight, Delivered, Failed}
use Rattle.dest_queue.specs.Slots.{state_at}
use Rattle.dest_queue.specs.States.{is_waiting}
use Rattle.stat_count.specs.declared.DestinationCounts.{DestinationCounts}
use Rattle.event_log.specs.Counting.{is_delivered, is_failed}
use Rattle.event_log.specs.History.{Remembered}
use Rattle.event_log.specs.Room.{is_in_flight}
use Rattle.event_log.proofs.Masks.{range-push}
use Rattle.book_core.specs.inner.Pruning.{remembered_count}
use Rattle.book_core.proofs.Counted.{counts-equal}
use Rattle.book_resume.specs.inner.Counters.{with_remembered, with_slot}

module _ (rs : List Remembered) (i : ℕ) (r : Remembered) (inside : i < length rs) (is : r ≡ get_or rs i r) (d : ℕ) (base : DestinationCounts) where
  counted : (o : Option SlotState) → state_at d r.slots ≡ o → (so : SlotState → Bool)
      → remembered_count (take (i + 1) rs) d so ≡ remembered_count (take i rs) d so + cond (option_map_or so o false) 1 0
  counted o found so =
      sum_by_more (λ (r : Remembered). cond (option_map_or so (state_at d r.slots) false) 1 0) rs i r inside
      ∙ (ap (λ (x : Remembered). remembered_count (take i rs) d so + cond (option_map_or so (state_at d x.slots) false) 1 0) (sym is)
      ∙ ap (λ q. remembered_count (take i rs) d so + cond (option_map_or so q false) 1 0) found)

  -- one that has a slot there
  pub counted-slot : (state : SlotState) → state_at d r.slots ≡ Some state
      → with_slot state (with_remembered (take i rs) d base) ≡ with_remembered (take (i + 1) rs) d base
  counted-slot state found = by state (counted (Some state) found is_waiting) (counted (Some state) found is_in_flight)
      (counted (Some state) found is_delivered) (counted (Some state) found is_failed)
    where
      by : (state : SlotState)
          → remembered_count (take (i + 1) rs) d is_waiting ≡ remembered_count (take i rs) d is_waiting + cond (is_waiting state) 1 0
          → remembered_count (take (i + 1) rs) d is_in_flight ≡ remembered_count (take i rs) d is_in_flight + cond (is_in_flight state) 1 0
          → remembered_count (take (i + 1) rs) d is_delivered ≡ remembered_count (take i rs) d is_delivered + cond (is_delivered state) 1 0
          → remembered_count (take (i + 1) rs) d is_failed ≡ remembered_count (take i rs) d is_failed + cond (is_failed state) 1 0
          → with_slot state (with_remembered (take i rs) d base) ≡ with_remembered (take (i + 1) rs) d base
      by (Waiting attempts due) waiting inflight delivered failed =
          counts-equal (with_slot (Waiting attempts due) (with_remembered (take i rs) d base)) (with_remembered (take (i + 1) rs) d base)
          (omega arith) (omega arith) (omega arith) (omega arith) refl
      by (InFlight attempt) waiting inflight delivered failed =
          counts-equal (with_slot (InFlight attempt) (with_remembered (take i rs) d base)) (with_remembered (take (i + 1) rs) d base)
          (omega arith) (omega arith) (omega arith) (omega arith) refl
      by Delivered waiting inflight delivered failed =
          counts-equal (with_slot Delivered (with_remembered (take i rs) d base)) (with_remembered (take (i + 1) rs) d base)
          (omega arith) (omega arith) (omega arith) (omega arith) refl
      by (Failed cause) waiting inflight delivered failed =
          counts-equal (with_slot (Failed cause) (with_remembered (take i rs) d base)) (with_remembered (take (i + 1) rs) d base)
          (omega arith) (omega arith) (omega arith) (omega arith) refl

  -- one that has none
  pub counted-none : state_at d r.slots ≡ None → with_remembered (take i rs) d base ≡ with_remembered (take (i + 1) rs) d base
  counted-none found =
      let waiting = counted None found is_waiting in
      let inflight = counted None found is_in_flight in
      let delivered = counted None found is_delivered in
      let failed = counted None found is_failed in
      counts-equal (with_remembered (take i rs) d base) (with_remembered (take (i + 1) rs) d base) (omega arith) (omega arith) (omega arith) (omega arith) refl

-- the counters of the destinations below d, and those of d
pub destinations-more : (f : ℕ → DestinationCounts) (d : ℕ) (sofar : List DestinationCounts) (one : DestinationCounts) (more : List DestinationCounts)
    → sofar ≡ map f (range_with_len 0 d) → one ≡ f d → more ≡ sofar ++ one ∷ [] → more ≡ map f (range_with_len 0 (d + 1))
destinations-more f d sofar one more is own added =
    added ∙ ((λ i. is i ++ own i ∷ []) ∙ sym (ap (map f) (range-push d) ∙ map-append f (range_with_len 0 d) (d ∷ [])))
