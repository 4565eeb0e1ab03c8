-- What is owed, and what is under way, of an opening's messages.
use Rattle.std.proofs.Common.{◌≡◌, ℕ, ◌+◌, true, false, cond, List, [], ◌∷◌, Some, refl, ◌∙◌, ap, arith}
use Rattle.std.specs.Prelude.{All, find, sum_by}
use Rattle.std.specs.List.{AllByRecursion, filter_map, range_with_len}
use Rattle.std.specs.Option.{option_map, option_map_or}
use Rattle.std.proofs.lemmas.List.Elements.{recursion_from_All}
use Rattle.std.proofs.lemmas.List.Sums.{sum_by-cons, sum_by_push}
use Rattle.dest_queue.specs.declared.SlotState.{SlotState}
use Rattle.dest_queue.specs.declared.slots.Slot.{Slot}
use Rattle.dest_queue.specs.Slots.{is_at, state_at}
use Rattle.event_log.specs.Answers.{attempts_max}
use Rattle.event_log.specs.History.{Remembered, Snapshot, begun}
use Rattle.event_log.specs.inner.History.{number_of}
use Rattle.event_log.specs.inner.Legal.{IsMemory}
use Rattle.event_log.specs.inner.Room.{in_flight}
use Rattle.event_log.specs.Room.{is_in_flight, message_total, owed, slot_owed}
use Rattle.event_log.proofs.Masks.{range-push}
use Rattle.event_log.proofs.MemoryNumbers.{Climbing}
use Rattle.book_resume.specs.inner.Resuming.{IsAtRest}
use Rattle.book_resume.specs.inner.Owing.{message_owed, remembered_owed}
use Rattle.book_resume.proofs.SumsBegun.{total-begun}

-- a sum of nothing
sum-zero : {A : Type 0} (f : A → ℕ) (xs : List A) → ((x : A) → f x ≡ 0) → sum_by f xs ≡ 0
sum-zero f [] none = refl
sum-zero f (x ∷ xs) none = let here = none x in let rest = sum-zero f xs none in omega (arith, sum_by-cons f x xs)

abbrev flies : SlotState → ℕ
flies s = cond (is_in_flight s) 1 0

-- none of the slots of a message is under way
still : (slots : List Slot) → AllByRecursion (λ s. is_in_flight s.state ≡ false) slots → (d : ℕ) → option_map_or flies (state_at d slots) 0 ≡ 0
still [] all d = refl
still (s ∷ slots) all d = elim (is_at d s) as (λ b. option_map_or flies (option_map (λ (x : Slot). x.state) (cond b (Some s) (find (is_at d) slots))) 0 ≡ 0)
    [ true ↦ ap (λ b. cond b 1 0) all.0 | false ↦ still slots all.1 d ]

module _ (o : Snapshot) (memories : All (IsMemory o.plan) o.remembered) (climb : Climbing 0 o.messages (filter_map number_of o.remembered)) where
  -- what is owed is what the slots owe that are remembered
  pub owed-begun : owed (begun o) ≡ remembered_owed o.plan o.remembered
  unfolding message_owed
  owed-begun = total-begun o memories climb (λ d. slot_owed (attempts_max o.plan d))

  -- and no attempt is under way
  pub in_flight-begun : All IsAtRest o.remembered → in_flight (begun o) ≡ 0
  in_flight-begun rest = total-begun o memories climb (λ d s. flies s) ∙ none o.remembered (recursion_from_All IsAtRest o.remembered rest)
    where
      none : (rs : List Remembered) → AllByRecursion IsAtRest rs → sum_by (λ r. message_total (λ d s. flies s) (λ d. state_at d r.slots)) rs ≡ 0
      none [] all = refl
      none (r ∷ rs) all =
          let here = sum-zero (λ d. option_map_or flies (state_at d r.slots) 0) (range_with_len 0 32)
          (still r.slots (recursion_from_All (λ s. is_in_flight s.state ≡ false) r.slots all.0.settled)) in
          let later = none rs all.1 in
          omega (arith, sum_by-cons (λ r. message_total (λ d s. flies s) (λ d. state_at d r.slots)) r rs)

-- a sum over the numbers below k and k
pub sum-below : (f : ℕ → ℕ) (k : ℕ) → sum_by f (range_with_len 0 (k + 1)) ≡ sum_by f (range_with_len 0 k) + f k
sum-below f k = ap (sum_by f) (range-push k) ∙ sum_by_push f (range_with_len 0 k) k
