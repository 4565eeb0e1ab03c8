-- A sum over the slots of an opening's messages is one over the arrivals that it remembers.
use Rattle.std.proofs.Common.{◌≡◌, ℕ, ◌+◌, ◌<◌, true, cond, nat_lt, List, [], ◌∷◌, map, Option, None, Some, refl, ◌∙◌, ap, arith, suc, zero}
use Rattle.std.specs.Prelude.{All, find, option_and_then, sum_by}
use Rattle.std.specs.List.{AllByRecursion, cons_option, filter_map, range_with_len}
use Rattle.std.specs.Option.{option_map, option_map_or}
use Rattle.std.proofs.lemmas.Bool.Decides.{nat_tests}
use Rattle.std.proofs.lemmas.List.Elements.{recursion_from_All}
use Rattle.std.proofs.lemmas.List.Sums.{sum_by-cons}
use Rattle.plan_text.specs.Entries.{PlanEntry}
use Rattle.judge_core.specs.Delivering.{destinations_of}
use Rattle.dest_queue.specs.declared.SlotState.{SlotState}
use Rattle.dest_queue.specs.declared.slots.Slot.{Slot}
use Rattle.dest_queue.specs.Slots.{state_at}
use Rattle.event_log.specs.declared.entry.Told.{Told}
use Rattle.event_log.specs.declared.entry.Told.TheVariants as told
use Rattle.event_log.specs.Answers.{is_kept}
use Rattle.event_log.specs.History.{Remembered, Snapshot, accepted_of, begun, names, number_told, remembered_as, slot}
use Rattle.event_log.specs.inner.History.{number_of}
use Rattle.event_log.specs.inner.Legal.{IsMemory}
use Rattle.event_log.specs.Room.{message_total, total}
use Rattle.event_log.proofs.Beginning.{find-all}
use Rattle.event_log.proofs.Following.{funext}
use Rattle.event_log.proofs.MemoryNumbers.{Climbing}
use Rattle.event_log.proofs.Recalling.{is_of}
use Rattle.event_log.proofs.Totals.{sum-alike, sum-changed}
use Rattle.book_resume.proofs.Found.{none-lower, numbered-else, numbered-own, unnumbered}
use Rattle.book_resume.proofs.SlotsBegun.{slot-named, state_in}

-- an arrival that was filtered has no slot
pub no-slots : {plan : PlanEntry} (r : Remembered) → IsMemory plan r → number_of r ≡ None → r.slots ≡ []
no-slots r memory none = empty r.slots (memory.slots ∙ ap destinations_of (memory.nowhere (filtered r.told none memory.kept)))
  where
    empty : (slots : List Slot) → map (λ s. s.destination) slots ≡ [] → slots ≡ []
    empty [] same = refl
    empty (s ∷ slots) same = absurd cc

    filtered : (t : Told) → number_told t ≡ None → is_kept t ≡ true → t ≡ told.Filtered
    filtered (told.Accepted k) is kept = absurd cc
    filtered told.Filtered is kept = refl
    filtered (told.Refused cause) is kept = absurd cc
    filtered (told.Repeat place) is kept = absurd cc

-- what is summed up is nothing where nothing is found, and nothing of an arrival without a number
module _ (g : Option Remembered → ℕ) (nothing : g None ≡ 0) where
  none-summed : (a k : ℕ) → sum_by (λ n. g None) (range_with_len a k) ≡ 0
  none-summed a zero = refl
  none-summed a (suc k) = let rest = none-summed (a + 1) k in omega (arith, nothing, sum_by-cons (λ (n : ℕ). g None) a (range_with_len (a + 1) k))

  pub sum-found : (low high : ℕ) (rs : List Remembered) → AllByRecursion (λ r. number_of r ≡ None → g (Some r) ≡ 0) rs
      → Climbing low high (filter_map number_of rs)
      → sum_by (λ n. g (find (is_of n) rs)) (range_with_len 0 high) ≡ sum_by (λ r. g (Some r)) rs
  sum-found low high [] all climb = none-summed 0 high
  sum-found low high (r ∷ rs) all climb = by (number_of r) refl climb (λ from c. sum-found from high rs all.1 c)
    where
      more : sum_by (λ r. g (Some r)) (r ∷ rs) ≡ g (Some r) + sum_by (λ r. g (Some r)) rs
      more = sum_by-cons (λ r. g (Some r)) r rs

      by : (o : Option ℕ) → number_of r ≡ o → Climbing low high (cons_option o (filter_map number_of rs))
          → ((from : ℕ) → Climbing from high (filter_map number_of rs) → sum_by (λ n. g (find (is_of n) rs)) (range_with_len 0 high) ≡ sum_by (λ r. g (Some r)) rs)
          → sum_by (λ n. g (find (is_of n) (r ∷ rs))) (range_with_len 0 high) ≡ sum_by (λ r. g (Some r)) (r ∷ rs)
      by None is climb later =
          let same = sum-alike (λ n. g (find (is_of n) rs)) (λ n. g (find (is_of n) (r ∷ rs))) 0 high
          (λ n least below. ap (λ b. g (cond b (Some r) (find (is_of n) rs))) (unnumbered n r is)) in
          let rest = later low climb in
          let none = all.0 is in
          omega (arith, same, rest, none, more)
      by (Some k) is climb later =
          let changed = sum-changed (λ n. g (find (is_of n) rs)) (λ n. g (find (is_of n) (r ∷ rs))) k
          (λ n apart. ap (λ b. g (cond b (Some r) (find (is_of n) rs))) (numbered-else n k r is apart))
          0 high (omega arith) (let below = climb.1 in omega arith) in
          let rest = later (k + 1) climb.2 in
          let here : g (find (is_of k) (r ∷ rs)) ≡ g (Some r) = ap (λ b. g (cond b (Some r) (find (is_of k) rs))) (numbered-own k r is) in
          let none : g (find (is_of k) rs) ≡ 0 = ap g (none-lower k (k + 1) high rs (omega arith) climb.2) ∙ nothing in
          omega (arith, changed, rest, here, none, more)

module _ (o : Snapshot) (memories : All (IsMemory o.plan) o.remembered) (climb : Climbing 0 o.messages (filter_map number_of o.remembered)) where
  -- the slot of a message is that which is remembered
  slot-begun : (n d : ℕ) → n < o.messages → slot (begun o) n d ≡ option_and_then (λ r. state_at d r.slots) (remembered_as o n)
  slot-begun n d below =
      let earlier : nat_lt n o.messages ≡ true = grind (arith, nat_tests) in
      rw earlier (by (remembered_as o n) refl)
    where
      by : (q : Option Remembered) → remembered_as o n ≡ q
          → cond (names d (option_map_or (λ m. m.deliveries) (option_map accepted_of q) [])) (Some (option_map_or (λ r. state_in r.slots d) q (state_in [] d))) None
          ≡ option_and_then (λ r. state_at d r.slots) q
      by None found = refl
      by (Some r) found = slot-named d r.slots r.deliveries (find-all (IsMemory o.plan) (is_of n) o.remembered r memories found).slots

  module _ (weight : ℕ → SlotState → ℕ) where
    -- what is summed up of an arrival, or of none
    abbrev weighed : Option Remembered → ℕ
    weighed q = message_total weight (λ d. option_and_then (λ r. state_at d r.slots) q)

    unnumbered-none : (rs : List Remembered) → AllByRecursion (IsMemory o.plan) rs → AllByRecursion (λ r. number_of r ≡ None → weighed (Some r) ≡ 0) rs
    unnumbered-none [] all = tt
    unnumbered-none (r ∷ rs) all = ((λ none. ap (λ slots. message_total weight (λ d. state_at d slots)) (no-slots r all.0 none)), unnumbered-none rs all.1)

    -- the sum over all slots
    pub total-begun : total weight (begun o) ≡ sum_by (λ r. message_total weight (λ d. state_at d r.slots)) o.remembered
    unfolding total
    total-begun =
        let many : o.messages + 0 ≡ o.messages = omega arith in
        ap (λ k. sum_by (λ n. message_total weight (slot (begun o) n)) (range_with_len 0 k)) many
        ∙ (sum-alike (λ n. weighed (find (is_of n) o.remembered)) (λ n. message_total weight (slot (begun o) n)) 0 o.messages
        (λ n least below. ap (message_total weight) (funext (slot (begun o) n) (λ d. option_and_then (λ r. state_at d r.slots) (remembered_as o n))
        (λ d. slot-begun n d (omega arith))))
        ∙ sum-found weighed refl 0 o.messages o.remembered
        (unnumbered-none o.remembered (recursion_from_All (IsMemory o.plan) o.remembered memories)) climb)
