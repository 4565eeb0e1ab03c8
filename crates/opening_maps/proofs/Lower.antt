-- What an opening says whose numbers are lowered, none of them below 0.
use Rattle.std.proofs.Common.{◌≡◌, ℕ, ◌+◌, ◌-◌, ◌<◌, ◌≤◌, Bool, true, false, cond, ◌==◌, nat_lt, List, [], ◌∷◌, map, Option, None, Some, refl, ◌∙◌, ap, arith}
use Rattle.std.specs.Prelude.{find, slice_get}
use Rattle.std.specs.List.{AllByRecursion, cons_option, filter_map, range_with_len}
use Rattle.std.specs.Option.{is_none, option_map, option_map_or}
use Rattle.std.proofs.lemmas.Bool.Decides.{nat_tests}
use Rattle.dest_queue.specs.declared.SlotState.{SlotState}
use Rattle.dest_queue.specs.declared.SlotState.TheVariants.{Waiting}
use Rattle.dest_queue.specs.Slots.{state_at}
use Rattle.dest_queue.specs.States.{is_waiting}
use Rattle.event_log.specs.declared.entry.Told.{Told}
use Rattle.event_log.specs.declared.entry.Told.TheVariants as told
use Rattle.event_log.specs.Counting.{destination_before, destination_counts, is_delivered, is_failed, slot_count}
use Rattle.event_log.specs.History.{Accepted, Remembered, Snapshot, accepted_of, begun, first_state, is_numbered, message_at, names, number_told, remembered_as, slot}
use Rattle.event_log.specs.Room.{is_in_flight, message_total, total}
use Rattle.event_log.specs.inner.History.{forgotten_messages, number_of}
use Rattle.opening_maps.specs.declared.rebasing.Lowered.{Lowered}
use Rattle.opening_maps.specs.inner.Rebased.{arrival_lower, opening_lower, told_lower}
use Rattle.opening_maps.proofs.Sums.{count-lower, sum-lower, sum-zeros}

-- ---- an answer

same-number : (by n k : ℕ) → by ≤ k → ((k - by) == n) ≡ (k == n + by)
same-number by n k less = grind (arith, nat_tests)

lower-number : (by n : ℕ) (t : Told) (ns : List ℕ) → AllByRecursion (λ k. by ≤ k) (cons_option (number_told t) ns)
    → (is_numbered n (told_lower by t) ≡ is_numbered (n + by) t) × AllByRecursion (λ k. by ≤ k) ns
lower-number by n (told.Accepted k) ns all = (same-number by n k all.0, all.1)
lower-number by n told.Filtered ns all = (refl, all)
lower-number by n (told.Refused cause) ns all = (refl, all)
lower-number by n (told.Repeat place) ns all = (refl, all)

no-number : (by n : ℕ) (t : Told) (ns : List ℕ) → n < by → AllByRecursion (λ k. by ≤ k) (cons_option (number_told t) ns)
    → (is_numbered n t ≡ false) × AllByRecursion (λ k. by ≤ k) ns
no-number by n (told.Accepted k) ns less all = let from = all.0 in let apart : (k == n) ≡ false = grind (arith, nat_tests) in (apart, all.1)
no-number by n told.Filtered ns less all = (refl, all)
no-number by n (told.Refused cause) ns less all = (refl, all)
no-number by n (told.Repeat place) ns less all = (refl, all)

pub lower-numbers : (by : Lowered) (rs : List Remembered) → filter_map number_of (map (arrival_lower by) rs) ≡ map (λ n. n - by.messages) (filter_map number_of rs)
lower-numbers by [] = refl
lower-numbers by (r ∷ rs) = at r.told (lower-numbers by rs)
  where
    at : (t : Told) → filter_map number_of (map (arrival_lower by) rs) ≡ map (λ n. n - by.messages) (filter_map number_of rs)
        → cons_option (number_told (told_lower by.messages t)) (filter_map number_of (map (arrival_lower by) rs))
        ≡ map (λ n. n - by.messages) (cons_option (number_told t) (filter_map number_of rs))
    at (told.Accepted k) rest = ap (λ ns. (k - by.messages) ∷ ns) rest
    at told.Filtered rest = rest
    at (told.Refused cause) rest = rest
    at (told.Repeat place) rest = rest

pub lower-places : (by : Lowered) (rs : List Remembered) → map (λ (r : Remembered). r.place) (map (arrival_lower by) rs) ≡ map (λ n. n - by.places) (map (λ (r : Remembered). r.place) rs)
lower-places by [] = refl
lower-places by (r ∷ rs) = ap (λ ks. (r.place - by.places) ∷ ks) (lower-places by rs)

-- ---- what is found

find-lower : (by : Lowered) (n : ℕ) (rs : List Remembered) → AllByRecursion (λ k. by.messages ≤ k) (filter_map number_of rs)
    → find (λ r. is_numbered n r.told) (map (arrival_lower by) rs) ≡ option_map (arrival_lower by) (find (λ r. is_numbered (n + by.messages) r.told) rs)
find-lower by n [] all = refl
find-lower by n (r ∷ rs) all =
    let its = lower-number by.messages n r.told (filter_map number_of rs) all in
    ap (λ b. cond b (Some (arrival_lower by r)) (find (λ r. is_numbered n r.told) (map (arrival_lower by) rs))) its.0
    ∙ pick (is_numbered (n + by.messages) r.told) (find-lower by n rs its.1)
  where
    pick : (b : Bool)
        → find (λ r. is_numbered n r.told) (map (arrival_lower by) rs) ≡ option_map (arrival_lower by) (find (λ r. is_numbered (n + by.messages) r.told) rs)
        → cond b (Some (arrival_lower by r)) (find (λ r. is_numbered n r.told) (map (arrival_lower by) rs))
        ≡ option_map (arrival_lower by) (cond b (Some r) (find (λ r. is_numbered (n + by.messages) r.told) rs))
    pick true rest = refl
    pick false rest = rest

none-below : (by n : ℕ) (rs : List Remembered) → n < by → AllByRecursion (λ k. by ≤ k) (filter_map number_of rs) → find (λ r. is_numbered n r.told) rs ≡ None
none-below by n [] less all = refl
none-below by n (r ∷ rs) less all =
    let its = no-number by n r.told (filter_map number_of rs) less all in
    ap (λ b. cond b (Some r) (find (λ r. is_numbered n r.told) rs)) its.0 ∙ none-below by n rs less its.1

module _ (by : Lowered) (o : Snapshot) (fits : by.messages ≤ o.messages) (from : AllByRecursion (λ k. by.messages ≤ k) (filter_map number_of o.remembered)) where
  -- ---- messages and slots

  pub message-lower : (n : ℕ) → message_at (begun (opening_lower by o)) n ≡ message_at (begun o) (n + by.messages)
  message-lower n =
      let inside : nat_lt n (o.messages - by.messages) ≡ nat_lt (n + by.messages) o.messages = grind (arith, nat_tests) in
      ap (λ m. cond (nat_lt n (o.messages - by.messages)) (option_map accepted_of m) (slice_get [] (n - (o.messages - by.messages)))) (find-lower by n o.remembered from)
      ∙ (ap (λ b. cond b (option_map accepted_of (option_map (arrival_lower by) (remembered_as o (n + by.messages)))) (slice_get [] (n - (o.messages - by.messages)))) inside
      ∙ at (nat_lt (n + by.messages) o.messages) (remembered_as o (n + by.messages)))
    where
      at : (b : Bool) (found : Option Remembered)
          → cond b (option_map accepted_of (option_map (arrival_lower by) found)) (slice_get [] (n - (o.messages - by.messages)))
          ≡ cond b (option_map accepted_of found) (slice_get [] ((n + by.messages) - o.messages))
      at true None = refl
      at true (Some r) = refl
      at false found = refl

  first-lower : (n d : ℕ) → first_state (opening_lower by o) n d ≡ first_state o (n + by.messages) d
  first-lower n d =
      ap (λ m. option_map_or (λ r. option_map_or (λ s. s) (state_at d r.slots) (Waiting 0 0)) m (Waiting 0 0)) (find-lower by n o.remembered from)
      ∙ at (remembered_as o (n + by.messages))
    where
      at : (found : Option Remembered) → option_map_or (λ r. option_map_or (λ s. s) (state_at d r.slots) (Waiting 0 0)) (option_map (arrival_lower by) found) (Waiting 0 0)
          ≡ option_map_or (λ r. option_map_or (λ s. s) (state_at d r.slots) (Waiting 0 0)) found (Waiting 0 0)
      at None = refl
      at (Some r) = refl

  pub slot-lower : (n d : ℕ) → slot (begun (opening_lower by o)) n d ≡ slot (begun o) (n + by.messages) d
  slot-lower n d = λ i. cond (names d (option_map_or (λ m. m.deliveries) (message-lower n i) [])) (Some (first-lower n d i)) None

  -- a message below those that are left is forgotten, and has no slot
  pub message-below : (n : ℕ) → n < by.messages → message_at (begun o) n ≡ None
  message-below n less =
      ap (λ m. cond (nat_lt n o.messages) (option_map accepted_of m) (slice_get [] (n - o.messages))) (none-below by.messages n o.remembered less from)
      ∙ at (nat_lt n o.messages)
    where
      at : (b : Bool) → cond b (option_map accepted_of None) (slice_get [] (n - o.messages)) ≡ None
      at true = refl
      at false = refl

  slot-below : (n d : ℕ) → n < by.messages → slot (begun o) n d ≡ None
  slot-below n d less = ap (λ m. cond (names d (option_map_or (λ (m : Accepted). m.deliveries) m [])) (Some (first_state o n d)) None) (message-below n less)

  -- ---- counts and sums

  slots-lower : (d : ℕ) (so : SlotState → Bool) → slot_count (begun (opening_lower by o)) d so ≡ slot_count (begun o) d so
  slots-lower d so =
      sum-lower (λ n. cond (option_map_or so (slot (begun o) n d) false) 1 0) (λ n. cond (option_map_or so (slot (begun (opening_lower by o)) n d) false) 1 0) by.messages o.messages fits
      (λ n less. ap (λ s. cond (option_map_or so s false) 1 0) (slot-below n d less)) (λ n. ap (λ s. cond (option_map_or so s false) 1 0) (slot-lower n d))

  pub destination-lower : (d : ℕ) → destination_counts (begun (opening_lower by o)) d ≡ destination_counts (begun o) d
  destination-lower d =
      let waiting = slots-lower d is_waiting in
      let flying = slots-lower d is_in_flight in
      let had = slots-lower d is_delivered in
      let failed = slots-lower d is_failed in
      λ i. record {
        waiting = waiting i;
        inflight = flying i;
        delivered = (destination_before (begun o) d).delivered + had i;
        failed = (destination_before (begun o) d).failed + failed i;
        attempts = (destination_counts (begun o) d).attempts;
      }

  pub total-lower : (weight : ℕ → SlotState → ℕ) → total weight (begun (opening_lower by o)) ≡ total weight (begun o)
  unfolding total
  total-lower weight =
      sum-lower (λ n. message_total weight (slot (begun o) n)) (λ n. message_total weight (slot (begun (opening_lower by o)) n)) by.messages o.messages fits
      (λ n less. (λ i. message_total weight (λ d. slot-below n d less i)) ∙ sum-zeros (range_with_len 0 32)) (λ n. λ i. message_total weight (λ d. slot-lower n d i))

  -- as many fewer messages are forgotten
  pub forgotten-lower : forgotten_messages (begun o) ≡ by.messages + forgotten_messages (begun (opening_lower by o))
  forgotten-lower =
      count-lower (λ n. is_none (message_at (begun o) n)) (λ n. is_none (message_at (begun (opening_lower by o)) n)) by.messages o.messages fits
      (λ n less. ap is_none (message-below n less)) (λ n. ap is_none (message-lower n))
