-- Lists of slots.
use Rattle.std.proofs.Common.{◌≡◌, ◌≢◌, ℕ, ◌+◌, ◌*◌, ◌%◌, ◌^◌, ◌<◌, ◌≤◌, Bool, true, false, cond, ◌==◌, ◌&&◌, ◌||◌, List, [], ◌∷◌, ◌++◌, length, get_or, take, drop, refl, ◌∙◌, ap, arith, suc, bit_or, w32, inl, inr, ◌⊎◌, set}
use Rattle.std.specs.Prelude.{map, All}
use Rattle.std.specs.Int.{bit_at}
use Rattle.std.proofs.lemmas.Bool.{cases_lt}
use Rattle.std.proofs.lemmas.Bool.Decides.{nat_tests}
use Rattle.std.proofs.lemmas.Grind.{common_steps}
use Rattle.std.proofs.lemmas.List.{length-map, get_or-map, get_or_default}
use Rattle.std.proofs.lemmas.List.Edits.{map_over_more}
use Rattle.std.proofs.lemmas.List.Folds.{list_any_more}
use Rattle.std.proofs.lemmas.Nat.Bits.{bit_at_ones, bit_at_set_same, bit_at_set_other}
use Rattle.dest_queue.specs.declared.slots.Slot.{Slot}
use Rattle.dest_queue.specs.declared.SlotState.{SlotState}
use Rattle.dest_queue.specs.declared.SlotState.TheVariants.{Failed}
use Rattle.dest_queue.specs.declared.FailCause.TheVariants.{Cancelled}
use Rattle.dest_queue.specs.States.{is_waiting}
use Rattle.dest_queue.specs.Slots.{is_at}
use Rattle.dest_queue.specs.inner.Slots.{with_state, waits_at, has_bit, everywhere, cancelled}

-- a change of each slot that keeps its destination keeps the bound on destinations
pub bounded-map : (change : Slot → Slot) → ((slot : Slot) → (change slot).destination ≡ slot.destination) → (slots : List Slot) → All (λ slot. slot.destination < 32) slots → All (λ slot. slot.destination < 32) (map change slots)
bounded-map change keeps slots bounded = λ k d inside.
    let within : k < length slots = omega (arith, length-map slots change) in
    let is = get_or-map change slots k d d within in
    let kept = keeps (get_or slots k d) in
    let low = bounded k d within in
    rw is (omega arith)

pub bounded-with_state : (d : ℕ) (state : SlotState) (slots : List Slot) → All (λ slot. slot.destination < 32) slots → All (λ slot. slot.destination < 32) (with_state d state slots)
bounded-with_state d state = bounded-map (λ slot. cond (is_at d slot) (record slot { state = state }) slot)
    (λ slot. elim (is_at d slot) as (λ b. (cond b (record slot { state = state }) slot).destination ≡ slot.destination) [ true ↦ refl | false ↦ refl ])

pub bounded-cancelled : (among : ℕ → Bool) (slots : List Slot) → All (λ slot. slot.destination < 32) slots → All (λ slot. slot.destination < 32) (cancelled among slots)
bounded-cancelled among = bounded-map (λ slot. cond (among slot.destination && is_waiting slot.state) (record slot { state = Failed Cancelled }) slot)
    (λ slot. elim (among slot.destination && is_waiting slot.state) as (λ b. (cond b (record slot { state = Failed Cancelled }) slot).destination ≡ slot.destination) [ true ↦ refl | false ↦ refl ])

-- a loop's step: slot i is changed in place
pub map-step : (change : Slot → Slot) (xs ys zs : List Slot) (i : ℕ) (e y : Slot) → i < length xs → ys ≡ map change (take i xs) ++ drop i xs → y ≡ change (get_or ys i e) → zs ≡ set ys i y
    → zs ≡ map change (take (i + 1) xs) ++ drop (i + 1) xs
map-step change xs ys zs i e y inside so_far changed written =
    let long : length ys ≡ length xs = (rw so_far (grind (arith, common_steps))) in
    let here : get_or ys i e ≡ get_or ys i (get_or ys i e) = get_or_default ys i e (get_or ys i e) (omega arith) in
    written ∙ rw changed (map_over_more change xs ys i (get_or ys i e) inside so_far here)

pub put-here : (d : ℕ) (state : SlotState) (slot : Slot) → slot.destination ≡ d → record slot { state = state } ≡ cond (is_at d slot) (record slot { state = state }) slot
put-here d state slot same = let hit : is_at d slot ≡ true = grind (arith, nat_tests) in rw hit refl

pub put-elsewhere : (d : ℕ) (state : SlotState) (slot : Slot) → slot.destination ≢ d → slot ≡ cond (is_at d slot) (record slot { state = state }) slot
put-elsewhere d state slot differs = let miss : is_at d slot ≡ false = grind (arith, nat_tests) in rw miss refl

-- a slot that waits at a destination that is named adds its bit
or_true : (b named waits : Bool) → (named && waits) ≡ true → true ≡ (named && (b || (true && waits)))
or_true true true true both = refl
or_true false true true both = refl
or_true b true false both = absurd cc
or_true b false waits both = absurd cc

-- and no other
or_false : (b named waits : Bool) → (named && b) ≡ (named && (b || (false && waits)))
or_false true named waits = refl
or_false false named waits = refl

-- one that doesn't wait, or at a destination that isn't named, adds none
idle_or : (b named waits : Bool) → (named && waits) ≡ false → (named && b) ≡ (named && (b || (true && waits)))
idle_or true true waits idle = refl
idle_or true false waits idle = refl
idle_or false true true idle = absurd cc
idle_or false true false idle = refl
idle_or false false waits idle = refl

pub nat_cases : (a b : ℕ) → (a ≡ b) ⊎ (a ≢ b)
nat_cases a b = elim (cases_lt a b) [
  | inl low ↦ inr (λ same. omega arith)
  | inr rest ↦ elim (cases_lt b a) [ inl high ↦ inr (λ same. omega arith) | inr equal ↦ inl (omega arith) ]
]

-- the mask of those that wait: one more slot
pub waits_at-more : (d : ℕ) (xs : List Slot) (i : ℕ) (e : Slot) → i < length xs → waits_at d (take (i + 1) xs) ≡ (waits_at d (take i xs) || (is_at d (get_or xs i e) && is_waiting (get_or xs i e).state))
waits_at-more d xs i e inside = list_any_more (λ slot. is_at d slot && is_waiting slot.state) xs i e inside

-- what the loop has not reached is as it was
pub rest-at : (change : Slot → Slot) (xs ys : List Slot) (i : ℕ) (e : Slot) → i < length xs → ys ≡ map change (take i xs) ++ drop i xs → get_or ys i e ≡ get_or xs i e
rest-at change xs ys i e inside so_far = rw so_far (grind (arith, common_steps))

pub mask-more : (among : ℕ → Bool) (mask : ℕ) (xs : List Slot) (i : ℕ) (e y : Slot) → i < length xs → y ≡ get_or xs i e → y.destination < 32 → (among y.destination && is_waiting y.state) ≡ true
    → ((d : ℕ) → (bit_at mask d == 1) ≡ (among d && waits_at d (take i xs))) → (d : ℕ) → (bit_at (bit_or mask (1 * 2 ^ y.destination % 2 ^ 32)) d == 1) ≡ (among d && waits_at d (take (i + 1) xs))
mask-more among mask xs i e y inside here within waits so_far d =
    let k : ℕ = y.destination in
    rw (waits_at-more d xs i e inside, ← here) (elim (nat_cases d k) [
      | inl same ↦ (let hit : is_at d y ≡ true = grind (arith, nat_tests) in rw (hit, same, bit_at_set_same w32 mask k within) (or_true (waits_at k (take i xs)) (among k) (is_waiting y.state) waits))
      | inr other ↦ (let miss : is_at d y ≡ false = grind (arith, nat_tests) in rw (miss, bit_at_set_other w32 mask k within d other, so_far d) (or_false (waits_at d (take i xs)) (among d) (is_waiting y.state)))
    ])

pub mask-same : (among : ℕ → Bool) (mask : ℕ) (xs : List Slot) (i : ℕ) (e y : Slot) → i < length xs → y ≡ get_or xs i e → (among y.destination && is_waiting y.state) ≡ false
    → ((d : ℕ) → (bit_at mask d == 1) ≡ (among d && waits_at d (take i xs))) → (d : ℕ) → (bit_at mask d == 1) ≡ (among d && waits_at d (take (i + 1) xs))
mask-same among mask xs i e y inside here idle so_far d =
    let k : ℕ = y.destination in
    rw (waits_at-more d xs i e inside, ← here, so_far d) (elim (nat_cases d k) [
      | inl same ↦ (let hit : is_at d y ≡ true = grind (arith, nat_tests) in rw (hit, same) (idle_or (waits_at k (take i xs)) (among k) (is_waiting y.state) idle))
      | inr other ↦ (let miss : is_at d y ≡ false = grind (arith, nat_tests) in rw miss (or_false (waits_at d (take i xs)) (among d) (is_waiting y.state)))
    ])

pub cancel-waiting : (among : ℕ → Bool) (slot : Slot) → (among slot.destination && is_waiting slot.state) ≡ true → record slot { state = Failed Cancelled } ≡ cond (among slot.destination && is_waiting slot.state) (record slot { state = Failed Cancelled }) slot
cancel-waiting among slot waits = rw waits refl

pub cancel-other : (among : ℕ → Bool) (slot : Slot) → (among slot.destination && is_waiting slot.state) ≡ false → slot ≡ cond (among slot.destination && is_waiting slot.state) (record slot { state = Failed Cancelled }) slot
cancel-other among slot idle = rw idle refl

-- a mask of all 32 destinations names each
every_bit : (d : ℕ) → d < 32 → has_bit 4294967295 d ≡ true
every_bit d below = let set = bit_at_ones 32 d below in grind (arith, nat_tests)

-- a message waits at none of its destinations past the last
waits_at-beyond : (slots : List Slot) (d : ℕ) → All (λ slot. slot.destination < 32) slots → 32 ≤ d → waits_at d slots ≡ false
waits_at-beyond [] d bounded beyond = refl
waits_at-beyond (slot ∷ slots) d bounded beyond =
    let first : slot.destination < 32 = bounded 0 slot (omega arith) in
    let miss : is_at d slot ≡ false = grind (arith, nat_tests) in
    rw miss (waits_at-beyond slots d (λ k e inside. bounded (suc k) e (omega arith)) beyond)

-- among all 32 destinations is everywhere
pub waits-everywhere : (slots : List Slot) → All (λ slot. slot.destination < 32) slots → (d : ℕ) → (has_bit 4294967295 d && waits_at d slots) ≡ waits_at d slots
waits-everywhere slots bounded d = elim (cases_lt d 32) [
  | inl below ↦ rw (every_bit d below) refl
  | inr beyond ↦ rw (waits_at-beyond slots d bounded beyond) (neither (has_bit 4294967295 d))
]
  where
    neither : (b : Bool) → (b && false) ≡ false
    neither true = refl
    neither false = refl

pub cancelled-everywhere : (slots : List Slot) → All (λ slot. slot.destination < 32) slots → cancelled (has_bit 4294967295) slots ≡ cancelled everywhere slots
cancelled-everywhere [] bounded = refl
cancelled-everywhere (slot ∷ slots) bounded =
    let first : slot.destination < 32 = bounded 0 slot (omega arith) in
    rw (every_bit slot.destination first) (ap (λ rest. cond (is_waiting slot.state) (record slot { state = Failed Cancelled }) slot ∷ rest)
    (cancelled-everywhere slots (λ k e inside. bounded (suc k) e (omega arith))))
