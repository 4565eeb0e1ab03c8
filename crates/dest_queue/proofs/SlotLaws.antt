-- Slots as a function of their destinations.
use Rattle.std.proofs.Common.{◌≡◌, ℕ, ◌+◌, ◌<◌, ◌≤◌, Bool, true, false, cond, not, ◌==◌, ◌&&◌, ◌||◌, List, [], ◌∷◌, ◌++◌, None, Some, refl, ◌∙◌, ap, arith, fold, inl, inr, zero, suc}
use Rattle.std.specs.Prelude.{filter, find}
use Rattle.std.specs.Int.{bit_at}
use Rattle.std.specs.List.{range_with_len}
use Rattle.std.specs.Option.{option_map}
use Rattle.std.proofs.lemmas.Bool.Decides.{nat_tests}
use Rattle.row_store.specs.inner.Rows.{without}
use Rattle.row_store.proofs.Bits.{bit_at-without_same, bit_at-without_other}
use Rattle.dest_queue.specs.declared.slots.Slot.{Slot}
use Rattle.dest_queue.specs.declared.SlotState.{SlotState}
use Rattle.dest_queue.specs.declared.SlotState.TheVariants.{Failed}
use Rattle.dest_queue.specs.declared.FailCause.TheVariants.{Cancelled}
use Rattle.dest_queue.specs.States.{is_waiting}
use Rattle.dest_queue.specs.Slots.{is_at, state_at}
use Rattle.dest_queue.specs.inner.Slots.{with_state, waits_at, cancelled}
use Rattle.dest_queue.specs.inner.SlotsBy.{slots_by, is_among}
use Rattle.dest_queue.specs.inner.Queues.{waiting_at}
use Rattle.dest_queue.proofs.SlotLemmas.{nat_cases}

same_number : (a b : ℕ) → (a == b) ≡ true → a ≡ b
same_number a b same = grind (arith, nat_tests)

pub state_at-slots_by : (state : ℕ → SlotState) (ds : List ℕ) (d : ℕ) → state_at d (slots_by state ds) ≡ cond (is_among d ds) (Some (state d)) None
state_at-slots_by state [] d = refl
state_at-slots_by state (e ∷ ds) d =
    elim (e == d) as (λ b. (e == d) ≡ b → option_map (λ (slot : Slot). slot.state) (cond b (Some (record { destination = e; state = state e })) (find (is_at d) (slots_by state ds))) ≡ cond (b || is_among d ds) (Some (state d)) None)
    [ true ↦ λ same. rw (same_number e d same) refl | false ↦ λ differs. state_at-slots_by state ds d ] refl

pub waits_at-slots_by : (state : ℕ → SlotState) (ds : List ℕ) (d : ℕ) → waits_at d (slots_by state ds) ≡ (is_among d ds && is_waiting (state d))
waits_at-slots_by state [] d = refl
waits_at-slots_by state (e ∷ ds) d =
    elim (e == d) as (λ b. (e == d) ≡ b → ((b && is_waiting (state e)) || waits_at d (slots_by state ds)) ≡ ((b || is_among d ds) && is_waiting (state d))) [
      | true ↦ λ same. rw (waits_at-slots_by state ds d, same_number e d same) (absorbed (is_waiting (state d)) (is_among d ds))
      | false ↦ λ differs. waits_at-slots_by state ds d
    ] refl
  where
    absorbed : (w among : Bool) → ((true && w) || (among && w)) ≡ ((true || among) && w)
    absorbed true true = refl
    absorbed true false = refl
    absorbed false true = refl
    absorbed false false = refl

pub with_state-slots_by : (state : ℕ → SlotState) (ds : List ℕ) (d : ℕ) (next : SlotState) → with_state d next (slots_by state ds) ≡ slots_by (λ e. cond (e == d) next (state e)) ds
with_state-slots_by state [] d next = refl
with_state-slots_by state (e ∷ ds) d next =
    elim (e == d) as (λ b. cond b (record { destination = e; state = next }) (record { destination = e; state = state e }) ∷ with_state d next (slots_by state ds) ≡ record { destination = e; state = cond b next (state e) } ∷ slots_by (λ e. cond (e == d) next (state e)) ds)
    [ true ↦ rw (with_state-slots_by state ds d next) refl | false ↦ rw (with_state-slots_by state ds d next) refl ]

pub cancelled-slots_by : (among : ℕ → Bool) (state : ℕ → SlotState) (ds : List ℕ) → cancelled among (slots_by state ds) ≡ slots_by (λ e. cond (among e && is_waiting (state e)) (Failed Cancelled) (state e)) ds
cancelled-slots_by among state [] = refl
cancelled-slots_by among state (e ∷ ds) =
    elim (among e && is_waiting (state e)) as (λ b. cond b (record { destination = e; state = Failed Cancelled }) (record { destination = e; state = state e }) ∷ cancelled among (slots_by state ds) ≡ record { destination = e; state = cond b (Failed Cancelled) (state e) } ∷ slots_by (λ e. cond (among e && is_waiting (state e)) (Failed Cancelled) (state e)) ds)
    [ true ↦ rw (cancelled-slots_by among state ds) refl | false ↦ rw (cancelled-slots_by among state ds) refl ]

-- a bit of a mask that leaves one queue after another
bit_at-left : (ds : List ℕ) (mask d : ℕ) → (bit_at (fold (λ mask d. without d mask) mask ds) d == 1) ≡ ((bit_at mask d == 1) && not (is_among d ds))
bit_at-left [] mask d = elim (bit_at mask d == 1) as (λ b. b ≡ (b && true)) [ true ↦ refl | false ↦ refl ]
bit_at-left (e ∷ ds) mask d =
    bit_at-left ds (without e mask) d ∙
    elim (nat_cases d e) [
      | inl same ↦ (let hit : (e == d) ≡ true = grind (arith, nat_tests) in rw (hit, same, bit_at-without_same mask e) (elim (bit_at mask e == 1) as (λ b. false ≡ (b && false)) [ true ↦ refl | false ↦ refl ]))
      | inr other ↦ (let miss : (e == d) ≡ false = grind (arith, nat_tests) in rw (miss, bit_at-without_other mask e d other) refl)
    ]

-- which destinations a filter of a range keeps
is_among-append : (d : ℕ) (xs ys : List ℕ) → is_among d (xs ++ ys) ≡ (is_among d xs || is_among d ys)
is_among-append d [] ys = refl
is_among-append d (x ∷ xs) ys = elim (x == d) as (λ b. (b || is_among d (xs ++ ys)) ≡ ((b || is_among d xs) || is_among d ys))
    [ true ↦ refl | false ↦ is_among-append d xs ys ]

is_among-filter : (p : ℕ → Bool) (d : ℕ) (xs : List ℕ) → is_among d (filter p xs) ≡ (is_among d xs && p d)
is_among-filter p d [] = refl
is_among-filter p d (x ∷ xs) =
    elim (x == d) as (λ b. (x == d) ≡ b → is_among d (cond (p x) (x ∷ filter p xs) (filter p xs)) ≡ ((b || is_among d xs) && p d)) [
      | true ↦ λ same. rw (same_number x d same) (elim (p d) as (λ b. p d ≡ b → is_among d (cond b (d ∷ filter p xs) (filter p xs)) ≡ b) [
        | true ↦ λ kept. rw (same_self d) refl
        | false ↦ λ dropped. is_among-filter p d xs ∙ rw dropped (never (is_among d xs))
      ] refl)
      | false ↦ λ differs. elim (p x) as (λ b. is_among d (cond b (x ∷ filter p xs) (filter p xs)) ≡ (is_among d xs && p d))
          [ true ↦ rw differs (is_among-filter p d xs) | false ↦ is_among-filter p d xs ]
    ] refl
  where
    same_self : (d : ℕ) → (d == d) ≡ true
    same_self d = grind (arith, nat_tests)

    never : (b : Bool) → (b && false) ≡ false
    never true = refl
    never false = refl

is_among-range : (d a n : ℕ) → a ≤ d → d < a + n → is_among d (range_with_len a n) ≡ true
is_among-range d a zero low high = absurd (omega arith)
is_among-range d a (suc n) low high =
    elim (nat_cases d a) [
      | inl same ↦ (let hit : (a == d) ≡ true = grind (arith, nat_tests) in rw hit refl)
      | inr other ↦ (let miss : (a == d) ≡ false = grind (arith, nat_tests) in rw (miss, is_among-range d (a + 1) n (omega arith) (omega arith)) refl)
    ]

is_among-waiting : (among : ℕ → Bool) (slots : List Slot) (d : ℕ) → d < 32 → is_among d (waiting_at among slots) ≡ (among d && waits_at d slots)
unfolding waiting_at
is_among-waiting among slots d below = is_among-filter (λ d. among d && waits_at d slots) d (range_with_len 0 32) ∙ ap (λ b. b && (among d && waits_at d slots)) (is_among-range d 0 32 (omega arith) (omega arith))

pub left-waiting_at : (among : ℕ → Bool) (slots : List Slot) (mask d : ℕ) → d < 32 → (bit_at (fold (λ mask d. without d mask) mask (waiting_at among slots)) d == 1) ≡ ((bit_at mask d == 1) && not (among d && waits_at d slots))
left-waiting_at among slots mask d below = bit_at-left (waiting_at among slots) mask d ∙ ap (λ b. (bit_at mask d == 1) && not b) (is_among-waiting among slots d below)
