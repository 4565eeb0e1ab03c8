-- Sums and masks, by one more number, and what a slot owes.
use Rattle.std.proofs.Common.{◌≡◌, ℕ, ◌+◌, ◌*◌, ◌<◌, ◌≤◌, ◌%◌, ◌^◌, Bool, true, false, sym, ◌∙◌, ap, arith, bit_or, one-mul}
use Rattle.std.specs.Prelude.{sum_by, if◌then◌else◌}
use Rattle.std.specs.List.{range_with_len}
use Rattle.std.proofs.lemmas.List.Sums.{sum_by_push}
use Rattle.std.proofs.lemmas.Nat.{one_shl, or_comm, or_shifted}
use Rattle.dest_queue.specs.declared.SlotState.{SlotState}
use Rattle.dest_queue.specs.declared.SlotState.TheVariants.{Waiting, InFlight, Delivered, Failed}
use Rattle.event_log.specs.Room.{slot_owed}
use Rattle.event_log.proofs.Masks.{mask_below, mask_below-below, mask_below-more, range-push}

-- one number more adds its part
pub sum-push : (f : ℕ → ℕ) (n : ℕ) → sum_by f (range_with_len 0 (n + 1)) ≡ sum_by f (range_with_len 0 n) + f n
sum-push f n = ap (sum_by f) (range-push n) ∙ sum_by_push f (range_with_len 0 n) n

-- a slot of at most 100 attempts owes at most 202
pub small-owed : (max : ℕ) → max ≤ 100 → (s : SlotState) → slot_owed max s ≤ 202
small-owed max few (Waiting attempts due) = omega arith
small-owed max few (InFlight attempt) = omega arith
small-owed max few Delivered = omega arith
small-owed max few (Failed cause) = omega arith

-- a mask of the bits below d with bit d is their sum
with-bit : (mask d : ℕ) → d < 32 → mask < 2 ^ d → bit_or mask (1 * 2 ^ d % 2 ^ 32) ≡ mask + 2 ^ d
with-bit mask d below fits =
    ap (bit_or mask) (one_shl d 32 below ∙ sym (one-mul (2 ^ d)))
    ∙ (or_comm mask (1 * 2 ^ d) ∙ (or_shifted 1 d mask fits ∙ omega arith))

-- the mask of the destinations below d, with d where the test names it
pub mask-with : (test : ℕ → Bool) (mask d : ℕ) → d < 32 → mask ≡ mask_below d test → test d ≡ true → bit_or mask (1 * 2 ^ d % 2 ^ 32) ≡ mask_below (d + 1) test
mask-with test mask d below is names =
    let fits : mask < 2 ^ d = omega (arith, mask_below-below d test) in
    with-bit mask d below fits ∙ (ap (λ m. m + 2 ^ d) is ∙ sym (mask_below-more d test ∙ ap (λ b. mask_below d test + (if b then 2 ^ d else 0)) names))

-- and without it where it doesn't
pub mask-without : (test : ℕ → Bool) (mask d : ℕ) → mask ≡ mask_below d test → test d ≡ false → mask ≡ mask_below (d + 1) test
mask-without test mask d is names =
    let same : mask_below d test + 0 ≡ mask_below d test = omega arith in
    is ∙ sym (mask_below-more d test ∙ (ap (λ b. mask_below d test + (if b then 2 ^ d else 0)) names ∙ same))
