-- The mask of the destinations that are held.
use Rattle.std.proofs.Common.{◌≡◌, ◌≢◌, ◌==◌, ℕ, List, ◌*◌, ◌%◌, ◌^◌, ◌<◌, ◌≤◌, Bool, true, false, length, ap, bit_or, w32, sym, ◌∙◌, inl, inr}
use Rattle.std.specs.Int.{bit_at}
use Rattle.std.specs.Option.{option_map_or}
use Rattle.std.specs.Prelude.{String}
use Rattle.std.proofs.lemmas.Nat.Bits.{bit_at_set_same, bit_at_set_other}
use Rattle.std.proofs.lemmas.Option.{slice_get_past}
use Rattle.event_log.proofs.OneMore.{lt-tells}
use Rattle.plan_text.specs.Entries.{PlanEntry}
use Rattle.service_workers.specs.inner.Held.{is_held_at, is_named}
use Rattle.service_workers.proofs.Masks.{IsMask}

-- a bit that is set, and the others
pub set_here : (mask d : ℕ) (is_set : Bool) → d < 32 → is_set ≡ true
    → (bit_at (bit_or mask (1 * 2 ^ d % 2 ^ 32)) d == 1) ≡ is_set
set_here mask d is_set within is = ap (λ b. b == 1) (bit_at_set_same w32 mask d within) ∙ sym is

pub set_others : (mask d : ℕ) → d < 32 → (c : ℕ) → c ≢ d
    → bit_at (bit_or mask (1 * 2 ^ d % 2 ^ 32)) c ≡ bit_at mask c
set_others mask d within c other = bit_at_set_other w32 mask d within c other

-- a mask with the bit of each destination of a plan is right at every number
pub mask_all_held : {Z : Type 0} (names : List (String Z)) (p : PlanEntry) (mask : ℕ) → IsMask (is_held_at names p) (length p.destinations) mask
    → (d : ℕ) → (bit_at mask d == 1) ≡ is_held_at names p d
mask_all_held names p mask is d = elim (lt-tells d (length p.destinations)) [
  | inl w ↦ is.below d w.1
  | inr w ↦
      ap (λ b. b == 1) (is.above d w.1) ∙ sym (ap (λ x. option_map_or (λ e. is_named names e.name) x false) (slice_get_past p.destinations d w.1))
]
