-- The offsets of a byte in a text (profile: for speed alone).
use Rattle.std.specs.Prelude.{◌≡◌, ℕ, ◌+◌, ◌-◌, ◌<◌, ◌≤◌, ◌==◌, Bool, true, false, List, length, map, slice_index, take, drop}
use Rattle.std.specs.Simd.Lanes.{mask_l}

-- n elements of a text from an offset on
abbrev pub piece : ℕ → ℕ → List ℕ → List ℕ
piece at n text = take n (drop at text)

-- the bits that say at which offsets the byte is, the lowest for the first
abbrev pub bits_of : ℕ → List ℕ → ℕ
bits_of byte text = mask_l (map (λ x. x == byte) text)

-- the byte is not from one offset up to another
abbrev pub IsNowhere : ℕ → List ℕ → ℕ → ℕ → Type 0
IsNowhere byte text from to = (k : ℕ) → from ≤ k → k < to → (slice_index text k == byte) ≡ false

-- the bits say at which offsets the byte is, from one offset up to another
pub record AreAhead (byte : ℕ) (text : List ℕ) (at end bits : ℕ) : Type 0 where
  pub ordered : at ≤ end
  pub within : end ≤ length text
  pub short : end ≤ at + 64
  pub said : bits ≡ bits_of byte (piece at (end - at) text)

-- the first offset of the byte from an offset on
pub record IsNext (byte : ℕ) (text : List ℕ) (from place : ℕ) : Type 0 where
  pub behind : from ≤ place
  pub within : place < length text
  pub here : (slice_index text place == byte) ≡ true
  pub before : IsNowhere byte text from place
