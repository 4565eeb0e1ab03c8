-- A number that is decoded encodes to the bytes that were decoded, and fits its width.
use Rattle.std.proofs.Common.{◌≡◌, ℕ, ◌^◌, ◌<◌, ◌≤◌, Bool, true, false, List, length, take, drop, nat_lt, Result, Ok, Err, refl, subst, arith, cond}
use Rattle.std.specs.Int.{Width, w32, w64, byte_len, from_be_bytes, to_be_bytes}
use Rattle.std.proofs.lemmas.Bool.{ltb-false}
use Rattle.event_records.specs.declared.fault.RecordFault.{RecordFault}
use Rattle.event_records.specs.declared.fault.RecordFault.TheVariants.{Truncated}
use Rattle.event_records.specs.inner.Fields.{AreBytes}
use Rattle.event_records.specs.inner.Decoding.{number_at}
use Rattle.event_records.proofs.Only.{got, bytes_taken, Splits, number_only, exact32, exact64}

record IsBounded (w : Width) (limit : ℕ) : Type 0 where
  below : (bs : List ℕ) → AreBytes bs → from_be_bytes w bs < limit

bounded32 : IsBounded w32 (2 ^ 32)
bounded32 = record { below = λ bs are. omega (arith, are 0, are 1, are 2, are 3) }

bounded64 : IsBounded w64 (2 ^ 64)
bounded64 = record { below = λ bs are. omega (arith, are 0, are 1, are 2, are 3, are 4, are 5, are 6, are 7) }

abbrev number_by : Width → List ℕ → Bool → Result (ℕ × List ℕ) RecordFault
number_by w bytes short = cond short (Err Truncated) (Ok (from_be_bytes w (take (byte_len w) bytes), drop (byte_len w) bytes))

number_wide : (w : Width) (limit : ℕ) → IsBounded w limit → (bytes : List ℕ) (n : ℕ) (rest : List ℕ) → AreBytes bytes → number_at w bytes ≡ Ok (n, rest) → n < limit
number_wide w limit bounded bytes n rest are e = by (nat_lt (length bytes) (byte_len w)) refl e
  where
    by : (b : Bool) → nat_lt (length bytes) (byte_len w) ≡ b → number_by w bytes b ≡ Ok (n, rest) → n < limit
    by true short e = absurd cc
    by false long e =
        let pair : (from_be_bytes w (take (byte_len w) bytes), drop (byte_len w) bytes) ≡ (n, rest) = got _ _ e in
        let le : byte_len w ≤ length bytes = ltb-false (length bytes) (byte_len w) long in
        subst (λ (p : ℕ × List ℕ). p.0 < limit) pair (bounded.below (take (byte_len w) bytes) (bytes_taken (byte_len w) bytes le are))

pub record TakesNumber (w : Width) (limit : ℕ) (bytes : List ℕ) (n : ℕ) (rest : List ℕ) : Type 0 where
  pub splits : Splits bytes (to_be_bytes w n) rest
  pub wide : n < limit

pub takes32 : (bytes : List ℕ) (n : ℕ) (rest : List ℕ) → AreBytes bytes → number_at w32 bytes ≡ Ok (n, rest) → TakesNumber w32 (2 ^ 32) bytes n rest
takes32 bytes n rest are e = record { splits = number_only w32 exact32 bytes n rest are e; wide = number_wide w32 (2 ^ 32) bounded32 bytes n rest are e }

pub takes64 : (bytes : List ℕ) (n : ℕ) (rest : List ℕ) → AreBytes bytes → number_at w64 bytes ≡ Ok (n, rest) → TakesNumber w64 (2 ^ 64) bytes n rest
takes64 bytes n rest are e = record { splits = number_only w64 exact64 bytes n rest are e; wide = number_wide w64 (2 ^ 64) bounded64 bytes n rest are e }
