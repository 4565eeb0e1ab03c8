-- A list behind its count is decoded again, and what is decoded encodes to the bytes that were decoded.
use Rattle.std.proofs.Common.{◌≡◌, ℕ, zero, suc, ◌^◌, ◌<◌, List, [], ◌∷◌, ◌++◌, Result, Ok, Err, length, refl, sym, ap, subst, ◌∙◌, append_assoc, arith}
use Rattle.std.specs.List.{AllByRecursion, flat_map}
use Rattle.std.specs.Int.{w32, to_be_bytes}
use Rattle.std.proofs.lemmas.List.Concat.{flat_map-cons}
use Rattle.event_records.specs.declared.fault.RecordFault.{RecordFault}
use Rattle.event_records.specs.inner.Fields.{AreBytes}
use Rattle.event_records.specs.inner.Decoding.{◌>>=◌, number_at}
use Rattle.event_records.proofs.Fields.{wide32, number_again}
use Rattle.event_records.proofs.Only.{Bound, bound, got, Splits, behind}
use Rattle.opening_records.proofs.Numbers.{takes32}
use Rattle.opening_records.specs.inner.Encoding.{several}
use Rattle.opening_records.specs.inner.Decoding.{many_at, several_at}

-- each that was encoded is decoded again
many_again : {A : Type 0} (encode : A → List ℕ) (read : List ℕ → Result (A × List ℕ) RecordFault) (Fits : A → Type 0)
    → ((x : A) (rest : List ℕ) → Fits x → read (encode x ++ rest) ≡ Ok (x, rest))
    → (xs : List A) (rest : List ℕ) → AllByRecursion Fits xs → many_at read (length xs) (flat_map encode xs ++ rest) ≡ Ok (xs, rest)
unfolding many_at
many_again {A} encode read Fits back [] rest fits = refl
many_again {A} encode read Fits back (x ∷ xs) rest fits =
    let regrouped : flat_map encode (x ∷ xs) ++ rest ≡ encode x ++ (flat_map encode xs ++ rest) = ap (λ (y : List ℕ). y ++ rest) (flat_map-cons encode x xs) ∙ append_assoc (encode x) (flat_map encode xs) rest in
    ap (many_at read (suc (length xs))) regrouped ∙ rw (back x (flat_map encode xs ++ rest) fits.0, many_again encode read Fits back xs rest fits.1) refl

pub several_again : {A : Type 0} (encode : A → List ℕ) (read : List ℕ → Result (A × List ℕ) RecordFault) (Fits : A → Type 0)
    → ((x : A) (rest : List ℕ) → Fits x → read (encode x ++ rest) ≡ Ok (x, rest))
    → (xs : List A) (rest : List ℕ) → length xs < 2 ^ 32 → AllByRecursion Fits xs → several_at read (several encode xs ++ rest) ≡ Ok (xs, rest)
several_again {A} encode read Fits back xs rest few fits =
    let regrouped : several encode xs ++ rest ≡ to_be_bytes w32 (length xs) ++ (flat_map encode xs ++ rest) = append_assoc (to_be_bytes w32 (length xs)) (flat_map encode xs) rest in
    ap (several_at read) regrouped ∙ rw (number_again w32 (2 ^ 32) wide32 (length xs) (flat_map encode xs ++ rest) few) (many_again encode read Fits back xs rest fits)

-- bytes are the encoding of a value that fits, and others behind it
pub record Takes {A : Type 0} (encode : A → List ℕ) (Fits : A → Type 0) (bytes : List ℕ) (x : A) (rest : List ℕ) : Type 0 where
  pub splits : Splits bytes (encode x) rest
  pub fits : Fits x

-- what is decoded are values that fit, by whose encoding the bytes begin
abbrev pub IsRead : {A : Type 0} → (A → List ℕ) → (List ℕ → Result (A × List ℕ) RecordFault) → (A → Type 0) → Type 0
IsRead {A} encode read Fits = (bytes : List ℕ) (x : A) (rest : List ℕ) → AreBytes bytes → read bytes ≡ Ok (x, rest) → Takes encode Fits bytes x rest

record TakesMany {A : Type 0} (encode : A → List ℕ) (Fits : A → Type 0) (n : ℕ) (bytes : List ℕ) (xs : List A) (rest : List ℕ) : Type 0 where
  count : length xs ≡ n
  splits : Splits bytes (flat_map encode xs) rest
  fits : AllByRecursion Fits xs

many_takes : {A : Type 0} (encode : A → List ℕ) (read : List ℕ → Result (A × List ℕ) RecordFault) (Fits : A → Type 0) → IsRead encode read Fits
    → (n : ℕ) (bytes : List ℕ) (xs : List A) (rest : List ℕ) → AreBytes bytes → many_at read n bytes ≡ Ok (xs, rest) → TakesMany encode Fits n bytes xs rest
unfolding many_at
many_takes {A} encode read Fits is_read zero bytes xs rest are e =
    let pair : ([], bytes) ≡ (xs, rest) = got _ _ e in
    let none : [] ≡ xs = ap (λ (p : List A × List ℕ). p.0) pair in
    let behind_it : bytes ≡ rest = ap (λ (p : List A × List ℕ). p.1) pair in
    subst (λ (ys : List A). TakesMany encode Fits zero bytes ys rest) none
    (record { count = refl; splits = record { is = behind_it; are = subst AreBytes behind_it are }; fits = tt })
many_takes {A} encode read Fits is_read (suc n) bytes xs rest are e =
    let a = bound (read bytes) (λ (first : A × List ℕ). many_at read n first.1 >>= λ (others : List A × List ℕ). Ok (first.0 ∷ others.0, others.1)) (xs, rest) e in
    let b = bound (many_at read n a.value.1) (λ (others : List A × List ℕ). Ok (a.value.0 ∷ others.0, others.1)) (xs, rest) a.then in
    let pair : (a.value.0 ∷ b.value.0, b.value.1) ≡ (xs, rest) = got _ _ b.then in
    let all : a.value.0 ∷ b.value.0 ≡ xs = ap (λ (p : List A × List ℕ). p.0) pair in
    let behind_it : b.value.1 ≡ rest = ap (λ (p : List A × List ℕ). p.1) pair in
    let first = is_read bytes a.value.0 a.value.1 are a.first in
    let others = many_takes encode read Fits is_read n a.value.1 b.value.0 b.value.1 first.splits.are b.first in
    let both = behind bytes (encode a.value.0) a.value.1 (flat_map encode b.value.0) b.value.1 first.splits others.splits in
    let whole : Splits bytes (flat_map encode (a.value.0 ∷ b.value.0)) b.value.1 = subst (λ (y : List ℕ). Splits bytes y b.value.1) (sym (flat_map-cons encode a.value.0 b.value.0)) both in
    subst (λ (ys : List A). TakesMany encode Fits (suc n) bytes ys rest) all
    (record { count = ap suc others.count; splits = subst (λ (y : List ℕ). Splits bytes (flat_map encode (a.value.0 ∷ b.value.0)) y) behind_it whole; fits = (first.fits, others.fits) })

-- a list that fits, and whose length does
pub record AllFit {A : Type 0} (Fits : A → Type 0) (xs : List A) : Type 0 where
  pub few : length xs < 2 ^ 32
  pub each : AllByRecursion Fits xs

pub several_takes : {A : Type 0} (encode : A → List ℕ) (read : List ℕ → Result (A × List ℕ) RecordFault) (Fits : A → Type 0) → IsRead encode read Fits
    → IsRead (several encode) (several_at read) (AllFit Fits)
several_takes {A} encode read Fits is_read bytes xs rest are e =
    let a = bound (number_at w32 bytes) (λ (n : ℕ × List ℕ). many_at read n.0 n.1) (xs, rest) e in
    let number = takes32 bytes a.value.0 a.value.1 are a.first in
    let its = many_takes encode read Fits is_read a.value.0 a.value.1 xs rest number.splits.are a.then in
    let all = behind bytes (to_be_bytes w32 a.value.0) a.value.1 (flat_map encode xs) rest number.splits its.splits in
    record {
      splits = subst (λ (k : ℕ). Splits bytes (to_be_bytes w32 k ++ flat_map encode xs) rest) (sym its.count) all;
      fits = record { few = subst (λ (k : ℕ). k < 2 ^ 32) (sym its.count) number.wide; each = its.fits };
    }
