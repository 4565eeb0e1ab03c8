-- Values are decoded one after the other, as a loop does.
use Rattle.std.proofs.Common.{◌≡◌, false, ℕ, suc, ◌-◌, ◌+◌, ◌≤◌, ◌<◌, List, [], ◌∷◌, ◌++◌, Result, Ok, Err, refl, sym, ap, ◌∙◌, append_assoc, arith}
use Rattle.std.proofs.lemmas.List.{append-nil}
use Rattle.std.specs.Int.{w32}
use Rattle.std.specs.Result.{is_ok}
use Rattle.judge_core.specs.declared.delivery.Delivery.{Delivery}
use Rattle.event_records.specs.declared.fault.RecordFault.{RecordFault}
use Rattle.event_records.specs.declared.fault.ReadError.{ReadError}
use Rattle.event_records.specs.declared.fault.ReadError.TheVariants as errors
use Rattle.event_records.specs.inner.Decoding.{◌>>=◌, Fails, number_at}
use Rattle.opening_records.specs.declared.fault.OpeningFault.{OpeningFault}
use Rattle.opening_records.specs.declared.fault.OpeningFault.TheVariants.{NoMemory, TooLong, NotAnOpening}
use Rattle.opening_records.specs.inner.Decoding.{Refuses, are_deliveries, deliveries_at, delivery_at, many_at, tested}

-- what was decoded before, and what is still decoded
abbrev pub with_front : {A : Type 0} → List A → Result (List A × List ℕ) RecordFault → Result (List A × List ℕ) RecordFault
with_front front read = read >>= λ x. Ok (front ++ x.0, x.1)

regroup : {A : Type 0} (front : List A) (n : A) (read : Result (List A × List ℕ) RecordFault) → with_front front (read >>= λ x. Ok (n ∷ x.0, x.1)) ≡ with_front (front ++ n ∷ []) read
regroup {A} front n (Ok x) = ap (λ (ns : List A). Ok (ns, x.1)) (sym (append_assoc front (n ∷ []) x.0))
regroup {A} front n (Err f) = refl

pub goes_on : {A : Type 0} (read : List ℕ → Result (A × List ℕ) RecordFault) (front : List A) (count i : ℕ) (bytes : List ℕ) (n : A) (after : List ℕ) (total : Result (List A × List ℕ) RecordFault) → i < count → read bytes ≡ Ok (n, after)
    → with_front front (many_at read (count - i) bytes) ≡ total → with_front (front ++ n ∷ []) (many_at read (count - (i + 1)) after) ≡ total
unfolding many_at
goes_on {A} read front count i bytes n after total lt h so_far =
    let k : count - i ≡ suc (count - (i + 1)) = omega arith in
    let one : with_front front (many_at read (count - i) bytes) ≡ with_front (front ++ n ∷ []) (many_at read (count - (i + 1)) after) = rw (k, h) (regroup front n (many_at read (count - (i + 1)) after)) in
    sym one ∙ so_far

pub ends : {A : Type 0} (read : List ℕ → Result (A × List ℕ) RecordFault) (e : ReadError) (front : List A) (count i : ℕ) (bytes : List ℕ) (total : Result (List A × List ℕ) RecordFault) → i < count → Fails e (read bytes)
    → with_front front (many_at read (count - i) bytes) ≡ total → Fails e total
unfolding many_at
ends {A} read errors.NoMemory front count i bytes total lt h so_far = tt
ends {A} read (errors.Fault f) front count i bytes total lt h so_far =
    let k : count - i ≡ suc (count - (i + 1)) = omega arith in
    let one : with_front front (many_at read (count - i) bytes) ≡ Err f = rw (k, h) refl in
    sym so_far ∙ one

-- the same of an opening's fault
pub stops : {A : Type 0} (read : List ℕ → Result (A × List ℕ) RecordFault) (e : OpeningFault) (front : List A) (count i : ℕ) (bytes : List ℕ) (total : Result (List A × List ℕ) RecordFault) → i < count → Refuses e (read bytes)
    → with_front front (many_at read (count - i) bytes) ≡ total → Refuses e total
unfolding many_at
stops {A} read NoMemory front count i bytes total lt h so_far = tt
stops {A} read TooLong front count i bytes total lt h so_far = absurd h
stops {A} read (NotAnOpening at reason) front count i bytes total lt h so_far = by (read bytes) refl h
  where
    by : (r : Result (A × List ℕ) RecordFault) → read bytes ≡ r → is_ok r ≡ false → is_ok total ≡ false
    by (Ok x) e fails = absurd cc
    by (Err f) e fails =
        let k : count - i ≡ suc (count - (i + 1)) = omega arith in
        let one : with_front front (many_at read (count - i) bytes) ≡ Err f = rw (k, e) refl in
        let all : total ≡ Err f = sym so_far ∙ one in
        ap is_ok all

-- where the deliveries behind a count aren't decoded, those of a message aren't
pub deliveries_fail : (raw bytes : List ℕ) (count : ℕ) (rest : List ℕ) (e : ReadError) → number_at w32 bytes ≡ Ok (count, rest)
    → Fails e (many_at (λ r. delivery_at raw r) count rest) → Fails e (deliveries_at raw bytes)
unfolding deliveries_at
deliveries_fail raw bytes count rest errors.NoMemory first h = tt
deliveries_fail raw bytes count rest (errors.Fault f) first h =
    ap (λ (x : Result (ℕ × List ℕ) RecordFault). (x >>= λ (n : ℕ × List ℕ). many_at (λ r. delivery_at raw r) n.0 n.1) >>= λ (xs : List Delivery × List ℕ). tested (are_deliveries xs.0) xs) first
    ∙ ap (λ (x : Result (List Delivery × List ℕ) RecordFault). x >>= λ (xs : List Delivery × List ℕ). tested (are_deliveries xs.0) xs) h

pub is_done : {A : Type 0} (read : List ℕ → Result (A × List ℕ) RecordFault) (front : List A) (count i : ℕ) (bytes : List ℕ) (total : Result (List A × List ℕ) RecordFault) → count ≤ i → with_front front (many_at read (count - i) bytes) ≡ total → total ≡ Ok (front, bytes)
unfolding many_at
is_done {A} read front count i bytes total le so_far =
    let k : count - i ≡ 0 = omega arith in
    let one : with_front front (many_at read (count - i) bytes) ≡ Ok (front, bytes) = rw k (ap (λ (ns : List A). Ok (ns, bytes)) (append-nil front)) in
    sym so_far ∙ one
