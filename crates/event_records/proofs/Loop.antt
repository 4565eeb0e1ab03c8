-- Records are decoded one after the other, as a loop does.
use Rattle.std.proofs.Common.{◌≡◌, ℕ, suc, ◌-◌, ◌+◌, ◌≤◌, ◌<◌, List, [], ◌∷◌, ◌++◌, Result, Ok, Err, refl, sym, ap, ◌∙◌, append_assoc, arith}
use Rattle.std.proofs.lemmas.List.{append-nil}
use Rattle.event_records.specs.declared.fault.RecordFault.{RecordFault}
use Rattle.event_records.specs.declared.fault.ReadError.{ReadError}
use Rattle.event_records.specs.declared.fault.ReadError.TheVariants as errors
use Rattle.event_records.specs.declared.record.Record.{Record}
use Rattle.event_records.specs.inner.Decoding.{◌>>=◌, Fails, record_at, records_at}

-- what was read before, and what is still read
abbrev pub with_front : List Record → Result (List Record × List ℕ) RecordFault → Result (List Record × List ℕ) RecordFault
with_front front read = read >>= λ x. Ok (front ++ x.0, x.1)

regroup : (front : List Record) (r : Record) (read : Result (List Record × List ℕ) RecordFault) → with_front front (read >>= λ x. Ok (r ∷ x.0, x.1)) ≡ with_front (front ++ r ∷ []) read
regroup front r (Ok x) = ap (λ (ns : List Record). Ok (ns, x.1)) (simp append_assoc)
regroup front r (Err f) = refl

pub goes_on : (front : List Record) (count i : ℕ) (bytes : List ℕ) (r : Record) (after : List ℕ) (total : Result (List Record × List ℕ) RecordFault) → i < count → record_at bytes ≡ Ok (r, after)
    → with_front front (records_at (count - i) bytes) ≡ total → with_front (front ++ r ∷ []) (records_at (count - (i + 1)) after) ≡ total
unfolding records_at
goes_on front count i bytes r after total lt h so_far =
    let k : count - i ≡ suc (count - (i + 1)) = omega arith in
    let one : with_front front (records_at (count - i) bytes) ≡ with_front (front ++ r ∷ []) (records_at (count - (i + 1)) after) = rw (k, h) (regroup front r (records_at (count - (i + 1)) after)) in
    sym one ∙ so_far

pub ends : (e : ReadError) (front : List Record) (count i : ℕ) (bytes : List ℕ) (total : Result (List Record × List ℕ) RecordFault) → i < count → Fails e (record_at bytes)
    → with_front front (records_at (count - i) bytes) ≡ total → Fails e total
unfolding records_at
ends errors.NoMemory front count i bytes total lt h so_far = tt
ends (errors.Fault f) front count i bytes total lt h so_far =
    let k : count - i ≡ suc (count - (i + 1)) = omega arith in
    let one : with_front front (records_at (count - i) bytes) ≡ Err f = rw (k, h) refl in
    sym so_far ∙ one

pub is_done : (front : List Record) (count i : ℕ) (bytes : List ℕ) (total : Result (List Record × List ℕ) RecordFault) → count ≤ i → with_front front (records_at (count - i) bytes) ≡ total → total ≡ Ok (front, bytes)
unfolding records_at
is_done front count i bytes total le so_far =
    let k : count - i ≡ 0 = omega arith in
    let one : with_front front (records_at (count - i) bytes) ≡ Ok (front, bytes) = rw k (ap (λ (ns : List Record). Ok (ns, bytes)) (append-nil front)) in
    sym so_far ∙ one
