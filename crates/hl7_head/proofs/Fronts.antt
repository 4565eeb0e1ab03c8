-- What a text begins with while more is appended.
use Rattle.std.proofs.Common.{◌≡◌, ℕ, List, ◌++◌, Result, Ok, Err, OnOk, OnErr, is_ok, if◌then◌else◌, length, take, drop, append_assoc, sym, ap, ◌∙◌}
use Rattle.std.proofs.Math.Seq.{take-append_seam, take-length}
use Rattle.std.proofs.lemmas.List.{take-append-drop}

-- what begins a text begins each longer one
pub begins : (old mid new added : List ℕ) → mid ≡ old ++ added → take (length mid) new ≡ mid → take (length old) new ≡ old
begins old mid new added grows front =
    let rest : List ℕ = drop (length mid) new in
    sym (ap (take (length old)) (take-append-drop (length mid) new))
    ∙ ap (λ l. take (length old) (l ++ rest)) (front ∙ grows)
    ∙ ap (take (length old)) (append_assoc old added rest)
    ∙ take-append_seam old (added ++ rest)

-- a text begins with itself
pub begins_same : (mid new : List ℕ) → new ≡ mid → take (length mid) new ≡ mid
begins_same mid new same = ap (take (length mid)) same ∙ take-length mid

pub on_err : {T E P : Type 0} (r : Result T E) → P → OnErr r P
on_err (Ok x) p = tt
on_err (Err e) p = p

-- what follows on an error, and what follows on success
pub if_err : {T E P Q : Type 0} (r : Result T E) → (P → Q) → OnErr r P → OnErr r Q
if_err (Ok x) f p = tt
if_err (Err e) f p = f p

pub if_ok : {T E P Q : Type 0} (r : Result T E) → (P → Q) → OnOk r P → OnOk r Q
if_ok (Ok x) f p = f p
if_ok (Err e) f p = tt

-- what is appended on success
pub if_added : {T E : Type 0} (r : Result T E) (old new added wanted : List ℕ) → new ≡ (if is_ok r then old ++ added else old) → added ≡ wanted → OnOk r (new ≡ old ++ wanted)
if_added (Ok x) old new added wanted grows same = grows ∙ ap (λ l. old ++ l) same
if_added (Err e) old new added wanted grows same = tt
