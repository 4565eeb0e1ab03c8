-- What is decoded encodes to the bytes that were decoded.
use Rattle.std.proofs.Common.{◌≡◌, ℕ, zero, suc, ◌+◌, ◌^◌, ◌<◌, ◌≤◌, ◌⊎◌, inl, inr, Bool, true, false, ◌&&◌, List, [], ◌∷◌, ◌++◌, length, get_or, take, drop, nat_lt, Result, Ok, Err, refl, sym, ap, subst, ◌∙◌, append_assoc, arith, rules, cond}
use Rattle.std.specs.Str.{bytes_eq}
use Rattle.std.specs.Int.{Width, w32, w64, byte_len, from_be_bytes, to_be_bytes}
use Rattle.std.proofs.lemmas.Bool.{and_parts, eqb-true, ltb-false}
use Rattle.std.proofs.lemmas.List.{take-append-drop, length-take-le, get_or-take, get_or-drop, get_or_past}
use Rattle.std.proofs.lemmas.List.Concat.{flat_map-cons}
use Rattle.std.proofs.lemmas.Nat.{be_bytes_4, be_bytes_8}
use Rattle.std.proofs.lemmas.Slice.Eq.{bytes_eq-Decides}
use Rattle.event_records.specs.declared.fault.RecordFault.{RecordFault}
use Rattle.event_records.specs.declared.fault.RecordFault.TheVariants.{Truncated, Unknown}
use Rattle.event_records.specs.declared.record.Record.{Record}
use Rattle.event_records.specs.declared.head.Head.{Head}
use Rattle.event_records.specs.inner.Fields.{AreBytes, head, head_of, text_of, same_head}
use Rattle.event_records.specs.inner.Encoding.{text_bytes, head_bytes, encoding, encodings, batch_encoding}
use Rattle.event_records.specs.inner.Decoding.{◌>>=◌, number_at, numbers_at, head_at, text_at, exactly, record_of, record_from, record_at, records_at, batch_at}

-- ---- what follows of a step that succeeds

pub record Bound {A B : Type 0} (x : Result A RecordFault) (f : A → Result B RecordFault) (b : B) : Type 0 where
  pub value : A
  pub first : x ≡ Ok value
  pub then : f value ≡ Ok b

pub bound : {A B : Type 0} (x : Result A RecordFault) (f : A → Result B RecordFault) (b : B) → (x >>= f) ≡ Ok b → Bound x f b
bound (Ok a) f b e = record { value = a; first = refl; then = e }
bound (Err z) f b e = absurd cc

pub got : {A : Type 0} (x y : A) → ◌≡◌ {A = Result A RecordFault} (Ok x) (Ok y) → x ≡ y
got x y e = cc

-- ---- bytes

pub bytes_taken : (n : ℕ) (bytes : List ℕ) → n ≤ length bytes → AreBytes bytes → AreBytes (take n bytes)
bytes_taken n bytes le are i = by (nat_lt i n) refl
  where
    by : (b : Bool) → nat_lt i n ≡ b → get_or (take n bytes) i 0 < 256
    by true lt = subst (λ x. x < 256) (sym (get_or-take n bytes i 0 (grind arith))) (are i)
    by false ge = subst (λ x. x < 256) (sym (get_or_past (take n bytes) i 0 (omega (arith, length-take-le n bytes le, ltb-false i n ge)))) (omega arith)

bytes_dropped : (n : ℕ) (bytes : List ℕ) → AreBytes bytes → AreBytes (drop n bytes)
bytes_dropped n bytes are i = subst (λ x. x < 256) (sym (get_or-drop n bytes i 0)) (are (n + i))

-- ---- numbers

pub record IsExact (w : Width) : Type 0 where
  pub again : (bs : List ℕ) → length bs ≡ byte_len w → AreBytes bs → to_be_bytes w (from_be_bytes w bs) ≡ bs

pub exact32 : IsExact w32
exact32 = record { again = λ bs len are. be_bytes_4 bs (from_be_bytes w32 bs) len are refl }

pub exact64 : IsExact w64
exact64 = record { again = λ bs len are. be_bytes_8 bs (from_be_bytes w64 bs) len are refl }

-- bytes are these, and others behind them, which are bytes too
pub record Splits (bytes front rest : List ℕ) : Type 0 where
  pub is : bytes ≡ front ++ rest
  pub are : AreBytes rest

pub split_at : (n : ℕ) (bytes front rest : List ℕ) → AreBytes bytes → take n bytes ≡ front → drop n bytes ≡ rest → Splits bytes front rest
split_at n bytes front rest are first second =
    record { is = sym (take-append-drop n bytes) ∙ (ap (λ x. x ++ drop n bytes) first ∙ ap (λ x. front ++ x) second); are = subst AreBytes second (bytes_dropped n bytes are) }

abbrev number_by : Width → List ℕ → Bool → Result (ℕ × List ℕ) RecordFault
number_by w bytes short = cond short (Err Truncated) (Ok (from_be_bytes w (take (byte_len w) bytes), drop (byte_len w) bytes))

pub number_only : (w : Width) → IsExact w → (bytes : List ℕ) (n : ℕ) (rest : List ℕ) → AreBytes bytes → number_at w bytes ≡ Ok (n, rest) → Splits bytes (to_be_bytes w n) rest
number_only w exact bytes n rest are e = by (nat_lt (length bytes) (byte_len w)) refl e
  where
    by : (b : Bool) → nat_lt (length bytes) (byte_len w) ≡ b
        → number_by w bytes b ≡ Ok (n, rest) → Splits bytes (to_be_bytes w n) rest
    by true short e = absurd cc
    by false long e =
        let pair : (from_be_bytes w (take (byte_len w) bytes), drop (byte_len w) bytes) ≡ (n, rest) = got _ _ e in
        let le : byte_len w ≤ length bytes = ltb-false (length bytes) (byte_len w) long in
        let front : to_be_bytes w n ≡ take (byte_len w) bytes =
        ap (to_be_bytes w) (sym (ap (λ (p : ℕ × List ℕ). p.0) pair)) ∙ exact.again (take (byte_len w) bytes) (length-take-le (byte_len w) bytes le) (bytes_taken (byte_len w) bytes le are) in
        split_at (byte_len w) bytes (to_be_bytes w n) rest are (sym front) (ap (λ (p : ℕ × List ℕ). p.1) pair)

-- two splits, one behind the other
pub behind : (bytes a middle b rest : List ℕ) → Splits bytes a middle → Splits middle b rest → Splits bytes (a ++ b) rest
behind bytes a middle b rest p q = record { is = p.is ∙ (ap (λ x. a ++ x) q.is ∙ sym (append_assoc a b rest)); are = q.are }

-- ---- texts

abbrev text_by : ℕ → List ℕ → Bool → Result (List ℕ × List ℕ) RecordFault
text_by n bytes short = cond short (Err Truncated) (Ok (take n bytes, drop n bytes))

pub text_only : (bytes text rest : List ℕ) → AreBytes bytes → text_at bytes ≡ Ok (text, rest) → Splits bytes (text_bytes text) rest
unfolding text_at
text_only bytes text rest are e =
    let step = bound (number_at w32 bytes) (λ (n : ℕ × List ℕ). text_by n.0 n.1 (nat_lt (length n.1) n.0)) (text, rest) e in
    by step.value.0 step.value.1 step.first (nat_lt (length step.value.1) step.value.0) refl step.then
  where
    by : (n : ℕ) (behind_it : List ℕ) → number_at w32 bytes ≡ Ok (n, behind_it) → (b : Bool) → nat_lt (length behind_it) n ≡ b
        → text_by n behind_it b ≡ Ok (text, rest) → Splits bytes (text_bytes text) rest
    by n behind_it first true short e = absurd cc
    by n behind_it first false long e =
        let pair : (take n behind_it, drop n behind_it) ≡ (text, rest) = got _ _ e in
        let front : take n behind_it ≡ text = ap (λ (p : List ℕ × List ℕ). p.0) pair in
        let len : length text ≡ n = ap (λ (t : List ℕ). length t) (sym front) ∙ length-take-le n behind_it (ltb-false (length behind_it) n long) in
        let number = number_only w32 exact32 bytes n behind_it are first in
        let its = split_at n behind_it text rest number.are front (ap (λ (p : List ℕ × List ℕ). p.1) pair) in
        behind bytes (to_be_bytes w32 (length text)) behind_it text rest (subst (λ k. Splits bytes (to_be_bytes w32 k) behind_it) (sym len) number) its

-- ---- heads

abbrev number_bytes : Head → List ℕ
number_bytes h = to_be_bytes w32 h.first ++ to_be_bytes w32 h.second ++ to_be_bytes w32 h.third ++ to_be_bytes w64 h.moment

numbers_only : (kind part : ℕ) (bytes : List ℕ) (h : Head) (rest : List ℕ) → AreBytes bytes → numbers_at kind part bytes ≡ Ok (h, rest)
    → (h.kind ≡ kind) × (h.part ≡ part)
    × Splits bytes (number_bytes h) rest
unfolding numbers_at
numbers_only kind part bytes h rest are e =
    let a = bound _ _ _ e in
    let b = bound _ _ _ a.then in
    let c = bound _ _ _ b.then in
    let d = bound _ _ _ c.then in
    let pair : (head kind part a.value.0 b.value.0 c.value.0 d.value.0, d.value.1) ≡ (h, rest) = got _ _ d.then in
    let is : head kind part a.value.0 b.value.0 c.value.0 d.value.0 ≡ h = ap (λ (p : Head × List ℕ). p.0) pair in
    let behind_it : d.value.1 ≡ rest = ap (λ (p : Head × List ℕ). p.1) pair in
    let first = number_only w32 exact32 bytes a.value.0 a.value.1 are a.first in
    let second = number_only w32 exact32 a.value.1 b.value.0 b.value.1 first.are b.first in
    let third = number_only w32 exact32 b.value.1 c.value.0 c.value.1 second.are c.first in
    let fourth = number_only w64 exact64 c.value.1 d.value.0 d.value.1 third.are d.first in
    let two = behind _ _ _ _ _ first second in
    let three = behind _ _ _ _ _ two third in
    let all = behind _ _ _ _ _ three fourth in (
      sym (ap (λ (x : Head). x.kind) is),
      sym (ap (λ (x : Head). x.part) is),
      subst (λ (r : List ℕ). Splits bytes (number_bytes h) r) behind_it
          (subst (λ (x : Head). Splits bytes (number_bytes x) d.value.1) is all),
    )

head_only : (bytes : List ℕ) (h : Head) (rest : List ℕ) → AreBytes bytes → head_at bytes ≡ Ok (h, rest) → Splits bytes (head_bytes h) rest
unfolding head_at
head_only [] h rest are e = absurd cc
head_only (kind ∷ []) h rest are e = absurd cc
head_only (kind ∷ (part ∷ bytes)) h rest are e =
    let its = numbers_only kind part bytes h rest (λ i. are (suc (suc i))) e in
    let tail : List ℕ = number_bytes h ++ rest in
    let first : kind ∷ (part ∷ bytes) ≡ kind ∷ (part ∷ tail) = ap (λ (x : List ℕ). kind ∷ (part ∷ x)) its.2.is in
    let second : kind ∷ (part ∷ tail) ≡ h.kind ∷ (part ∷ tail) = ap (λ (k : ℕ). k ∷ (part ∷ tail)) (sym its.0) in
    let third : h.kind ∷ (part ∷ tail) ≡ h.kind ∷ (h.part ∷ tail) = ap (λ (k : ℕ). h.kind ∷ (k ∷ tail)) (sym its.1) in
    record { is = first ∙ (second ∙ third); are = its.2.are }

-- ---- records

same_fields : (a b : Head) → same_head a b ≡ true → a ≡ b
same_fields a b e =
    let p = and_parts _ _ e in
    let q = and_parts _ _ p.0 in
    let r = and_parts _ _ q.0 in
    let s = and_parts _ _ r.0 in
    let t = and_parts _ _ s.0 in
    let kind = eqb-true a.kind b.kind t.0 in
    let part = eqb-true a.part b.part t.1 in
    let first = eqb-true a.first b.first s.1 in
    let second = eqb-true a.second b.second r.1 in
    let third = eqb-true a.third b.third q.1 in
    let moment = eqb-true a.moment b.moment p.1 in
    rw (kind, part, first, second, third, moment) refl

pub same_bytes : (a b : List ℕ) → bytes_eq a b ≡ true → a ≡ b
same_bytes a b same = search (rules, bytes_eq-Decides)

exactly_only : (h : Head) (text : List ℕ) (x r : Record) → exactly h text x ≡ Ok r → (head_of r ≡ h) × (text_of r ≡ text)
unfolding exactly
exactly_only h text x r e = by (same_head (head_of x) h && bytes_eq (text_of x) text) refl e
  where
    by : (b : Bool) → (same_head (head_of x) h && bytes_eq (text_of x) text) ≡ b → cond b (Ok x) (Err Unknown) ≡ Ok r → (head_of r ≡ h) × (text_of r ≡ text)
    by false other e = absurd cc
    by true both e =
        let same : x ≡ r = got x r e in
        let parts = and_parts _ _ both in
        (subst (λ y. head_of y ≡ h) same (same_fields (head_of x) h parts.0), subst (λ y. text_of y ≡ text) same (same_bytes (text_of x) text parts.1))

from_only : (h : Head) (text : List ℕ) (r : Record) → record_from h text ≡ Ok r → (head_of r ≡ h) × (text_of r ≡ text)
unfolding record_from
from_only h text r e =
    let step = bound (record_of h text) (exactly h text) r e in
    exactly_only h text step.value r step.then

-- a head, a text behind it and the record of both
joined : (bytes : List ℕ) (h : Head) (middle text : List ℕ) (r : Record) (rest : List ℕ) → Splits bytes (head_bytes h) middle
    → Splits middle (text_bytes text) rest → (head_of r ≡ h) × (text_of r ≡ text) → Splits bytes (encoding r) rest
joined bytes h middle text r rest p q same =
    subst (λ (x : Head). Splits bytes (head_bytes x ++ text_bytes (text_of r)) rest) (sym same.0) (
    subst (λ (x : List ℕ). Splits bytes (head_bytes h ++ text_bytes x) rest) (sym same.1)
    (behind bytes (head_bytes h) middle (text_bytes text) rest p q)
    )

abbrev behind_text : Head → List ℕ × List ℕ → Result (Record × List ℕ) RecordFault
behind_text h text = record_from h text.0 >>= λ (r : Record). Ok (r, text.1)

abbrev behind_head : Head × List ℕ → Result (Record × List ℕ) RecordFault
behind_head h = text_at h.1 >>= behind_text h.0

record_only : (bytes : List ℕ) (r : Record) (rest : List ℕ) → AreBytes bytes → record_at bytes ≡ Ok (r, rest) → Splits bytes (encoding r) rest
unfolding record_at
record_only bytes r rest are e =
    let a = bound (head_at bytes) behind_head (r, rest) e in
    by a.value.0 a.value.1 a.first a.then
  where
    last : (h : Head) (middle text after : List ℕ) → Splits bytes (head_bytes h) middle → Splits middle (text_bytes text) after
        → behind_text h (text, after) ≡ Ok (r, rest) → Splits bytes (encoding r) rest
    last h middle text after p q e =
        let c = bound (record_from h text) (λ (x : Record). Ok (x, after)) (r, rest) e in
        let pair : (c.value, after) ≡ (r, rest) = got (c.value, after) (r, rest) c.then in
        let same : c.value ≡ r = ap (λ (p : Record × List ℕ). p.0) pair in
        let behind_it : after ≡ rest = ap (λ (p : Record × List ℕ). p.1) pair in
        let fields = from_only h text r (subst (λ (x : Record). record_from h text ≡ Ok x) same c.first) in
        joined bytes h middle text r rest p (subst (Splits middle (text_bytes text)) behind_it q) fields

    by : (h : Head) (middle : List ℕ) → head_at bytes ≡ Ok (h, middle) → behind_head (h, middle) ≡ Ok (r, rest) → Splits bytes (encoding r) rest
    by h middle is e =
        let p = head_only bytes h middle are is in
        let b = bound (text_at middle) (behind_text h) (r, rest) e in
        last h middle b.value.0 b.value.1 p (text_only middle b.value.0 b.value.1 p.are b.first) b.then

pub only : (bytes : List ℕ) (r : Record) (rest : List ℕ) → AreBytes bytes → record_at bytes ≡ Ok (r, rest) → bytes ≡ encoding r ++ rest
only bytes r rest are e = (record_only bytes r rest are e).is

-- ---- batches

abbrev behind_first : ℕ → Record × List ℕ → Result (List Record × List ℕ) RecordFault
behind_first n first = records_at n first.1 >>= λ (x : List Record × List ℕ). Ok (first.0 ∷ x.0, x.1)

records_only : (n : ℕ) (bytes : List ℕ) (rs : List Record) (rest : List ℕ) → AreBytes bytes → records_at n bytes ≡ Ok (rs, rest)
    → (length rs ≡ n) × Splits bytes (encodings rs) rest
unfolding records_at
records_only zero bytes rs rest are e =
    let pair : ([], bytes) ≡ (rs, rest) = got _ _ e in
    let none : [] ≡ rs = ap (λ (p : List Record × List ℕ). p.0) pair in
    let behind_it : bytes ≡ rest = ap (λ (p : List Record × List ℕ). p.1) pair in (
      ap (λ (x : List Record). length x) (sym none),
      subst (λ (x : List Record). Splits bytes (encodings x) rest) none (record { is = behind_it; are = subst AreBytes behind_it are }),
    )
records_only (suc n) bytes rs rest are e =
    let a = bound (record_at bytes) (behind_first n) (rs, rest) e in
    let b = bound (records_at n a.value.1) (λ (x : List Record × List ℕ). Ok (a.value.0 ∷ x.0, x.1)) (rs, rest) a.then in
    let pair : (a.value.0 ∷ b.value.0, b.value.1) ≡ (rs, rest) = got _ _ b.then in
    let all : a.value.0 ∷ b.value.0 ≡ rs = ap (λ (p : List Record × List ℕ). p.0) pair in
    let behind_it : b.value.1 ≡ rest = ap (λ (p : List Record × List ℕ). p.1) pair in
    let first = record_only bytes a.value.0 a.value.1 are a.first in
    let others = records_only n a.value.1 b.value.0 b.value.1 first.are b.first in
    let both = behind bytes (encoding a.value.0) a.value.1 (encodings b.value.0) b.value.1 first others.1 in
    let front : encoding a.value.0 ++ encodings b.value.0 ≡ encodings rs = sym (flat_map-cons encoding a.value.0 b.value.0) ∙ ap encodings all in (
      ap (λ (x : List Record). length x) (sym all) ∙ ap suc others.0,
      subst (λ (x : List ℕ). Splits bytes x rest) front (subst (λ (x : List ℕ). Splits bytes (encoding a.value.0 ++ encodings b.value.0) x) behind_it both),
    )

pub batch_only : (bytes : List ℕ) (rs : List Record) (rest : List ℕ) → AreBytes bytes → batch_at bytes ≡ Ok (rs, rest) → bytes ≡ batch_encoding rs ++ rest
unfolding batch_at
batch_only bytes rs rest are e =
    let a = bound (number_at w32 bytes) (λ (n : ℕ × List ℕ). records_at n.0 n.1) (rs, rest) e in
    let number = number_only w32 exact32 bytes a.value.0 a.value.1 are a.first in
    let its = records_only a.value.0 a.value.1 rs rest number.are a.then in
    let all = behind bytes (to_be_bytes w32 a.value.0) a.value.1 (encodings rs) rest number its.1 in
    subst (λ (k : ℕ). bytes ≡ (to_be_bytes w32 k ++ encodings rs) ++ rest) (sym its.0) all.is
