-- What a header's fields are read as, and that they are read back.
use Rattle.std.proofs.Common.{◌≡◌, ℕ, ◌+◌, ◌^◌, ◌<◌, ◌≤◌, Bool, true, false, ◌&&◌, List, [], ◌∷◌, ◌++◌, length, get_or, take, drop, nat_le, nat_lt, Option, None, Some, Ok, Err, refl, sym, ap, subst, ◌∙◌, append_assoc, arith, rules, cond}
use Rattle.std.specs.Prelude.{◌==◌, IfOk, IsUtf8, Result}
use Rattle.std.specs.Int.{Width, w32, byte_len, from_be_bytes, to_be_bytes}
use Rattle.std.specs.Option.{ok_or, option_map_or}
use Rattle.std.specs.Str.{bytes_eq, is_utf8}
use Rattle.std.proofs.lemmas.Str.{IsUtf8-from_is_utf8, is_utf8-from_IsUtf8}
use Rattle.std.proofs.lemmas.Bool.{and_from, and_parts, le-ltb, eqb-true, leb-true, ltb-false}
use Rattle.std.proofs.lemmas.List.{append-nil, take_at, drop_at, length-append, take-append-drop, length-take-le, get_or-take, get_or-drop, get_or_past}
use Rattle.std.proofs.lemmas.Nat.{be_bytes_4, from_be_bytes-to_be_bytes_4}
use Rattle.std.proofs.lemmas.Slice.Eq.{bytes_eq-Decides}
use Rattle.book_recovery.specs.declared.header.Header.{Header}
use Rattle.book_recovery.specs.declared.fault.HeaderFault.{HeaderFault}
use Rattle.book_recovery.specs.declared.fault.HeaderFault.TheVariants.{NoHeader, OtherFormat, Damaged}
use Rattle.book_recovery.specs.inner.Header.{AreBytes, Contents, Fits, ◌>>=◌, contents_at, contents_bytes, contents_in, contents_of, fitting, format_in, header_bytes, header_in, magic, number_at, text_at, text_bytes}

-- ---- what fits

pub fit : (c : Contents) → Bool
fit c = nat_le 1 c.events_max && nat_le c.events_max 1000000 && nat_le (length c.version) 255 && is_utf8 c.version

abbrev fitting_by : Contents → Bool → Option Contents
fitting_by c yes_it_is = cond yes_it_is (Some c) None

pub fitting_text : (c : Contents) → 1 ≤ c.events_max → c.events_max ≤ 1000000 → length c.version ≤ 255 → IsUtf8 c.version → fitting c ≡ Some c
unfolding fitting
fitting_text c some few short text =
    let a : nat_le 1 c.events_max ≡ true = grind arith in
    let b : nat_le c.events_max 1000000 ≡ true = grind arith in
    let d : nat_le (length c.version) 255 ≡ true = grind arith in
    ap (fitting_by c) (and_from _ _ (and_from _ _ (and_from _ _ a b) d) (is_utf8-from_IsUtf8 c.version text))

pub fitting_no_text : (c : Contents) → (IsUtf8 c.version → ⊥) → fitting c ≡ None
unfolding fitting
fitting_no_text c no_text = by (is_utf8 c.version) refl
  where
    by : (b : Bool) → is_utf8 c.version ≡ b → fitting c ≡ None
    by true is = absurd (no_text (IsUtf8-from_is_utf8 c.version is))
    by false is = by_all (nat_le 1 c.events_max && nat_le c.events_max 1000000 && nat_le (length c.version) 255)
      where
        by_all : (a : Bool) → fitting_by c (a && is_utf8 c.version) ≡ None
        by_all true = ap (fitting_by c) is
        by_all false = refl

-- ---- what is written is read back

record IsWide (w : Width) (limit : ℕ) : Type 0 where
  len : (n : ℕ) → length (to_be_bytes w n) ≡ byte_len w
  again : (n : ℕ) → n < limit → from_be_bytes w (to_be_bytes w n) ≡ n

wide32 : IsWide w32 (2 ^ 32)
wide32 = record { len = λ n. refl; again = λ n lt. from_be_bytes-to_be_bytes_4 n lt }

wide_again : (w : Width) (limit : ℕ) (wide : IsWide w limit) (n : ℕ) (rest : List ℕ) → n < limit → number_at w (to_be_bytes w n ++ rest) ≡ Some (n, rest)
wide_again w limit wide n rest lt =
    let len = wide.len n in
    let long : nat_lt (length (to_be_bytes w n ++ rest)) (byte_len w) ≡ false = le-ltb _ _ (omega (arith, length-append (to_be_bytes w n) rest)) in
    rw (long, take_at (to_be_bytes w n) rest (byte_len w) len, drop_at (to_be_bytes w n) rest (byte_len w) len, wide.again n lt) refl

pub number_again : (n : ℕ) (rest : List ℕ) → n < 2 ^ 32 → number_at w32 (to_be_bytes w32 n ++ rest) ≡ Some (n, rest)
number_again n rest lt = wide_again w32 (2 ^ 32) wide32 n rest lt

pub text_again : (text rest : List ℕ) → length text < 2 ^ 32 → text_at (text_bytes text ++ rest) ≡ Some (text, rest)
unfolding text_at
text_again text rest lt =
    let long : nat_lt (length (text ++ rest)) (length text) ≡ false = le-ltb _ _ (omega (arith, length-append text rest)) in
    rw (number_again (length text) (text ++ rest) lt, long, take_at text rest (length text) refl, drop_at text rest (length text) refl) refl

pub contents_again : (c : Contents) → Fits c → contents_at (contents_bytes c) ≡ Some c
unfolding contents_at
contents_again c fits =
    let short : length c.version < 2 ^ 32 = omega (arith, fits.version) in
    let bound : c.events_max < 2 ^ 32 = omega (arith, fits.few) in
    let last : text_bytes c.document ≡ text_bytes c.document ++ [] = sym (append-nil (text_bytes c.document)) in
    let read : text_at (text_bytes c.document) ≡ Some (c.document, []) = ap text_at last ∙ text_again c.document [] fits.document in
    rw (
      number_again c.events_max (text_bytes c.version ++ text_bytes c.document) bound,
      text_again c.version (text_bytes c.document) short,
      read,
    ) (fitting_text c fits.some fits.few fits.version fits.version_text)

pub back : (c : Contents) → Fits c → header_in (header_bytes c) ≡ Ok c
unfolding header_in format_in contents_in
back c fits =
    let format : number_at w32 (to_be_bytes w32 1 ++ contents_bytes c) ≡ Some (1, contents_bytes c) = number_again 1 (contents_bytes c) (omega arith) in
    rw (format, contents_again c fits) refl

-- ---- bytes that are read are the encoding of what is read

pub record Bound {A B : Type 0} (x : Option A) (f : A → Option B) (b : B) : Type 0 where
  pub value : A
  pub first : x ≡ Some value
  pub then : f value ≡ Some b

pub bound : {A B : Type 0} (x : Option A) (f : A → Option B) (b : B) → (x >>= f) ≡ Some b → Bound x f b
bound (Some a) f b e = record { value = a; first = refl; then = e }
bound None f b e = absurd cc

pub got : {A : Type 0} (x y : A) → ◌≡◌ {A = Option A} (Some x) (Some y) → x ≡ y
got x y e = cc

bytes_taken : (n : ℕ) (bytes : List ℕ) → n ≤ length bytes → AreBytes bytes → AreBytes (take n bytes)
bytes_taken n bytes le are i = by (nat_lt i n) refl
  where
    by : (b : Bool) → nat_lt i n ≡ b → get_or (take n bytes) i 0 < 256
    by true lt = subst (λ x. x < 256) (sym (get_or-take n bytes i 0 (grind arith))) (are i)
    by false ge = subst (λ x. x < 256) (sym (get_or_past (take n bytes) i 0 (omega (arith, length-take-le n bytes le, ltb-false i n ge)))) (omega arith)

pub bytes_dropped : (n : ℕ) (bytes : List ℕ) → AreBytes bytes → AreBytes (drop n bytes)
bytes_dropped n bytes are i = subst (λ x. x < 256) (sym (get_or-drop n bytes i 0)) (are (n + i))

-- bytes are these, and others behind them, which are bytes too
pub record Splits (bytes front rest : List ℕ) : Type 0 where
  pub is : bytes ≡ front ++ rest
  pub are : AreBytes rest

split_at : (n : ℕ) (bytes front rest : List ℕ) → AreBytes bytes → take n bytes ≡ front → drop n bytes ≡ rest → Splits bytes front rest
split_at n bytes front rest are first second =
    record { is = sym (take-append-drop n bytes) ∙ (ap (λ x. x ++ drop n bytes) first ∙ ap (λ x. front ++ x) second); are = subst AreBytes second (bytes_dropped n bytes are) }

abbrev number_by : List ℕ → Bool → Option (ℕ × List ℕ)
number_by bytes short = cond short None (Some (from_be_bytes w32 (take 4 bytes), drop 4 bytes))

pub number_only : (bytes : List ℕ) (n : ℕ) (rest : List ℕ) → AreBytes bytes → number_at w32 bytes ≡ Some (n, rest) → Splits bytes (to_be_bytes w32 n) rest
number_only bytes n rest are e = by (nat_lt (length bytes) 4) refl e
  where
    by : (b : Bool) → nat_lt (length bytes) 4 ≡ b → number_by bytes b ≡ Some (n, rest) → Splits bytes (to_be_bytes w32 n) rest
    by true short e = absurd cc
    by false long e =
        let pair : (from_be_bytes w32 (take 4 bytes), drop 4 bytes) ≡ (n, rest) = got _ _ e in
        let le : 4 ≤ length bytes = ltb-false (length bytes) 4 long in
        let again : to_be_bytes w32 (from_be_bytes w32 (take 4 bytes)) ≡ take 4 bytes =
        be_bytes_4 (take 4 bytes) (from_be_bytes w32 (take 4 bytes)) (length-take-le 4 bytes le) (bytes_taken 4 bytes le are) refl in
        let front : to_be_bytes w32 n ≡ take 4 bytes = ap (to_be_bytes w32) (sym (ap (λ (p : ℕ × List ℕ). p.0) pair)) ∙ again in
        split_at 4 bytes (to_be_bytes w32 n) rest are (sym front) (ap (λ (p : ℕ × List ℕ). p.1) pair)

-- two splits, one behind the other
behind : (bytes a middle b rest : List ℕ) → Splits bytes a middle → Splits middle b rest → Splits bytes (a ++ b) rest
behind bytes a middle b rest p q = record { is = p.is ∙ (ap (λ x. a ++ x) q.is ∙ sym (append_assoc a b rest)); are = q.are }

abbrev text_by : ℕ → List ℕ → Bool → Option (List ℕ × List ℕ)
text_by n bytes short = cond short None (Some (take n bytes, drop n bytes))

text_only : (bytes text rest : List ℕ) → AreBytes bytes → text_at bytes ≡ Some (text, rest) → Splits bytes (text_bytes text) rest
unfolding text_at
text_only bytes text rest are e =
    let step = bound (number_at w32 bytes) (λ (n : ℕ × List ℕ). text_by n.0 n.1 (nat_lt (length n.1) n.0)) (text, rest) e in
    by step.value.0 step.value.1 step.first (nat_lt (length step.value.1) step.value.0) refl step.then
  where
    by : (n : ℕ) (behind_it : List ℕ) → number_at w32 bytes ≡ Some (n, behind_it) → (b : Bool) → nat_lt (length behind_it) n ≡ b
        → text_by n behind_it b ≡ Some (text, rest) → Splits bytes (text_bytes text) rest
    by n behind_it first true short e = absurd cc
    by n behind_it first false long e =
        let pair : (take n behind_it, drop n behind_it) ≡ (text, rest) = got _ _ e in
        let front : take n behind_it ≡ text = ap (λ (p : List ℕ × List ℕ). p.0) pair in
        let len : length text ≡ n = ap (λ (t : List ℕ). length t) (sym front) ∙ length-take-le n behind_it (ltb-false (length behind_it) n long) in
        let number = number_only bytes n behind_it are first in
        let its = split_at n behind_it text rest number.are front (ap (λ (p : List ℕ × List ℕ). p.1) pair) in
        behind bytes (to_be_bytes w32 (length text)) behind_it text rest (subst (λ k. Splits bytes (to_be_bytes w32 k) behind_it) (sym len) number) its

small : (bs : List ℕ) → AreBytes bs → from_be_bytes w32 bs < 2 ^ 32
small bs are = omega (arith, are 0, are 1, are 2, are 3)

text_short : (bytes text rest : List ℕ) → AreBytes bytes → text_at bytes ≡ Some (text, rest) → length text < 2 ^ 32
unfolding text_at
text_short bytes text rest are e =
    let step = bound (number_at w32 bytes) (λ (n : ℕ × List ℕ). text_by n.0 n.1 (nat_lt (length n.1) n.0)) (text, rest) e in
    by step.value.0 step.value.1 step.first (nat_lt (length step.value.1) step.value.0) refl step.then
  where
    number : (n : ℕ) (after : List ℕ) (b : Bool) → nat_lt (length bytes) 4 ≡ b → number_by bytes b ≡ Some (n, after) → n < 2 ^ 32
    number n after true short e = absurd cc
    number n after false long e =
        let pair : (from_be_bytes w32 (take 4 bytes), drop 4 bytes) ≡ (n, after) = got _ _ e in
        let le : 4 ≤ length bytes = ltb-false (length bytes) 4 long in
        subst (λ (k : ℕ). k < 2 ^ 32) (ap (λ (p : ℕ × List ℕ). p.0) pair) (small (take 4 bytes) (bytes_taken 4 bytes le are))

    by : (n : ℕ) (behind_it : List ℕ) → number_at w32 bytes ≡ Some (n, behind_it) → (b : Bool) → nat_lt (length behind_it) n ≡ b
        → text_by n behind_it b ≡ Some (text, rest) → length text < 2 ^ 32
    by n behind_it first true short e = absurd cc
    by n behind_it first false long e =
        let pair : (take n behind_it, drop n behind_it) ≡ (text, rest) = got _ _ e in
        let len : length text ≡ n = ap (λ (t : List ℕ). length t) (sym (ap (λ (p : List ℕ × List ℕ). p.0) pair)) ∙ length-take-le n behind_it (ltb-false (length behind_it) n long) in
        subst (λ (k : ℕ). k < 2 ^ 32) (sym len) (number n behind_it (nat_lt (length bytes) 4) refl first)

-- the tests of what fits
fits_of : (a : Contents) (c : Contents) → fitting a ≡ Some c → (a ≡ c) × (fit c ≡ true)
unfolding fitting fit
fits_of a c e = by (fit a) refl e
  where
    by : (b : Bool) → fit a ≡ b → fitting_by a b ≡ Some c → (a ≡ c) × (fit c ≡ true)
    by false is e = absurd cc
    by true is e = let same : a ≡ c = got a c e in (same, subst (λ (x : Contents). fit x ≡ true) same is)

abbrev ending : ℕ → List ℕ → List ℕ × List ℕ → Option Contents
ending events_max version document =
    cond (length document.1 == 0) (fitting (record { events_max = events_max; version = version; document = document.0 })) None

-- bytes are the encoding of contents that pass the tests
pub record IsEncoded (bytes : List ℕ) (c : Contents) : Type 0 where
  pub is : bytes ≡ contents_bytes c
  pub fits : fit c ≡ true
  pub short : length c.document < 2 ^ 32

no_bytes : (bytes : List ℕ) → length bytes ≡ 0 → bytes ≡ []
no_bytes [] is = refl
no_bytes (b ∷ bytes) is = absurd cc

pub contents_only : (bytes : List ℕ) (c : Contents) → AreBytes bytes → contents_at bytes ≡ Some c → IsEncoded bytes c
unfolding contents_at
contents_only bytes c are e =
    let a = bound (number_at w32 bytes) (λ (x : ℕ × List ℕ). text_at x.1 >>= λ (y : List ℕ × List ℕ). text_at y.1 >>= ending x.0 y.0) c e in
    let b = bound (text_at a.value.1) (λ (y : List ℕ × List ℕ). text_at y.1 >>= ending a.value.0 y.0) c a.then in
    let d = bound (text_at b.value.1) (ending a.value.0 b.value.0) c b.then in
    last a.value.0 a.value.1 b.value.0 b.value.1 d.value.0 d.value.1 a.first b.first d.first d.then
  where
    last : (n : ℕ) (after_n : List ℕ) (version after_version document after : List ℕ) → number_at w32 bytes ≡ Some (n, after_n)
        → text_at after_n ≡ Some (version, after_version) → text_at after_version ≡ Some (document, after)
        → ending n version (document, after) ≡ Some c → IsEncoded bytes c
    last n after_n version after_version document after first second third e = by (length after == 0) refl e
      where
        its : Contents
        its = record { events_max = n; version = version; document = document }

        by : (b : Bool) → (length after == 0) ≡ b → cond b (fitting its) None ≡ Some c → IsEncoded bytes c
        by false more e = absurd cc
        by true done e =
            let p = number_only bytes n after_n are first in
            let q = text_only after_n version after_version p.are second in
            let r = text_only after_version document after q.are third in
            let all = behind bytes (to_be_bytes w32 n) after_n (text_bytes version ++ text_bytes document) after p (behind after_n (text_bytes version) after_version (text_bytes document) after q r) in
            let none : after ≡ [] = no_bytes after (eqb-true (length after) 0 done) in
            let is : bytes ≡ contents_bytes its = all.is ∙ (ap (λ x. contents_bytes its ++ x) none ∙ append-nil (contents_bytes its)) in
            let kept = fits_of its c e in
            record { is = is ∙ ap contents_bytes kept.0; fits = kept.1; short = subst (λ (x : Contents). length x.document < 2 ^ 32) kept.0 (text_short after_version document after q.are third) }

-- ---- headers

pub same_bytes : (a b : List ℕ) → bytes_eq a b ≡ true → a ≡ b
same_bytes a b same = search (rules, bytes_eq-Decides)

format_only : (bytes : List ℕ) (c : Contents) → AreBytes bytes → format_in bytes ≡ Ok c
    → (bytes ≡ to_be_bytes w32 1 ++ contents_bytes c) × (fit c ≡ true) × (length c.document < 2 ^ 32)
unfolding format_in contents_in
format_only bytes c are e = by (number_at w32 bytes) refl e
  where
    at : (n : ℕ) (after : List ℕ) → number_at w32 bytes ≡ Some (n, after) → (b : Bool) → (n == 1) ≡ b → (o : Option Contents) → contents_at after ≡ o
        → cond b (ok_or o Damaged) (Err (OtherFormat n)) ≡ Ok c
        → (bytes ≡ to_be_bytes w32 1 ++ contents_bytes c) × (fit c ≡ true) × (length c.document < 2 ^ 32)
    at n after first false other o read e = absurd cc
    at n after first true own None read e = absurd cc
    at n after first true own (Some x) read e =
        let same : x ≡ c = cc in
        let p = number_only bytes n after are first in
        let its = contents_only after x p.are read in
        let one : n ≡ 1 = eqb-true n 1 own in (
          p.is ∙ (ap (λ (k : ℕ). to_be_bytes w32 k ++ after) one ∙ ap (λ (x : List ℕ). to_be_bytes w32 1 ++ x) (its.is ∙ ap contents_bytes same)),
          subst (λ (y : Contents). fit y ≡ true) same its.fits,
          subst (λ (y : Contents). length y.document < 2 ^ 32) same its.short,
        )

    by : (o : Option (ℕ × List ℕ)) → number_at w32 bytes ≡ o → option_map_or contents_in o (Err Damaged) ≡ Ok c
        → (bytes ≡ to_be_bytes w32 1 ++ contents_bytes c) × (fit c ≡ true) × (length c.document < 2 ^ 32)
    by None is e = absurd cc
    by (Some x) is e = at x.0 x.1 is (x.0 == 1) refl (contents_at x.1) refl e

header_only : (bytes : List ℕ) (c : Contents) → AreBytes bytes → header_in bytes ≡ Ok c
    → (bytes ≡ header_bytes c) × (fit c ≡ true) × (length c.document < 2 ^ 32)
unfolding header_in
header_only bytes c are e = by (bytes_eq (take 4 bytes) magic) refl e
  where
    by : (b : Bool) → bytes_eq (take 4 bytes) magic ≡ b → cond b (format_in (drop 4 bytes)) (Err NoHeader) ≡ Ok c
        → (bytes ≡ header_bytes c) × (fit c ≡ true) × (length c.document < 2 ^ 32)
    by false other e = absurd cc
    by true letters e =
        let its = format_only (drop 4 bytes) c (bytes_dropped 4 bytes are) e in
        let front : take 4 bytes ≡ magic = same_bytes (take 4 bytes) magic letters in (
          sym (take-append-drop 4 bytes) ∙ (ap (λ (x : List ℕ). x ++ drop 4 bytes) front ∙ ap (λ (x : List ℕ). magic ++ x) its.0),
          its.1,
          its.2,
        )

pub only : (bytes : List ℕ) (c : Contents) → AreBytes bytes → header_in bytes ≡ Ok c → bytes ≡ header_bytes c
only bytes c are e = (header_only bytes c are e).0

pub fits : (bytes : List ℕ) (c : Contents) → AreBytes bytes → header_in bytes ≡ Ok c → Fits c
unfolding fit
fits bytes c are e =
    let its = header_only bytes c are e in
    let p = and_parts _ _ its.1 in
    let q = and_parts _ _ p.0 in
    let r = and_parts _ _ q.0 in
    record {
      some = leb-true 1 c.events_max r.0;
      few = leb-true c.events_max 1000000 r.1;
      version = leb-true (length c.version) 255 q.1;
      version_text = IsUtf8-from_is_utf8 c.version p.1;
      document = its.2;
    }

-- what was read, whatever it is
pub read_only : (bytes : List ℕ) (r : Result Header HeaderFault) → AreBytes bytes → IfOk r (λ h. header_in bytes ≡ Ok (contents_of h))
    → IfOk r (λ h. bytes ≡ header_bytes (contents_of h))
read_only bytes (Ok h) are is = only bytes (contents_of h) are is
read_only bytes (Err e) are is = tt

pub read_fits : (bytes : List ℕ) (r : Result Header HeaderFault) → AreBytes bytes → IfOk r (λ h. header_in bytes ≡ Ok (contents_of h))
    → IfOk r (λ h. Fits (contents_of h))
read_fits bytes (Ok h) are is = fits bytes (contents_of h) are is
read_fits bytes (Err e) are is = tt
